-- The RPCs that a router sends.
use Rattle.std.specs.Prelude.{ℕ, min, Bool, List, [], ◌∷◌, Option, None, Some, slice_get, unwrap_or}
use Rattle.gs_base.specs.declared.names.Topic.{Topic}
use Rattle.gs_base.specs.declared.rpc.Message.{Message}
use Rattle.gs_base.specs.declared.rpc.Rpc.{Rpc}
use Rattle.gs_base.specs.declared.control.Control.{Control}
use Rattle.gs_base.specs.declared.control.IHave.{IHave}
use Rattle.gs_base.specs.declared.control.IWant.{IWant}
use Rattle.gs_base.specs.declared.control.Graft.{Graft}
use Rattle.gs_base.specs.declared.control.Prune.{Prune}

-- the longest backoff that a router asks for or obeys, in seconds
abbrev pub longest_backoff : ℕ
longest_backoff = 86_400

-- the most identifiers in an offer or a request
abbrev pub most_identifiers : ℕ
most_identifiers = 5_000

-- an RPC that says nothing
abbrev pub empty_rpc : Rpc
empty_rpc = record { subs = []; publish = []; control = None }

-- no control messages
abbrev pub empty_control : Control
empty_control = record { ihave = []; iwant = []; graft = []; prune = [] }

-- an RPC that says that its sender subscribes to the topic, or leaves it
abbrev pub announcement : Bool → Topic → Rpc
announcement subscribes topic = record empty_rpc {
  subs = record { subscribe = Some subscribes; topic = Some topic } ∷ [];
}

-- a message with only a payload and a topic, as StrictNoSign has it
abbrev pub unsigned : Topic → List ℕ → Message
unsigned topic payload = record {
  origin = None;
  payload = Some payload;
  seqno = None;
  topic = Some topic;
  signature = None;
  key = None;
}

-- the part at a place of a list, counted from 0, or the given part if the list has none there
abbrev pub part_at : {P : Type 0} → P → List P → ℕ → P
part_at bare parts place = unwrap_or (slice_get parts place) bare

-- the offers among control messages
abbrev pub offers_in : Option Control → List IHave
offers_in None = []
offers_in (Some control) = control.ihave

-- the requests
abbrev pub requests_in : Option Control → List IWant
requests_in None = []
requests_in (Some control) = control.iwant

-- the grafts
abbrev pub grafts_in : Option Control → List Graft
grafts_in None = []
grafts_in (Some control) = control.graft

-- the prunes
abbrev pub prunes_in : Option Control → List Prune
prunes_in None = []
prunes_in (Some control) = control.prune

-- an RPC with only one message, as it was heard
abbrev pub passed_on : Message → Rpc
passed_on message = record empty_rpc { publish = message ∷ [] }

-- an RPC that publishes one message under StrictNoSign
abbrev pub publication : Topic → List ℕ → Rpc
publication topic payload = passed_on (unsigned topic payload)

-- an offer of messages on a topic (gossipsub v1.0, "Control messages", IHAVE)
abbrev pub offering : Topic → List (List ℕ) → Rpc
offering topic ids = record empty_rpc {
  control = Some (record empty_control { ihave = record { topic = Some topic; ids = ids } ∷ [] });
}

-- a request for messages (gossipsub v1.0, "Control messages", IWANT)
abbrev pub requesting : List (List ℕ) → Rpc
requesting ids = record empty_rpc { control = Some (record empty_control { iwant = record { ids = ids } ∷ [] }) }

-- an RPC that says that its receiver was grafted (gossipsub v1.0, "Control messages", GRAFT)
abbrev pub grafting : Topic → Rpc
grafting topic = record empty_rpc {
  control = Some (record empty_control { graft = record { topic = Some topic } ∷ [] });
}

-- an RPC that says that its receiver was pruned, and for how many seconds it must not come back (gossipsub v1.1, "Prune
-- Backoff")
abbrev pub pruning : Topic → ℕ → Rpc
pruning topic seconds = record empty_rpc {
  control
      = Some (record empty_control {
        prune = record { topic = Some topic; backoff = Some (min seconds longest_backoff) } ∷ [];
      });
}
