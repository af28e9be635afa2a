-- Values by the numbers of peers, and what the tables of a message must say.
use Rattle.std.specs.Prelude.{◌≡◌, ℕ, Bool, true, false, nat_le, slice_get, unwrap_or, List}
use Rattle.gs_base.specs.declared.names.PeerNo.{PeerNo}
use Rattle.gs_base.specs.declared.names.Millis.{Millis}
use Rattle.gs_plan.specs.declared.plan.Dial.{Dial}
use Rattle.gs_plan.specs.declared.plan.Plan.{Plan}
use Rattle.gs_reach.specs.declared.table.Table.{Table}
use Rattle.gs_reach.specs.declared.linked.Linked.{Linked}
use Rattle.gs_reach.specs.declared.linked.Linked.TheVariants.{Never, Until, Always}
use Rattle.gs_reach.specs.declared.listed.Appearance.{Appearance}
use Rattle.gs_reach.specs.declared.listed.Listed.{Listed}
use Rattle.gs_reach.specs.declared.listed.Loss.{Loss}
use Rattle.gs_reach.specs.declared.tables.Tables.{Tables}
use Rattle.gs_reach.specs.Messages.{publishes, rounds_to, was_linked, was_subscribed}

-- the value of a peer
abbrev pub cell : {T : Type 0} → Table T → PeerNo → T
cell table q = unwrap_or (slice_get table.cells.items q.0) table.other

-- linked before a moment
abbrev pub is_linked_at : Linked → ℕ → Bool
is_linked_at Never at = false
is_linked_at (Until last) at = nat_le at last
is_linked_at Always at = true

-- for each peer and each moment, the table says whether the peer was linked before it
abbrev pub AreLinks : List Dial → List Loss → Table Linked → Type 0
AreLinks dials losses links = (q : PeerNo) (at : Millis) → is_linked_at (cell links q) at.0 ≡ was_linked dials losses at q

-- the tables say for each peer whether it publishes a message, whether it was subscribed, and in how many rounds it was reached
pub record AreTablesOf (plan : Plan) (l : Listed) (m : Appearance) (tables : Tables) : Type 0 where
  pub publishers : (q : PeerNo) → cell tables.publishers q ≡ publishes l.published m q
  pub subscribed : (q : PeerNo) → cell tables.subscribed q ≡ was_subscribed l.changes m.topic m.at q
  pub rounds : (q : PeerNo) → cell tables.rounds q ≡ rounds_to plan l m q
