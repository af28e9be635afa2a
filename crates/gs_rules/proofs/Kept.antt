-- Each message that a legal trace keeps fits a frame by itself, as it is sent to who asks for it.
use Rattle.std.proofs.Common.{◌≡◌, ℕ, ◌≤◌, arith, Bool, true, false, List, [], ◌∷◌, ◌++◌, length, ap, subst, if◌then◌else◌, Option, Some, None}
use Rattle.std.specs.List.{AllByRecursion, IsAmong}
use Rattle.std.specs.Prelude.{nat_lt, option_map}
use Rattle.std.proofs.lemmas.Bool.{le-leb}
use Rattle.std.proofs.lemmas.Bool.Decides.{nat_tests}
use Rattle.gs_base.specs.declared.names.PeerNo.{PeerNo}
use Rattle.gs_base.specs.declared.names.Topic.{Topic}
use Rattle.gs_base.specs.declared.names.MsgId.{MsgId}
use Rattle.gs_base.specs.declared.mark.Mark.{Mark}
use Rattle.gs_base.specs.declared.mark.Mark.TheVariants.{Cached}
use Rattle.gs_base.specs.declared.rpc.Message.{Message}
use Rattle.gs_base.specs.declared.rpc.Rpc.{Rpc}
use Rattle.gs_base.specs.Names.{same_id}
use Rattle.gs_wire.specs.Codec.{codec}
use Rattle.gs_wire.specs.Messages.{body, longest_body}
use Rattle.gs_wire.specs.Fields.{len_record}
use Rattle.gs_wire.proofs.RoundTrip.{all-append}
use Rattle.gs_wire.proofs.SentOn.{passed_on_shorter}
use Rattle.gs_wire.proofs.Written.{len_text-length, records_text-single, varint_ten}
use Rattle.gs_rules.specs.declared.event.Event.{Event}
use Rattle.gs_rules.specs.declared.event.Event.TheVariants.{Heard, Part, Step, Own}
use Rattle.gs_rules.specs.declared.event.RpcPart.{RpcPart}
use Rattle.gs_rules.specs.declared.event.RpcPart.TheVariants.{Msg}
use Rattle.gs_rules.specs.declared.event.BeatStep.TheVariants.{MeshBeat, GossipBeat, BeatEnd}
use Rattle.gs_plan.specs.declared.plan.Act.TheVariants.{Publish}
use Rattle.gs_rules.specs.declared.trace.Entry.{Entry}
use Rattle.gs_rules.specs.Peers.{Peer, windows}
use Rattle.gs_rules.specs.Tables.{Entries, Keeping, after_marks, aged_after, blank, keeping, kept, kept_after, last_kept, message_in, older, own_topics}
use Rattle.gs_base.specs.Rpcs.{passed_on}
use Rattle.gs_rules.specs.Owed.{gossip_topics, heartbeat_groups, owed}
use Rattle.gs_rules.specs.Parts.{parts}
use Rattle.gs_rules.specs.Rules.{answer, answers, times_in, with_message}
use Rattle.gs_rules.specs.Legal.{IsNext, Legal}
use Rattle.gs_rules.proofs.Legality.{legal_newest}
use Rattle.gs_rules.proofs.Each.{of_each}
use Rattle.gs_rules.proofs.Owed.{IsMessageOf, OwesSuch, ReachesSuch, always_such, heartbeat_is_such, messages_are_such, next_is_such, opens}

-- by itself it fits a frame
abbrev pub FitsAlone : Message → Type 0
FitsAlone m = codec.fits (passed_on m) ≡ true

-- ---- messages that are owed

-- where the event brings a message, this fits
abbrev BringsFitting : Event → Type 0
BringsFitting (Part q (Msg m)) = FitsAlone m
BringsFitting other = Unit {0}

-- a message of an RPC that fits does so too
alone_fits : (rpc : Rpc) (m : Message) → codec.fits rpc ≡ true → IsAmong rpc.publish m → FitsAlone m
alone_fits rpc m fits among =
    let whole : length (body rpc) ≤ longest_body = grind (arith, nat_tests) in
    le-leb (length (body (passed_on m))) longest_body (omega (arith, whole, passed_on_shorter rpc m among))

parts_fit : (q : PeerNo) (rpc : Rpc) → codec.fits rpc ≡ true → AllByRecursion BringsFitting (parts q rpc)
parts_fit q rpc fits = messages_are_such BringsFitting q rpc each
  where
    each : (part : RpcPart) → IsMessageOf rpc part → BringsFitting (Part q part)
    each (Msg m) among = alone_fits rpc m fits among
    each other among = tt

-- after any trace
abbrev FittingAnywhere : Entries → Event → Type 0
FittingAnywhere = λ M. BringsFitting

heartbeat_fits : (p : Peer) (at : ℕ) → ReachesSuch p (Legal p) FittingAnywhere (heartbeat_groups at)
heartbeat_fits p at =
    heartbeat_is_such p (Legal p) FittingAnywhere at
    (λ M legal. of_each (λ (t : Topic). BringsFitting (Step (MeshBeat t))) (λ t. tt) (own_topics M)) (λ M t. tt) (λ M t. tt)
    (λ M legal. of_each (λ (t : Topic). BringsFitting (Step (GossipBeat t))) (λ t. tt) (gossip_topics p M)) (λ M. tt)

heard_fits : (p : Peer) (L : Entries) (e : Entry) (q : PeerNo) (rpc : Rpc) → Legal p (e ∷ L) → e.event ≡ Heard q rpc → AllByRecursion BringsFitting (parts q rpc)
heard_fits p L e q rpc legal is =
    parts_fit q rpc (opens p L e.at.0 (Heard q rpc) (λ h. h) (subst (IsNext p L e.at.0 (owed p L).events) is (legal_newest p e L legal).next)).fits

owed_fit : (p : Peer) (L : Entries) → Legal p L → OwesSuch p (Legal p) FittingAnywhere L (owed p L)
owed_fit p L legal = always_such p FittingAnywhere (λ M e own event is. is) (heard_fits p) (heartbeat_fits p) L legal

-- ---- the message of an event

-- a message without any field takes few bytes
blank_fits : FitsAlone blank
blank_fits = le-leb (length (body (passed_on blank))) longest_body (omega (arith, ap length (records_text-single (len_record 2 [])), len_text-length 2 [] (omega arith), varint_ten 0))

-- what comes next brings a message that fits, or one without any field
pub next_fits : (p : Peer) (L : Entries) (at : ℕ) (event : Event) → Legal p L → IsNext p L at (owed p L).events event → FitsAlone (message_in event)
next_fits p L at (Part q (Msg m)) legal next = next_is_such BringsFitting p L at (owed p L).events (Part q (Msg m)) (owed_fit p L legal).0 (λ h. h) next
next_fits p L at (Own (Publish t payload)) legal next = (opens p L at (Own (Publish t payload)) (λ h. h) next).fits
next_fits p L at other legal next = blank_fits

-- ---- messages that are kept

abbrev KeepsFitting : Option Keeping → Type 0
KeepsFitting None = Unit {0}
KeepsFitting (Some k) = FitsAlone k.message

mark_keeps : (id : MsgId) (event : Event) (mark : Mark) (before : Option Keeping) → FitsAlone (message_in event) → KeepsFitting before → KeepsFitting (kept_after id event mark before)
mark_keeps id event (Cached other t) before fits h = by (same_id other id)
  where
    by : (same : Bool) → KeepsFitting (if same then Some (record { topic = t; message = message_in event; age = 0 }) else before)
    by true = fits
    by false = h
mark_keeps id event other before fits h = h

marks_keep : (id : MsgId) (event : Event) (marks : List Mark) (before : Option Keeping) → FitsAlone (message_in event) → KeepsFitting before → KeepsFitting (after_marks (kept_after id event) marks before)
marks_keep id event [] before fits h = h
marks_keep id event (mark ∷ marks) before fits h = marks_keep id event marks (kept_after id event mark before) fits (mark_keeps id event mark before fits h)

older_fits : (before : Option Keeping) → KeepsFitting before → KeepsFitting (older before)
older_fits None h = tt
older_fits (Some k) h = h

aged_fits : (event : Event) (before : Option Keeping) → KeepsFitting before → KeepsFitting (aged_after event before)
aged_fits (Step BeatEnd) before h = older_fits before h
aged_fits other before h = h

last_kept_fits : (p : Peer) (L : Entries) (id : MsgId) → Legal p L → KeepsFitting (last_kept L id)
last_kept_fits p [] id legal = tt
last_kept_fits p (e ∷ L) id legal =
    marks_keep id e.event e.effects.marks (aged_after e.event (last_kept L id)) (next_fits p L e.at.0 e.event legal.1 (legal_newest p e L legal).next)
    (aged_fits e.event (last_kept L id) (last_kept_fits p L id legal.1))

-- what was kept last fits, and so it does while it is kept
keeping_fits : (len : ℕ) (last : Option Keeping) → KeepsFitting last → KeepsFitting (keeping len last)
keeping_fits len None h = tt
keeping_fits len (Some k) h = by (nat_lt k.age len)
  where
    by : (young : Bool) → KeepsFitting (if young then Some k else None)
    by true = h
    by false = tt

kept_fits : (p : Peer) (L : Entries) (id : MsgId) → Legal p L → KeepsFitting (kept (windows p) L id)
kept_fits p L id legal = keeping_fits (windows p) (last_kept L id) (last_kept_fits p L id legal)

-- ---- messages that are sent to who asks

-- an identifier with its message, which fits
abbrev pub AllAlone : List (MsgId × Message) → Type 0
AllAlone given = AllByRecursion (λ (x : MsgId × Message). FitsAlone x.1) given

one_answer : (id : MsgId) (may : Bool) (k : Option Keeping) → KeepsFitting k → AllAlone (with_message id (if may then option_map (λ (k : Keeping). k.message) k else None))
one_answer id true None h = tt
one_answer id true (Some k) h = (h, tt)
one_answer id false k h = tt

pub answers_fit : (p : Peer) (L : Entries) (q : PeerNo) (ahead ids : List MsgId) → Legal p L → AllAlone (answers p L q ahead ids)
answers_fit p L q ahead [] legal = tt
answers_fit p L q ahead (id ∷ ids) legal =
    all-append (λ (x : MsgId × Message). FitsAlone x.1) (with_message id (answer p L q id (times_in id ahead))) (answers p L q (ahead ++ id ∷ []) ids)
    (one_answer id _ (kept (windows p) L id) (kept_fits p L id legal))
    (answers_fit p L q (ahead ++ id ∷ []) ids legal)
