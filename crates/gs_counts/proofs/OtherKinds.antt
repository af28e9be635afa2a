-- Most of what happens is of other kinds than the RPCs that go out and those that come.
use Rattle.std.proofs.Common.{◌≡◌, ℕ, ◌+◌, Bool, true, false, if◌then◌else◌, List, [], ◌∷◌, ◌++◌, length, map, Option, Some, None, refl, ap, ap₂, ◌∙◌}
use Rattle.std.specs.List.{flat_map, sum_by, AllByRecursion}
use Rattle.std.proofs.lemmas.List.Sums.{sum_by-append, sum_by-cons}
use Rattle.gs_base.specs.declared.names.MsgId.{MsgId}
use Rattle.gs_base.specs.declared.names.PeerNo.{PeerNo}
use Rattle.gs_base.specs.declared.names.Topic.{Topic}
use Rattle.gs_base.specs.declared.mark.Mark.{Mark}
use Rattle.gs_base.specs.declared.mark.Mark.TheVariants as marks
use Rattle.gs_base.specs.declared.control.Control.{Control}
use Rattle.gs_base.specs.declared.control.IWant.{IWant}
use Rattle.gs_base.specs.declared.rpc.Message.{Message}
use Rattle.gs_base.specs.declared.rpc.Rpc.{Rpc}
use Rattle.gs_base.specs.Names.{same_peer}
use Rattle.gs_plan.specs.declared.plan.Act.{Act}
use Rattle.gs_plan.specs.declared.plan.Act.TheVariants.{Subscribe, Unsubscribe, Publish, Raw, HangUp}
use Rattle.gs_wire.specs.Codec.{codec}
use Rattle.gs_wire.specs.Messages.{body}
use Rattle.gs_wire.proofs.RoundTrip.{all-append}
use Rattle.gs_rules.specs.declared.event.Event.{Event}
use Rattle.gs_rules.specs.declared.event.Event.TheVariants.{Part, Step, Own, Lost}
use Rattle.gs_rules.specs.declared.event.Loss.{Loss}
use Rattle.gs_rules.specs.declared.event.Loss.TheVariants.{Gone, Fault}
use Rattle.gs_rules.specs.declared.event.RpcPart.{RpcPart}
use Rattle.gs_rules.specs.declared.event.RpcPart.TheVariants.{Sub, Msg, Have, Want, GraftIn, PruneIn}
use Rattle.gs_rules.specs.declared.fallen.Fallen.{Fallen}
use Rattle.gs_rules.specs.declared.fallen.Fallen.TheVariants as fallen
use Rattle.gs_rules.specs.declared.fallen.NoAnswer.{NoAnswer}
use Rattle.gs_rules.specs.declared.fallen.NoAnswer.TheVariants.{Ignored, NotKept, TooOften}
use Rattle.gs_rules.specs.declared.outcome.GraftAnswer.{GraftAnswer}
use Rattle.gs_rules.specs.declared.outcome.GraftAnswer.TheVariants.{PassedOver, Refused, Taken}
use Rattle.gs_rules.specs.declared.outcome.GraftRefusal.{GraftRefusal}
use Rattle.gs_rules.specs.declared.outcome.GraftRefusal.TheVariants.{Explicit, TooSoon, Negative, Full}
use Rattle.gs_rules.specs.declared.refusal.RefusedLine.{RefusedLine}
use Rattle.gs_rules.specs.declared.trace.Entry.{Entry}
use Rattle.gs_rules.specs.declared.trace.Promise.{Promise}
use Rattle.gs_rules.specs.FellAway.{broken, fallen_graft, fallen_part, fallen_request, why_no_answer, without_answer, without_answers}
use Rattle.gs_rules.specs.MeshRules.{graft_answer}
use Rattle.gs_rules.specs.Peers.{Peer}
use Rattle.gs_rules.specs.Rules.{answer, ids_in, times_in}
use Rattle.gs_rules.specs.Scoring.{is_ignored}
use Rattle.gs_rules.specs.Tables.{Entries}
use Rattle.gs_base.specs.Names.{topic_or_empty}
use Rattle.gs_counts.specs.declared.fate.Fate.{Fate}
use Rattle.gs_counts.specs.declared.fate.Fate.TheVariants as fates
use Rattle.gs_counts.specs.declared.happening.Happening.{Happening}
use Rattle.gs_counts.specs.declared.happening.Scene.{Scene}
use Rattle.gs_counts.specs.declared.kind.Kind.{Kind}
use Rattle.gs_counts.specs.declared.kind.Kind.TheVariants.{RpcsGraylisted, RpcsHeard, RpcsLate, RpcsSent}
use Rattle.gs_counts.specs.Changes.{cause_happenings, delivery_happenings, graft_cause, mark_happenings, prune_cause, refusal_happenings}
use Rattle.gs_counts.specs.Happenings.{heard_of, on_none}
use Rattle.gs_counts.specs.Heard.{event_happenings, fallen_happenings, graft_refusal_kind, loss_happenings, message_happenings, no_answer_kind, part_happenings}
use Rattle.gs_counts.specs.Kinds.{same_kind}
use Rattle.gs_counts.specs.Lanes.{raw_happenings, raw_out}
use Rattle.gs_counts.specs.Runs.{done_happenings}
use Rattle.gs_counts.specs.Sent.{bytes_kind, bytes_sent, control_sent, graft_sent, ihave_sent, is_answer, iwant_sent, message_sent, message_sent_kind, prune_sent, rpc_sent, send_happenings, sub_sent}
use Rattle.gs_counts.proofs.Adding.{adds, and_nothing, comes}

-- it is none of the four kinds
abbrev pub IsOther : Kind → Type 0
IsOther kind =
    (same_kind kind RpcsHeard ≡ false)
    × (same_kind kind RpcsGraylisted ≡ false)
    × (same_kind kind RpcsLate ≡ false)
    × (same_kind kind RpcsSent ≡ false)

abbrev pub AreOther : List Happening → Type 0
AreOther hs = AllByRecursion (λ h. IsOther h.kind) hs

-- each kind but these four
is_other : (false ≡ false) × (false ≡ false) × (false ≡ false) × (false ≡ false)
is_other = (refl, refl, refl, refl)

both_other : (hs gs : List Happening) → AreOther hs → AreOther gs → AreOther (hs ++ gs)
both_other hs gs h k = all-append (λ (x : Happening). IsOther x.kind) hs gs h k

each_other : {A : Type 0} (f : A → List Happening) (xs : List A) → ((x : A) → AreOther (f x)) → AreOther (flat_map f xs)
each_other f [] other = tt
each_other f (x ∷ xs) other = both_other (f x) (flat_map f xs) (other x) (each_other f xs other)

-- ---- what is sent

control_other : (s : Scene) (control : Option Control) → AreOther (control_sent s control)
control_other s None = tt
control_other s (Some control) =
    let prunes : List Happening = flat_map (prune_sent s) control.prune in
    let grafts : List Happening = flat_map (graft_sent s) control.graft in
    let requests : List Happening = flat_map (iwant_sent s) control.iwant in
    both_other (flat_map (ihave_sent s) control.ihave) (requests ++ (grafts ++ prunes))
    (each_other (ihave_sent s) control.ihave (λ offer. (is_other, (is_other, tt))))
    (both_other requests (grafts ++ prunes)
    (each_other (iwant_sent s) control.iwant (λ request. (is_other, (is_other, tt))))
    (both_other grafts prunes
    (each_other (graft_sent s) control.graft (λ graft. (is_other, tt)))
    (each_other (prune_sent s) control.prune (λ prune. (is_other, tt)))))

bytes_kind_other : (ms : List Message) (control : Option Control) → IsOther (bytes_kind ms control)
bytes_kind_other (m ∷ ms) control = is_other
bytes_kind_other [] (Some control) = is_other
bytes_kind_other [] None = is_other

bytes_other : (s : Scene) (rpc : Rpc) → AreOther (bytes_sent s rpc)
bytes_other s rpc = by (codec.fits rpc)
  where
    by : (b : Bool) → AreOther (if b then on_none s (bytes_kind rpc.publish rpc.control) (length (body rpc)) ∷ [] else [])
    by true = (bytes_kind_other rpc.publish rpc.control, tt)
    by false = tt

message_kind_other : (answers : Bool) → IsOther (message_sent_kind answers)
message_kind_other true = is_other
message_kind_other false = is_other

rpc_other : (s : Scene) (answers : Bool) (rpc : Rpc) → AreOther (rpc_sent s answers rpc)
rpc_other s answers rpc =
    let subs : List Happening = flat_map (sub_sent s) rpc.subs in
    let messages : List Happening = flat_map (message_sent s (message_sent_kind answers)) rpc.publish in
    both_other (bytes_sent s rpc) (subs ++ (messages ++ control_sent s rpc.control)) (bytes_other s rpc)
    (both_other subs (messages ++ control_sent s rpc.control)
    (each_other (sub_sent s) rpc.subs (λ sub. (is_other, tt)))
    (both_other messages (control_sent s rpc.control)
    (each_other (message_sent s (message_sent_kind answers)) rpc.publish (λ m. (message_kind_other answers, tt)))
    (control_other s rpc.control)))

-- ---- bytes as they are

raw_other : (s : Scene) (is : Bool) (count : ℕ) → AreOther (raw_out s is count)
raw_other s true count = (is_other, (is_other, tt))
raw_other s false count = tt

raw_by_other : (s : Scene) (q : PeerNo) (act : Act) → AreOther (raw_happenings s q (Own act))
raw_by_other s q (Raw p bytes) = raw_other s (same_peer p q) (length bytes)
raw_by_other s q (Subscribe t) = tt
raw_by_other s q (Unsubscribe t) = tt
raw_by_other s q (Publish t payload) = tt
raw_by_other s q (HangUp p) = tt

pub raws_other : (s : Scene) (q : PeerNo) (event : Event) → AreOther (raw_happenings s q event)
raws_other s q (Own act) = raw_by_other s q act
raws_other s q other = tt

-- ---- deliveries, marks and lines

grafts_other : (s : Scene) (t : Topic) (event : Event) → AreOther (cause_happenings s t (graft_cause event))
grafts_other s t (Part q part) = (is_other, tt)
grafts_other s t (Step step) = (is_other, tt)
grafts_other s t other = tt

prunes_other : (s : Scene) (t : Topic) (event : Event) → AreOther (cause_happenings s t (prune_cause event))
prunes_other s t (Part q part) = (is_other, tt)
prunes_other s t (Step step) = (is_other, tt)
prunes_other s t (Lost q loss) = (is_other, tt)
prunes_other s t other = tt

mark_other : (s : Scene) (event : Event) (mark : Mark) → AreOther (mark_happenings s event mark)
mark_other s event (marks.Grafted q t) = (is_other, grafts_other (heard_of s q) t event)
mark_other s event (marks.Pruned q t) = (is_other, prunes_other (heard_of s q) t event)
mark_other s event other = tt

pub refusals_other : (p : PeerNo) (lines : List RefusedLine) → AreOther (flat_map (refusal_happenings p) lines)
refusals_other p lines = each_other (refusal_happenings p) lines (λ line. (is_other, tt))

-- ---- parts of RPCs, and links that are cut

message_other : (s : Scene) (m : Message) (fate : Fate) → AreOther (message_happenings s m fate)
message_other s m fates.New = (is_other, (is_other, tt))
message_other s m fates.Duplicate = (is_other, (is_other, tt))
message_other s m fates.Ignored = (is_other, (is_other, tt))
message_other s m fates.Rejected = (is_other, (is_other, tt))
message_other s m fates.Signed = (is_other, (is_other, tt))
message_other s m fates.OffTopic = (is_other, (is_other, tt))

pub part_other : (fate : Message → List Mark → Fate) (s : Scene) (part : RpcPart) (shown : List Mark) → AreOther (part_happenings fate s part shown)
part_other fate s (Sub sub) shown = (is_other, tt)
part_other fate s (Msg m) shown = message_other s m (fate m shown)
part_other fate s (Have offer) shown = (is_other, (is_other, tt))
part_other fate s (Want request) shown = (is_other, (is_other, tt))
part_other fate s (GraftIn graft) shown = (is_other, tt)
part_other fate s (PruneIn prune) shown = (is_other, tt)

pub loss_other : (s : Scene) (loss : Loss) → AreOther (loss_happenings s loss)
loss_other s Gone = tt
loss_other s Fault = (is_other, tt)

-- ---- what came to nothing, but for whole RPCs

abbrev IsOtherFallen : Scene → Fallen → Type 0
IsOtherFallen s one = AreOther (fallen_happenings s one)

all_fallen : (s : Scene) (fs : List Fallen) → AllByRecursion (IsOtherFallen s) fs → AreOther (flat_map (fallen_happenings s) fs)
all_fallen s [] other = tt
all_fallen s (one ∷ fs) other = both_other (fallen_happenings s one) (flat_map (fallen_happenings s) fs) other.0 (all_fallen s fs other.1)

refusal_other : (why : GraftRefusal) → IsOther (graft_refusal_kind why)
refusal_other Explicit = is_other
refusal_other TooSoon = is_other
refusal_other Negative = is_other
refusal_other Full = is_other

no_answer_other : (why : NoAnswer) → IsOther (no_answer_kind why)
no_answer_other Ignored = is_other
no_answer_other NotKept = is_other
no_answer_other TooOften = is_other

graft_fallen : (s : Scene) (q : PeerNo) (t : Topic) (given : GraftAnswer) → AllByRecursion (IsOtherFallen s) (fallen_graft q t given)
graft_fallen s q t PassedOver = tt
graft_fallen s q t (Refused why) = ((refusal_other why, tt), tt)
graft_fallen s q t Taken = tt

one_fallen : (s : Scene) (q : PeerNo) (id : MsgId) (why : NoAnswer) (m : Option Message) → AllByRecursion (IsOtherFallen s) (without_answer q id why m)
one_fallen s q id why None = ((no_answer_other why, tt), tt)
one_fallen s q id why (Some m) = tt

answers_fallen : (s : Scene) (p : Peer) (L : Entries) (q : PeerNo) (ahead ids : List MsgId) → AllByRecursion (IsOtherFallen s) (without_answers p L q ahead ids)
answers_fallen s p L q ahead [] = tt
answers_fallen s p L q ahead (id ∷ ids) =
    let why : NoAnswer = why_no_answer p L id in
    let given : Option Message = answer p L q id (times_in id ahead) in
    all-append (IsOtherFallen s) (without_answer q id why given) (without_answers p L q (ahead ++ id ∷ []) ids)
    (one_fallen s q id why given) (answers_fallen s p L q (ahead ++ id ∷ []) ids)

ignored_fallen : (s : Scene) (q : PeerNo) (ids : List MsgId) → AllByRecursion (IsOtherFallen s) (map (λ id. fallen.Request q id Ignored) ids)
ignored_fallen s q [] = tt
ignored_fallen s q (id ∷ ids) = ((is_other, tt), ignored_fallen s q ids)

request_fallen : (s : Scene) (p : Peer) (L : Entries) (at : ℕ) (q : PeerNo) (request : IWant) → AllByRecursion (IsOtherFallen s) (fallen_request p L at q request)
request_fallen s p L at q request = by (is_ignored p L at q)
  where
    by : (b : Bool) → AllByRecursion (IsOtherFallen s) (if b then map (λ id. fallen.Request q id Ignored) (ids_in request.ids) else without_answers p L q [] (ids_in request.ids))
    by true = ignored_fallen s q (ids_in request.ids)
    by false = answers_fallen s p L q [] (ids_in request.ids)

part_fallen : (s : Scene) (p : Peer) (L : Entries) (at : ℕ) (q : PeerNo) (part : RpcPart) → AllByRecursion (IsOtherFallen s) (fallen_part p L at q part)
part_fallen s p L at q (Sub sub) = tt
part_fallen s p L at q (Msg m) = tt
part_fallen s p L at q (Have offer) = tt
part_fallen s p L at q (Want request) = request_fallen s p L at q request
part_fallen s p L at q (GraftIn graft) = graft_fallen s q (topic_or_empty graft.topic) (graft_answer p L at q (topic_or_empty graft.topic))
part_fallen s p L at q (PruneIn prune) = tt

broken_fallen : (s : Scene) (promises : List Promise) → AllByRecursion (IsOtherFallen s) (map fallen.Broken promises)
broken_fallen s [] = tt
broken_fallen s (promise ∷ promises) = ((is_other, tt), broken_fallen s promises)

pub fallen_by_part : (s : Scene) (p : Peer) (L : Entries) (at : ℕ) (q : PeerNo) (part : RpcPart) → AreOther (flat_map (fallen_happenings s) (fallen_part p L at q part))
fallen_by_part s p L at q part = all_fallen s (fallen_part p L at q part) (part_fallen s p L at q part)

pub fallen_by_time : (s : Scene) (p : Peer) (L : Entries) (at : ℕ) → AreOther (flat_map (fallen_happenings s) (map fallen.Broken (broken p L at)))
fallen_by_time s p L at = all_fallen s (map fallen.Broken (broken p L at)) (broken_fallen s (broken p L at))

-- ---- what they add

module _ (w : Happening → ℕ) (none : (h : Happening) → IsOther h.kind → w h ≡ 0) where
  pub no_other : (hs : List Happening) → AreOther hs → sum_by w hs ≡ 0
  no_other [] other = refl
  no_other (h ∷ hs) other = sum_by-cons w h hs ∙ ap₂ (λ (m n : ℕ). m + n) (none h other.0) (no_other hs other.1)

  -- at an entry only what came to nothing and its event add something
  pub sum_of_done : (fate : Message → List Mark → Fate) (s : Scene) (fs : List Fallen) (e : Entry) → sum_by w (done_happenings fate s fs e) ≡ sum_by w (flat_map (fallen_happenings s) fs) + sum_by w (event_happenings fate s fs e.event e.effects.marks)
  sum_of_done fate s fs e =
      let event : List Happening = event_happenings fate s fs e.event e.effects.marks in
      let sends : List Happening = flat_map (send_happenings s (is_answer e.event)) e.effects.sends in
      let delivered : List Happening = flat_map (delivery_happenings s) e.effects.delivered in
      let marked : List Happening = flat_map (mark_happenings s e.event) e.effects.marks in
      let rest : AreOther (sends ++ (delivered ++ marked)) =
      both_other sends (delivered ++ marked)
      (each_other (send_happenings s (is_answer e.event)) e.effects.sends (λ x. rpc_other (heard_of s x.0) (is_answer e.event) x.1))
      (both_other delivered marked
      (each_other (delivery_happenings s) e.effects.delivered (λ x. (is_other, tt)))
      (each_other (mark_happenings s e.event) e.effects.marks (mark_other s e.event))) in
      sum_by-append w (flat_map (fallen_happenings s) fs) (event ++ (sends ++ (delivered ++ marked)))
      ∙ ap (λ (n : ℕ). sum_by w (flat_map (fallen_happenings s) fs) + n)
      (sum_by-append w event (sends ++ (delivered ++ marked))
      ∙ ap (λ (n : ℕ). sum_by w event + n) (no_other (sends ++ (delivered ++ marked)) rest)
      ∙ and_nothing (sum_by w event))

-- it adds nothing to the RPCs that came, nor to those that went out
module _ (stands : Happening → Bool) (h : Happening) (other : IsOther h.kind) where
  unless_so : (b : Bool) → b ≡ false → (if b then (if stands h then h.amount else 0) else 0) ≡ 0
  unless_so b is = ap (λ (c : Bool). if c then (if stands h then h.amount else 0) else 0) is

  pub none_come : comes stands h ≡ 0
  none_come =
      ap₂ (λ (m n : ℕ). m + n)
      (ap₂ (λ (m n : ℕ). m + n) (unless_so (same_kind h.kind RpcsHeard) other.0) (unless_so (same_kind h.kind RpcsGraylisted) other.1))
      (unless_so (same_kind h.kind RpcsLate) other.2)

  pub none_sent : adds stands RpcsSent h ≡ 0
  none_sent = unless_so (same_kind h.kind RpcsSent) other.3
