-- The round in which a trace is, and what was added in it.
use Rattle.std.proofs.Common.{◌≡◌, ℕ, zero, suc, false, List, [], ◌∷◌, ◌++◌, map, Option, Some, None, refl, sym, ap, subst, ◌∙◌, append_assoc}
use Rattle.std.specs.List.{AllByRecursion}
use Rattle.std.proofs.lemmas.List.{append_cancel_right}
use Rattle.gs_base.specs.declared.names.PeerNo.{PeerNo}
use Rattle.gs_base.specs.declared.names.Millis.{Millis}
use Rattle.gs_base.specs.declared.rpc.Rpc.{Rpc}
use Rattle.gs_wire.proofs.RoundTrip.{all-append}
use Rattle.gs_rules.specs.declared.event.Event.{Event}
use Rattle.gs_rules.specs.declared.event.Event.TheVariants.{Heard, Late, Part, BeatBegin, Step, Own, Lost, Decay, RoundEnd, Shut}
use Rattle.gs_rules.specs.declared.trace.Entry.{Entry}
use Rattle.gs_rules.specs.declared.refusal.RefusedLine.{RefusedLine}
use Rattle.gs_rules.specs.Legal.{Legal}
use Rattle.gs_rules.specs.Peers.{Peer}
use Rattle.gs_rules.specs.Rounds.{AfterRounds, Does, Hear, Seat, Stop}
use Rattle.gs_rules.specs.Saying.{Said}
use Rattle.gs_rules.specs.Tables.{Entries}
use Rattle.gs_rules.proofs.Each.{each_mapped, of_each}
use Rattle.gs_rules.proofs.Handled.{does_on, legal_then_before}
use Rattle.gs_rules.proofs.RoundEnds.{has_ended}
use Rattle.gs_router.specs.Log.{ends_round, since_end, this_round}
use Rattle.gs_router.proofs.Logging.{after_end, not_end}
use Rattle.gs_player.proofs.Middle.{AllWithin, IsRoundOf, IsWithin, IsWork, comes_within, does_within}
use Rattle.gs_direct.specs.declared.letter.Ending.{Ending}
use Rattle.gs_direct.specs.declared.letter.Ending.TheVariants.{Fault, Gone}
use Rattle.gs_direct.specs.declared.letter.Letter.{Letter}
use Rattle.gs_direct.specs.Letters.{all_heard, ending_heard, heard_of}

-- ---- the entries of a round

-- what comes within a round ends none
ends_none : (event : Event) → IsWithin event → ends_round event ≡ false
ends_none (RoundEnd r) within = absurd within
ends_none (Heard q rpc) within = refl
ends_none (Late q rpc) within = refl
ends_none (Part q part) within = refl
ends_none BeatBegin within = refl
ends_none (Step step) within = refl
ends_none (Own act) within = refl
ends_none (Lost q loss) within = refl
ends_none Decay within = refl
ends_none Shut within = refl

-- entries within a round, after the end of another, are what came since that end
since_within : (entries : List Entry) (K : Entries) → AllWithin entries → since_end K ≡ [] → since_end (entries ++ K) ≡ entries
since_within [] K within none = none
since_within (e ∷ es) K within none =
    not_end (λ r. []) (e ∷ since_end (es ++ K)) e.event (ends_none e.event within.0) ∙ ap (λ (M : Entries). e ∷ M) (since_within es K within.1 none)

-- a round, after the end of another, is what was added
pub round_adds : (r : ℕ) (K L : Entries) → IsRoundOf r K L → since_end K ≡ [] → L ≡ this_round L ++ K
round_adds r K L h none =
    let (entries, is, within) = h.within in
    let inner : since_end h.before ≡ entries = ap since_end is ∙ since_within entries K within none in
    h.are
    ∙ ap (λ (M : Entries). h.end ∷ M) is
    ∙ sym (ap (λ (M : Entries). h.end ∷ (M ++ K)) inner)
    ∙ sym (ap (λ (M : Entries). this_round M ++ K) h.are)

-- some entries within a round, after the end of another, are the round so far
so_far : (es : List Entry) (first : Entry) (K : Entries) → AllWithin (es ++ first ∷ []) → since_end K ≡ [] → this_round ((es ++ first ∷ []) ++ K) ≡ es ++ first ∷ []
so_far [] first K within none = ap (λ (M : Entries). first ∷ M) none
so_far (e ∷ es) first K within none = ap (λ (M : Entries). e ∷ M) (since_within (es ++ first ∷ []) K within.1 none)

-- after whole rounds nothing came since the last end
pub rounds_end : (seat : Seat) (said : PeerNo → Said) (r : ℕ) (L : Entries) (refused : List RefusedLine) → AfterRounds seat said r L refused → since_end L ≡ []
rounds_end seat said zero L refused played = ap since_end played.0
rounds_end seat said (suc r) L refused (K, earlier, more, before, plays, is) =
    let ended = has_ended seat said r K L earlier more before plays in
    ap since_end ended.are ∙ after_end (ended.end ∷ since_end ended.before) ended.end.event (ap ends_round ended.is_end)

-- ---- the close

ending_is_work : (q : PeerNo) (ending : Option Ending) → AllByRecursion IsWork (ending_heard q ending)
ending_is_work q None = tt
ending_is_work q (Some Fault) = (tt, tt)
ending_is_work q (Some Gone) = (tt, tt)

heard_is_work : (letters : List Letter) → AllByRecursion IsWork (all_heard letters)
heard_is_work [] = tt
heard_is_work (letter ∷ letters) =
    let rpcs = letter.rpcs.items in
    all-append IsWork (heard_of letter) (all_heard letters)
    (all-append IsWork (map (Hear letter.from) rpcs) (ending_heard letter.from letter.ending) (each_mapped IsWork (Hear letter.from) rpcs (of_each (λ (rpc : Rpc). IsWork (Hear letter.from rpc)) (λ rpc. tt) rpcs)) (ending_is_work letter.from letter.ending))
    (heard_is_work letters)

-- what a peer does when it shuts down, after the end of a round, is what was added
pub close_adds : (p : Peer) (at : Millis) (letters : List Letter) (K L : Entries) (refused : List RefusedLine) → Legal p L → Does p at (Stop ∷ all_heard letters) K L refused → since_end K ≡ [] → L ≡ this_round L ++ K
close_adds p at letters K L refused legal (M, later, comes, does, is) none =
    let b = comes.begun in
    let before : Legal p M = legal_then_before p M L (does_on p at (all_heard letters) M L later does) legal in
    let (es, split, within) = comes_within p at (Some Shut) K M comes before tt in
    let (more, on, after) = does_within p at (all_heard letters) M L later does legal (heard_is_work letters) in
    let apart : M ≡ (b.paid ++ b.first ∷ []) ++ K = b.entries ∙ sym (append_assoc b.paid (b.first ∷ []) K) in
    let same : es ≡ b.paid ++ b.first ∷ [] = append_cancel_right es (b.paid ++ b.first ∷ []) K (sym split ∙ apart) in
    let added : List Entry = (more ++ b.paid) ++ b.first ∷ [] in
    let whole : L ≡ added ++ K =
    on
    ∙ ap (λ (N : Entries). more ++ N) apart
    ∙ sym (append_assoc more (b.paid ++ b.first ∷ []) K)
    ∙ ap (λ (N : Entries). N ++ K) (sym (append_assoc more b.paid (b.first ∷ []))) in
    let all : AllWithin added = subst AllWithin (sym (append_assoc more b.paid (b.first ∷ []))) (all-append (λ (e : Entry). IsWithin e.event) more (b.paid ++ b.first ∷ []) after (subst AllWithin same within)) in
    whole ∙ ap (λ (N : Entries). N ++ K) (sym (so_far (more ++ b.paid) b.first K all none)) ∙ sym (ap (λ (N : Entries). this_round N ++ K) whole)
