-- What a peer does in a round, call by call.
use Rattle.std.proofs.Common.{◌≡◌, ◌<◌, ℕ, List, [], ◌∷◌, ◌++◌, map, Some, Ok, Err, Result, refl, sym, ap, subst, ◌∙◌, append_assoc, append-nil}
use Rattle.std.specs.Prelude.{OnOk}
use Rattle.std.specs.Result.{IsOk}
use Rattle.std.specs.List.{AllByRecursion, AllZip}
use Rattle.std.proofs.lemmas.Grind.{flat_map-append}
use Rattle.gs_base.specs.declared.names.Millis.{Millis}
use Rattle.gs_base.specs.declared.names.PeerNo.{PeerNo}
use Rattle.gs_base.specs.Names.{peers_of}
use Rattle.gs_params.specs.Seeding.{SeededState, seeded_after, seeded_word}
use Rattle.gs_plan.specs.declared.plan.Line.{Line}
use Rattle.gs_plan.specs.declared.plan.Plan.{Plan}
use Rattle.gs_rules.specs.declared.refusal.RefusedLine.{RefusedLine}
use Rattle.gs_rules.specs.declared.trace.Entry.{Entry}
use Rattle.gs_rules.specs.declared.event.Event.TheVariants.{RoundEnd}
use Rattle.gs_rules.specs.Modes.{exact}
use Rattle.gs_rules.specs.Peers.{Peer}
use Rattle.gs_rules.specs.Rounds.{EndRound, Todo, beats_in, decays_in}
use Rattle.gs_router.specs.declared.fault.RouterFault.{RouterFault}
use Rattle.gs_router.specs.Router.{Calls, RouterView}
use Rattle.gs_seats.specs.Rounds.{neighbour_in}
use Rattle.gs_player.specs.Playing.{Runs, behind_heard, own_lines}
use Rattle.gs_player.proofs.Runs.{runs_then, told_runs}
use Rattle.gs_direct.specs.declared.letter.Letter.{Letter}
use Rattle.gs_direct.specs.declared.outlet.Outlet.{Outlet}
use Rattle.gs_direct.specs.Letters.{all_heard, heard_of}
use Rattle.gs_direct.specs.Outlets.{SaysAll, Within}

-- what follows from a call that is done
pub if_told : {T E : Type 0} (told : Result T E) (A B : Type 0) → (A → B) → OnOk told A → OnOk told B
if_told (Ok x) A B f a = f a
if_told (Err e) A B f a = tt

-- one letter more
pub one_more : (letters : List Letter) (letter : Letter) → all_heard (letters ++ letter ∷ []) ≡ all_heard letters ++ heard_of letter
one_more letters letter =
    flat_map-append heard_of letters (letter ∷ [])
    ∙ ap (λ (todos : List Todo). all_heard letters ++ todos) (append-nil (heard_of letter))

-- the neighbours that a peer is given are those of the plan
pub named_so : (plan : Plan) (p : PeerNo) (qs : List PeerNo) → peers_of (map (neighbour_in plan p) qs) ≡ qs
named_so plan p [] = refl
named_so plan p (q ∷ qs) = ap (λ (rest : List PeerNo). q ∷ rest) (named_so plan p qs)

-- ---- a round

-- What is heard, the lines, what is due by the time, and the end of the round.
pub round_runs : (now clock : Millis) (r : ℕ) (heard : List Todo) (lines : List (ℕ × Line)) (old a b d e : RouterView) (s sa sb sd se : SeededState)
    (more : List RefusedLine) (told : Result (Unit {0}) RouterFault)
    → Runs (exact seeded_word seeded_after) now heard old s a sa []
    → Runs (exact seeded_word seeded_after) now (own_lines r lines) a sa b sb more
    → Runs (exact seeded_word seeded_after) now (decays_in b.peer r clock ++ beats_in b.peer r clock) b sb d sd []
    → IsOk told
    → Calls (exact seeded_word seeded_after) (Some (RoundEnd r)) now d sd told e se
    → Runs (exact seeded_word seeded_after) now (heard ++ behind_heard old.peer r clock lines) old s e se more
round_runs now clock r heard lines old a b d e s sa sb sd se more told hears follows due ok calls =
    let m = exact seeded_word seeded_after in
    let same : b.peer ≡ old.peer = follows.peer ∙ hears.peer in
    let kept : Runs m now (decays_in old.peer r clock ++ beats_in old.peer r clock) b sb d sd [] =
    subst (λ (q : Peer). Runs m now (decays_in q r clock ++ beats_in q r clock) b sb d sd []) same due in
    let ends : Runs m now (EndRound r ∷ []) d sd e se [] = told_runs m now (EndRound r) (Some (RoundEnd r)) d e sd se told ok refl refl kept.runs_on calls in
    let timed = runs_then m now (decays_in old.peer r clock ++ beats_in old.peer r clock) (EndRound r ∷ []) b d e sb sd se [] [] kept ends in
    let last = subst (λ (todos : List Todo). Runs m now todos b sb e se []) (append_assoc (decays_in old.peer r clock) (beats_in old.peer r clock) (EndRound r ∷ [])) timed in
    let rest = runs_then m now (own_lines r lines) (decays_in old.peer r clock ++ (beats_in old.peer r clock ++ EndRound r ∷ [])) a b e sa sb se more [] follows last in
    let all = runs_then m now heard (behind_heard old.peer r clock lines) old a e s sa se [] (more ++ []) hears rest in
    subst (λ (xs : List RefusedLine). Runs m now (heard ++ behind_heard old.peer r clock lines) old s e se xs) (append-nil more) all

-- ---- to which neighbours

-- what is said goes to the same neighbours
pub still_within : (n : ℕ) (es : List Entry) (old new : List Outlet) → AllZip (SaysAll es) old new → AllByRecursion (Within n) old → AllByRecursion (Within n) new
still_within n es [] [] says within = tt
still_within n es [] (y ∷ ys) says within = absurd says
still_within n es (x ∷ xs) [] says within = absurd says
still_within n es (x ∷ xs) (y ∷ ys) says within =
    (subst (λ (q : PeerNo). q.0 < n) (sym says.0.to) within.0, still_within n es xs ys says.1 within.1)
