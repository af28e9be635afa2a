-- Runs of alike plans leave the same lives.
use Rattle.std.proofs.Common.{◌≡◌, ℕ, ◌*◌, ◌<◌, ℤ, List, length, map, Some, sym, ap, ap₂, subst, ◌∙◌, arith}
use Rattle.std.specs.Prelude.{option_map, slice_get}
use Rattle.std.proofs.lemmas.Option.{same_Some, slice_get-map}
use Rattle.gs_base.specs.declared.names.PeerNo.{PeerNo}
use Rattle.gs_base.specs.declared.names.Topic.{Topic}
use Rattle.gs_plan.specs.declared.plan.Plan.{Plan}
use Rattle.gs_rules.specs.declared.refusal.RefusedLine.{RefusedLine}
use Rattle.gs_rules.specs.Tables.{Entries}
use Rattle.gs_rules.specs.Results.{meshes_of, scores_of}
use Rattle.gs_report.specs.declared.finished.Finished.{Finished}
use Rattle.gs_seats.specs.Rounds.{IsLifeInRun, IsRun, numbers, peer_in}
use Rattle.gs_seats.proofs.ByNumber.{at_number}
use Rattle.gs_seats.proofs.ByNumber.{as_many}
use Rattle.gs_laws.specs.Runs.{ArePlayed, IsPlayed, RunsAreOne, refusals_of, traces_of}
use Rattle.gs_laws.proofs.Lists.{same_places, zipped_weaker}
use Rattle.gs_laws.proofs.Traces.{traces_one}

-- ---- whole lives

-- a run is played
played_of : (plan : Plan) (lives : List Finished) → IsRun plan lives → ArePlayed plan lives
played_of plan lives run = zipped_weaker (IsLifeInRun plan lives) (IsPlayed plan lives) (λ p life is. record { chosen = is.chosen; keeps = is.keeps }) (numbers plan) lives run

-- what two lists of lives have at a place, if they have the same at all
at_both : {B : Type 0} (f : Finished → B) (lives others : List Finished) (k : ℕ) (one other : Finished) → slice_get lives k ≡ Some one → slice_get others k ≡ Some other → map f lives ≡ map f others → f one ≡ f other
at_both {B} f lives others k one other at at' same =
    same_Some (f one) (f other)
    (sym (ap (option_map f) at) ∙ sym (slice_get-map f lives k) ∙ ap (λ (xs : List B). slice_get xs k) same ∙ slice_get-map f others k ∙ ap (option_map f) at')

of_parts : (f g : Finished) → f.trace ≡ g.trace → f.refused ≡ g.refused → f.meshes ≡ g.meshes → f.scores ≡ g.scores → f ≡ g
of_parts f g trace refused meshes scores =
    ap (λ (x : Entries). record f { trace = x }) trace
    ∙ ap (λ (x : List RefusedLine). record f { trace = g.trace; refused = x }) refused
    ∙ ap₂ (λ (x : List (Topic × PeerNo)) (y : List (PeerNo × ℤ)). record g { meshes = x; scores = y }) meshes scores

-- meshes and scores are as the trace says, and nothing that says so speaks of how a plan is run
pub runs_one : RunsAreOne
runs_one plan other lives others alike run run' =
    let same = traces_one plan other lives others alike (played_of plan lives run) (played_of other others run') in
    let many = as_many (IsLifeInRun plan lives) plan lives run in
    let many' : length others ≡ length plan.peers = as_many (IsLifeInRun other others) other others run' ∙ sym (ap (λ (any : Plan). length any.peers) alike) in
    same_places lives others (many ∙ sym many') (λ k below. one_place same (record { 0 = k }) (omega (arith, below, many)))
  where
    one_place : (traces_of lives ≡ traces_of others) × (refusals_of lives ≡ refusals_of others) → (p : PeerNo) → p.0 < length plan.peers → slice_get lives p.0 ≡ slice_get others p.0
    one_place same p below =
        let (life, at, is) = at_number (IsLifeInRun plan lives) plan p lives below run in
        let (life', at', is') = at_number (IsLifeInRun other others) other p others (subst (λ (any : Plan). p.0 < length any.peers) alike below) run' in
        let trace : life.trace ≡ life'.trace = at_both (λ (f : Finished). f.trace) lives others p.0 life life' at at' same.0 in
        let refused : life.refused ≡ life'.refused = at_both (λ (f : Finished). f.refused) lives others p.0 life life' at at' same.1 in
        let meshes : life.meshes ≡ life'.meshes = is.meshes ∙ ap meshes_of trace ∙ sym is'.meshes in
        let scores : life.scores ≡ life'.scores =
        is.scores ∙ ap₂ (λ (any : Plan) (L : Entries). scores_of (peer_in any p) L (any.rounds * any.round_ms)) alike trace ∙ sym is'.scores in
        at ∙ ap Some (of_parts life life' trace refused meshes scores) ∙ sym at'
