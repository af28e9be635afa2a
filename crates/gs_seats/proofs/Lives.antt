-- Lives that were played are a run.
use Rattle.std.proofs.Common.{◌≡◌, List, [], Option, Some, None, sym, ap, subst, ◌∙◌}
use Rattle.std.specs.Prelude.{option_map, unwrap_or, slice_get}
use Rattle.std.specs.List.{AllByRecursion}
use Rattle.gs_base.specs.declared.names.PeerNo.{PeerNo}
use Rattle.gs_base.specs.Tokens.{bytes_of}
use Rattle.gs_plan.specs.declared.plan.Plan.{Plan}
use Rattle.gs_params.specs.Seeding.{seeded_after, seeded_word}
use Rattle.gs_wire.specs.Codec.{codec}
use Rattle.gs_wire.specs.Joining.{joined_rpcs}
use Rattle.gs_rules.specs.Tables.{Entries}
use Rattle.gs_rules.specs.Modes.{exact, free}
use Rattle.gs_rules.specs.Legal.{Legal}
use Rattle.gs_rules.specs.Saying.{SaysOnlyFrames, gathered, handled, out, sent}
use Rattle.gs_rules.specs.Hearing.{Spell}
use Rattle.gs_rules.specs.Rounds.{Seat, PutsNoBytes}
use Rattle.gs_rules.proofs.Deliveries.{deliveries_apart}
use Rattle.gs_rules.proofs.Gathered.{gathered_down, kept_down}
use Rattle.gs_rules.proofs.Handled.{said_is_handled}
use Rattle.gs_rules.proofs.Legality.{exact_is_free, legal_weakly}
use Rattle.gs_rules.proofs.Scripts.{script_says_frames}
use Rattle.gs_rules.proofs.Spelled.{handled_joined}
use Rattle.gs_report.specs.declared.finished.Finished.{Finished}
use Rattle.gs_seats.specs.Rounds.{IsLifeInRun, IsRun, first_words, neighbours, numbers, peer_in, said_to, seat_in, trace_of}
use Rattle.gs_seats.specs.Played.{IsPlayedLife, IsPlayedRun}
use Rattle.gs_seats.proofs.ByNumber.{at_number, each_kept}
use Rattle.gs_seats.proofs.Each.{each_of_both}
use Rattle.gs_seats.proofs.Joined.{IsJoined, neighbours_joined}
use Rattle.gs_seats.proofs.NeighbourLists.{links_ascend, links_in}

-- what the words of a source choose is legal
legal_of : (plan : Plan) (lives : List Finished) (p : PeerNo) (life : Finished) → IsPlayedLife plan lives p life → Legal (peer_in plan p) life.trace
legal_of plan lives p life is =
    legal_weakly (exact seeded_word seeded_after) free (λ u. tt) (exact_is_free seeded_word seeded_after) (peer_in plan p) (first_words plan p) is.chosen.0 [] life.trace is.chosen.1

trace_is : (lives : List Finished) (p : PeerNo) (life : Finished) → slice_get lives p.0 ≡ Some life → trace_of lives p ≡ life.trace
trace_is lives p life at = ap (λ (found : Option Finished). unwrap_or (option_map (λ (f : Finished). f.trace) found) []) at

-- A life among all, at its number.
record Stands (plan : Plan) (lives : List Finished) (p : PeerNo) (life : Finished) : Type 0 where
  at : slice_get lives p.0 ≡ Some life
  played : IsPlayedLife plan lives p life

-- what one peer handled of the other is, joined, what the other's trace sends to it, joined, where the other's script puts no
-- bytes on the link
was_sent : (plan : Plan) (lives : List Finished) (p q : PeerNo) (L : Entries) (other : Finished)
    → Stands plan lives q other
    → Spell (bytes_of (said_to lives p q)) (handled L q)
    → PutsNoBytes p (seat_in plan q).lines
    → joined_rpcs (handled L q) ≡ joined_rpcs (sent (trace_of lives q) p)
was_sent plan lives p q L other theirs spell quiet =
    let is : trace_of lives q ≡ other.trace = trace_is lives q other theirs.at in
    let legal : Legal (peer_in plan q) other.trace = legal_of plan lives q other theirs.played in
    let keeps = theirs.played.keeps in
    let frames : SaysOnlyFrames p other.trace = script_says_frames (seat_in plan q) (said_to lives q) p other.trace other.refused keeps legal quiet in
    let none : gathered codec other.trace p ≡ None = gathered_down codec other.trace p (kept_down (seat_in plan q) (said_to lives q) other.trace other.refused p keeps) in
    let spelled : Spell (bytes_of (out codec other.trace p)) (handled L q) = subst (λ (K : Entries). Spell (bytes_of (out codec K p)) (handled L q)) is spell in
    handled_joined (peer_in plan q) other.trace p (handled L q) legal frames spelled none
    ∙ ap (λ (K : Entries). joined_rpcs (sent K p)) (sym is)

one_life : (plan : Plan) (lives : List Finished) (p : PeerNo) (life : Finished) → IsPlayedRun plan lives → IsPlayedLife plan lives p life → IsLifeInRun plan lives p life
one_life plan lives p life all is =
    let seat : Seat = seat_in plan p in
    let legal : Legal (peer_in plan p) life.trace = legal_of plan lives p life is in
    let heard : AllByRecursion (λ (q : PeerNo). Spell (bytes_of (said_to lives p q)) (handled life.trace q)) (neighbours plan p) =
    subst (AllByRecursion (λ (q : PeerNo). Spell (bytes_of (said_to lives p q)) (handled life.trace q))) (links_in plan p)
    (said_is_handled seat (said_to lives p) life.trace life.refused (links_ascend plan p) legal is.keeps) in
    record {
      legal = legal;
      chosen = is.chosen;
      keeps = is.keeps;
      meshes = is.meshes;
      scores = is.scores;
      exchanged = heard;
      handled_is_sent = each_of_both (IsJoined plan p) (λ (q : PeerNo). Spell (bytes_of (said_to lives p q)) (handled life.trace q))
          (λ (q : PeerNo). PutsNoBytes p (seat_in plan q).lines → joined_rpcs (handled life.trace q) ≡ joined_rpcs (sent (trace_of lives q) p))
          (λ q joined spell quiet.
          let one = at_number (IsPlayedLife plan lives) plan q lives joined.0 all in
          was_sent plan lives p q life.trace one.0 (record { at = one.1; played = one.2 }) spell quiet)
          (neighbours plan p) (neighbours_joined plan p) heard;
      apart = deliveries_apart (peer_in plan p) life.trace legal;
    }

-- all that a report says of lives follows from how they were played
pub played_is_run : (plan : Plan) (lives : List Finished) → IsPlayedRun plan lives → IsRun plan lives
played_is_run plan lives all = each_kept (IsPlayedLife plan lives) (IsLifeInRun plan lives) (λ p life is. one_life plan lives p life all is) (numbers plan) lives all
