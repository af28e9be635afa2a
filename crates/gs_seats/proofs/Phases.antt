-- No peer of a plan that was read had been up for longer than it may.
use Rattle.std.proofs.Common.{◌≡◌, ◌≤◌, ◌<◌, ◌+◌, ◌*◌, ◌^◌, ℕ, Option, Some, None, refl, subst, le_trans, lt_of_le_of_lt, mul-le-mul_right, arith}
use Rattle.std.proofs.Math.Dec.{lit<}
use Rattle.std.proofs.Math.Nat.{add-le-add, mul-le-mul_left}
use Rattle.std.specs.Prelude.{option_map, unwrap_or}
use Rattle.std.specs.List.{slice_get}
use Rattle.std.proofs.lemmas.List.Elements.{All-get_or}
use Rattle.std.proofs.lemmas.Option.{get_or_from_slice_get, slice_get_within}
use Rattle.gs_base.specs.declared.names.PeerNo.{PeerNo}
use Rattle.gs_plan.specs.declared.plan.Plan.{Plan}
use Rattle.gs_plan.specs.declared.plan.PlannedPeer.{PlannedPeer}
use Rattle.gs_plan.specs.Plans.{IsInRange, highest_phase, longest_round, most_rounds}
use Rattle.gs_seats.specs.Rounds.{phase_of}

of_found : (found : Option PlannedPeer) → ((planned : PlannedPeer) → found ≡ Some planned → planned.phase_ms ≤ highest_phase) → unwrap_or (option_map (λ (planned : PlannedPeer). planned.phase_ms) found) 0 ≤ highest_phase
of_found None h = omega arith
of_found (Some planned) h = h planned refl

pub phase_is_small : (plan : Plan) (p : PeerNo) → IsInRange plan → phase_of plan p ≤ highest_phase
phase_is_small plan p range =
    of_found (slice_get plan.peers p.0) (λ planned is.
    subst (λ (x : PlannedPeer). x.phase_ms ≤ highest_phase) (get_or_from_slice_get plan.peers p.0 planned planned is)
    (All-get_or (λ (x : PlannedPeer). x.phase_ms ≤ highest_phase) plan.peers p.0 planned (slice_get_within plan.peers p.0 planned is) range.phases))

-- no round that a plan has comes so late that a peer has been up for 2^64 milliseconds
pub clock_fits : (plan : Plan) (p : PeerNo) (r : ℕ) → IsInRange plan → r ≤ plan.rounds → r * plan.round_ms + phase_of plan p < 2 ^ 64
clock_fits plan p r range early =
    lt_of_le_of_lt
    (add-le-add
    (le_trans (mul-le-mul_right plan.round_ms (le_trans early range.rounds)) (mul-le-mul_left most_rounds range.round_ms))
    (phase_is_small plan p range))
    (lit< tt)
