-- What is known of a peer's seat in a plan, and of how its life there ends.
use Rattle.std.proofs.Common.{◌≡◌, ◌<◌, ◌+◌, ◌*◌, ◌^◌, true, sym, subst, arith, ◌∙◌}
use Rattle.std.specs.List.{AllByRecursion}
use Rattle.gs_base.specs.declared.names.PeerNo.{PeerNo}
use Rattle.gs_plan.specs.declared.plan.Plan.{Plan}
use Rattle.gs_plan.specs.Plans.{IsInRange}
use Rattle.gs_link.specs.Flat.{flat}
use Rattle.gs_link.specs.Runs.{closes as slots_close}
use Rattle.gs_ends.specs.Pairs.{taken_from}
use Rattle.gs_rules.specs.Peers.{links_of}
use Rattle.gs_rules.specs.Hearing.{closes}
use Rattle.gs_peer.proofs.SlotWords.{closes_flat}
use Rattle.gs_seats.specs.Rounds.{neighbours, peer_in, phase_of}
use Rattle.gs_net.specs.Given.{Given, GivenLife}
use Rattle.gs_rules.proofs.Each.{each_weaker}
use Rattle.gs_seats.proofs.NeighbourLists.{links_in}
use Rattle.gs_seats.proofs.Phases.{clock_fits}

-- all rounds together, after a peer's phase, take less than 2^64 milliseconds
pub time_fits : (plan : Plan) (p : PeerNo) → IsInRange plan → plan.rounds * plan.round_ms + phase_of plan p < 2 ^ 64
time_fits plan p range = clock_fits plan p plan.rounds range (omega arith)

-- the close was taken of each neighbour
pub each_closed : (plan : Plan) (p : PeerNo) (f : Given) → GivenLife plan p f → AllByRecursion (λ q. slots_close (taken_from f.ends q) ≡ true) (neighbours plan p)
each_closed plan p f life =
    subst (AllByRecursion (λ (q : PeerNo). slots_close (taken_from f.ends q) ≡ true)) (links_in plan p)
    (each_weaker (λ (q : PeerNo). closes (flat (taken_from f.ends q)) ≡ true) (λ (q : PeerNo). slots_close (taken_from f.ends q) ≡ true) (λ q closed. sym (closes_flat (taken_from f.ends q)) ∙ closed) (links_of (peer_in plan p)) life.closed)
