-- A peer's task may begin.
use Rattle.std.proofs.Common.{◌≡◌, ◌∙◌, true, List, Option, Some, refl, sym, ap, subst, subst₂}
use Rattle.std.specs.List.{AllByRecursion}
use Rattle.gs_base.specs.declared.names.PeerNo.{PeerNo}
use Rattle.gs_plan.specs.declared.plan.Plan.{Plan}
use Rattle.gs_plan.specs.Plans.{IsInRange}
use Rattle.gs_params.specs.Seeding.{SeededState}
use Rattle.gs_rules.specs.Rounds.{Seat}
use Rattle.gs_router.specs.Router.{RouterView}
use Rattle.gs_ends.specs.Ends.{Joint, has}
use Rattle.gs_ends.specs.Pairs.{Pair, joints_of, pair_ends}
use Rattle.gs_peer.specs.declared.assignment.Assignment.{Assignment}
use Rattle.gs_peer.specs.Running.{MayBegin, seat_with}
use Rattle.gs_seats.specs.Rounds.{first_words, neighbours, peer_in, seat_in}
use Rattle.gs_seats.specs.Routers.{new_router}
use Rattle.gs_net.specs.Tasks.{AreUsable, IsAssignedIn}
use Rattle.gs_seats.proofs.NeighbourLists.{links_ascend, links_in}
use Rattle.gs_net.proofs.Seats.{time_fits}
use Rattle.gs_net.proofs.Standing.{none_accepted, none_taken}

begins_with : (plan : Plan) (p : PeerNo) (a : Assignment) (pairs : List Pair) → IsInRange plan → IsAssignedIn plan p a → AreUsable plan p pairs → MayBegin pair_ends a (new_router plan p) pairs
begins_with plan p a pairs range is usable = record {
  small = rw (is.round_ms, is.rounds, is.phase) (time_fits plan p range);
  neighbours = is.numbers ∙ sym (links_in plan p);
  ascending = links_ascend plan p;
  known = subst (AllByRecursion (λ (q : PeerNo). has (joints_of pairs) q ≡ true)) (sym (links_in plan p)) usable.known;
  fresh = refl;
  running = refl;
  none_accepted = none_accepted pairs usable.fresh;
  none_taken = none_taken pairs usable.fresh;
}

pub begins : (plan : Plan) (p : PeerNo) (a : Assignment) (router : RouterView) (pairs ends : List Pair) → IsInRange plan → IsAssignedIn plan p a → router ≡ new_router plan p → ends ≡ pairs → AreUsable plan p pairs → MayBegin pair_ends a router ends
begins plan p a router pairs ends range is new same usable =
    subst₂ (λ (v : RouterView) (xs : List Pair). MayBegin pair_ends a v xs) (sym new) (sym same) (begins_with plan p a pairs range is usable)

-- at the peer's seat
pub seated : (plan : Plan) (p : PeerNo) (a : Assignment) → IsAssignedIn plan p a → seat_with a (peer_in plan p) ≡ seat_in plan p
seated plan p a is = rw (is.number, is.lines, is.round_ms, is.rounds, is.phase) refl

-- what is given of a task
abbrev pub told : Seat → SeededState → List Joint → Option (Seat × SeededState × List Joint)
told seat words joints = Some (seat, words, joints)

-- at its seat, with its words and its ends
pub given_there : (plan : Plan) (p : PeerNo) (a : Assignment) (router : RouterView) (words : SeededState) (pairs ends : List Pair) → IsAssignedIn plan p a → router ≡ new_router plan p → words ≡ first_words plan p → ends ≡ pairs → told (seat_with a router.peer) words (joints_of ends) ≡ told (seat_in plan p) (first_words plan p) (joints_of pairs)
given_there plan p a router words pairs ends is new first same =
    ap (λ (s : Seat). told s words (joints_of ends)) (ap (λ (v : RouterView). seat_with a v.peer) new ∙ seated plan p a is)
    ∙ ap (λ (w : SeededState). told (seat_in plan p) w (joints_of ends)) first
    ∙ ap (λ (xs : List Pair). told (seat_in plan p) (first_words plan p) (joints_of xs)) same
