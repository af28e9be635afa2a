use Rattle.std.proofs.Common.{◌≡◌, ◌∙◌, ℕ, List, [], ◌∷◌, ◌++◌, ap, ap₂, filter, get_or, map, sym}
use Rattle.std.proofs.lemmas.List.{map_more, take_all}
use Rattle.gs_base.specs.declared.names.PeerNo.{PeerNo}
use Rattle.gs_base.specs.declared.neighbour.Neighbour.{Neighbour}
use Rattle.gs_plan.specs.declared.plan.Dial.{Dial}
use Rattle.gs_plan.specs.Plans.{are_joined}
use Rattle.gs_seats.specs.Own.{known_neighbour, neighbour_by}
use Rattle.gs_seats.specs.Rounds.{address_of, neighbour_in, numbers, peer_no}
use Rattle.gs_seats.proofs.OwnParts.{neighbour_by_own, neighbours_by_own}
use Rattle.gs_seats.proofs.neighbours.neighbours_by.Goals as goal

pub loop-other-preserved : goal.loop-other-preserved
loop-other-preserved c =
    let plan = c.args.plan.now in
    let p = c.args.peer in
    let others : List PeerNo = c.as_slice-other-items.result.now in
    let q : PeerNo = get_or others c.loop-other.other-index (peer_no 0) in
    let neighbour : c.neighbour.result ≡ neighbour_in plan p q = c.neighbour.ensures ∙ ap (λ (address : List ℕ). known_neighbour c.in_ok-known.known address q) c.in_ok-address_of.ensures ∙ c.in_ok-known.ensures (address_of plan q) q ∙ (λ i. neighbour_by (c.requires.dials i) (c.requires.apps i) (c.requires.explicit i) (address_of plan q) p q) ∙ neighbour_by_own plan p q in
    c.in_ok-push.ensures.items
    ∙ ap₂ (λ (ns : List Neighbour) (n : Neighbour). ns ++ n ∷ []) c.loop-other.invariant neighbour
    ∙ sym (map_more (neighbour_in plan p) others c.loop-other.other-index (peer_no 0) c.loop-other-test.true)

pub returns : goal.returns
returns c =
    let plan = c.args.plan.now in
    let p = c.args.peer in
    let joined = c.as_slice-other-items.ensures.value ∙ c.in_ok-joined.ensures ∙ ap (λ (dials : List Dial). filter (are_joined dials p) (numbers plan)) c.requires.dials ∙ neighbours_by_own plan p in
    c.loop-other.invariant
    ∙ ap (map (neighbour_in plan p)) (take_all c.loop-other.other-index c.as_slice-other-items.result.now c.loop-other-test.false ∙ joined)
