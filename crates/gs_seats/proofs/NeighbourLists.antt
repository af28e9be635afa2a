-- The neighbours of a peer of a plan.
use Rattle.std.proofs.Common.{◌≡◌, ℕ, zero, suc, ◌+◌, ◌<◌, arith, List, [], ◌∷◌, length, map, refl, sym, ap₂, subst}
use Rattle.std.specs.List.{range_with_len, AllByRecursion}
use Rattle.std.proofs.lemmas.List.Elements.{All-from_recursion}
use Rattle.std.proofs.lemmas.List.Kept.{AllPairs-cons, AllPairs-filter}
use Rattle.gs_base.specs.declared.names.PeerNo.{PeerNo}
use Rattle.gs_base.specs.declared.neighbour.Neighbour.{Neighbour}
use Rattle.gs_base.specs.Names.{peers_of}
use Rattle.gs_params.specs.Picks.{IsAscending}
use Rattle.gs_plan.specs.declared.plan.Plan.{Plan}
use Rattle.gs_plan.specs.Plans.{are_joined}
use Rattle.gs_rules.specs.Peers.{links_of}
use Rattle.gs_seats.specs.Rounds.{peer_no, neighbour_in, neighbours, numbers, peer_in}

same_numbers : (f : PeerNo → Neighbour) → ((q : PeerNo) → (f q).peer ≡ q) → (qs : List PeerNo) → peers_of (map f qs) ≡ qs
same_numbers f same [] = refl
same_numbers f same (q ∷ qs) = ap₂ (λ (r : PeerNo) (rs : List PeerNo). r ∷ rs) (same q) (same_numbers f same qs)

-- the peers that a peer has a link to are its neighbours
pub links_in : (plan : Plan) (p : PeerNo) → links_of (peer_in plan p) ≡ neighbours plan p
links_in plan p = same_numbers (neighbour_in plan p) (λ q. refl) (neighbours plan p)

-- numbers from this one on
above : (a n low : ℕ) → low < a → AllByRecursion (λ (q : PeerNo). low < q.0) (map peer_no (range_with_len a n))
above a zero low less = tt
above a (suc n) low less = (less, above (a + 1) n low (omega (arith, less)))

range_ascends : (a n : ℕ) → IsAscending (map peer_no (range_with_len a n))
range_ascends a zero = λ i j d before within. absurd (omega arith)
range_ascends a (suc n) = AllPairs-cons (λ (p q : PeerNo). p.0 < q.0) (peer_no a) (map peer_no (range_with_len (a + 1) n)) (All-from_recursion (λ (q : PeerNo). a < q.0) _ (above (a + 1) n a (omega arith))) (range_ascends (a + 1) n)

neighbours_ascend : (plan : Plan) (p : PeerNo) → IsAscending (neighbours plan p)
neighbours_ascend plan p = AllPairs-filter (λ (q r : PeerNo). q.0 < r.0) (are_joined plan.dials p) (numbers plan) (range_ascends 0 (length plan.peers))

pub links_ascend : (plan : Plan) (p : PeerNo) → IsAscending (links_of (peer_in plan p))
links_ascend plan p = subst IsAscending (sym (links_in plan p)) (neighbours_ascend plan p)
