-- Short lists in which no neighbour stands twice.
use Rattle.std.proofs.Common.{◌≡◌, false, List, [], ◌∷◌, sym, subst}
use Rattle.std.specs.List.{IsDistinct}
use Rattle.std.proofs.lemmas.Map.Keys.{IsDistinct-cons}
use Rattle.gs_base.specs.declared.names.PeerNo.{PeerNo}
use Rattle.gs_base.specs.Names.{same_peer}
use Rattle.gs_ends.specs.Pairs.{peers_in}
use Rattle.gs_ends.specs.Lists.{Source, senders_of}

pub one_alone : {A B : Type 0} (xs : List (PeerNo × A × B)) (x : PeerNo × A × B) → xs ≡ x ∷ [] → IsDistinct same_peer (peers_in xs)
unfolding IsDistinct
one_alone xs x is = subst (λ l. IsDistinct same_peer (peers_in l)) (sym is) (IsDistinct-cons same_peer x.0 [] tt tt)

pub two_apart : {A B : Type 0} (xs : List (PeerNo × A × B)) (x y : PeerNo × A × B) → xs ≡ x ∷ y ∷ [] → same_peer x.0 y.0 ≡ false → IsDistinct same_peer (peers_in xs)
unfolding IsDistinct
two_apart xs x y is apart = subst (λ l. IsDistinct same_peer (peers_in l)) (sym is) (IsDistinct-cons same_peer x.0 (y.0 ∷ []) (apart, tt) (IsDistinct-cons same_peer y.0 [] tt tt))

pub two_sources : (xs : List Source) (x y : Source) → xs ≡ x ∷ y ∷ [] → same_peer x.0 y.0 ≡ false → IsDistinct same_peer (senders_of xs)
unfolding IsDistinct
two_sources xs x y is apart = subst (λ l. IsDistinct same_peer (senders_of l)) (sym is) (IsDistinct-cons same_peer x.0 (y.0 ∷ []) (apart, tt) (IsDistinct-cons same_peer y.0 [] tt tt))

pub three_sources : (xs : List Source) (x y z : Source) → xs ≡ x ∷ y ∷ z ∷ [] → same_peer x.0 y.0 ≡ false → same_peer x.0 z.0 ≡ false → same_peer y.0 z.0 ≡ false → IsDistinct same_peer (senders_of xs)
unfolding IsDistinct
three_sources xs x y z is first second third = subst (λ l. IsDistinct same_peer (senders_of l)) (sym is) (IsDistinct-cons same_peer x.0 (y.0 ∷ z.0 ∷ []) (first, (second, tt)) (IsDistinct-cons same_peer y.0 (z.0 ∷ []) (third, tt) (IsDistinct-cons same_peer z.0 [] tt tt)))
