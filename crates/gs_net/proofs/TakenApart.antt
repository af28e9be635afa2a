-- What the tasks of a run gave is taken apart, one life after the other.
use Rattle.std.proofs.Common.{◌≡◌, ℕ, ◌+◌, List, [], ◌∷◌, ◌++◌, Vec, length, map, sym, ap, ap₂, ◌∙◌, arith}
use Rattle.std.proofs.lemmas.List.{map-append, length-append, length-map}
use Rattle.std.specs.List.{range_with_len}
use Rattle.std.specs.declared.alloc.Global.{Global}
use Rattle.gs_base.specs.declared.names.PeerNo.{PeerNo}
use Rattle.gs_ends.specs.Pairs.{Pair}
use Rattle.gs_report.specs.declared.finished.Finished.{Finished}
use Rattle.gs_net.specs.declared.lives.Lives.{Lives}
use Rattle.gs_net.specs.Given.{Given, bare}
use Rattle.gs_net.specs.Lives.{IsTakenApart}
use Rattle.gs_seats.specs.Rounds.{peer_no}
use Rattle.gs_seats.proofs.EachPeer.{numbers_more}

map_more : {A B : Type 0} (f : A → B) (xs ys : List A) (x : A) → ys ≡ xs ++ x ∷ [] → map f ys ≡ map f xs ++ f x ∷ []
map_more f xs ys x e = ap (map f) e ∙ map-append f xs (x ∷ [])

-- one life more
pub taken_more : (givens : List Given) (f : Given) (old new : Lives) (number : PeerNo) (life : Finished) (list : Vec Pair Global) → IsTakenApart givens old → number ≡ peer_no (length givens) → life ≡ bare f → list.items ≡ f.ends → new.peers.items ≡ old.peers.items ++ (number, life) ∷ [] → new.ends.items ≡ old.ends.items ++ list ∷ [] → IsTakenApart (givens ++ f ∷ []) new
taken_more givens f old new number life list h is_number is_life is_list peers ends = record {
  numbers =
      map_more (λ x. x.0) old.peers.items new.peers.items (number, life) peers
      ∙ ap₂ (λ (ps : List PeerNo) (p : PeerNo). ps ++ p ∷ []) h.numbers is_number
      ∙ sym (numbers_more (length givens))
      ∙ ap (λ (n : ℕ). map peer_no (range_with_len 0 n)) (sym (length-append givens (f ∷ [])));
  bare_lives =
      map_more (λ x. x.1) old.peers.items new.peers.items (number, life) peers
      ∙ ap₂ (λ (lives : List Finished) (l : Finished). lives ++ l ∷ []) h.bare_lives is_life
      ∙ sym (map-append bare givens (f ∷ []));
  ends =
      map_more (λ v. v.items) old.ends.items new.ends.items list ends
      ∙ ap₂ (λ (lists : List (List Pair)) (l : List Pair). lists ++ l ∷ []) h.ends is_list
      ∙ sym (map-append (λ g. g.ends) givens (f ∷ []));
}

-- as many as were taken
pub counted : (givens : List Given) (lives : Lives) → IsTakenApart givens lives → length lives.peers.items ≡ length givens
counted givens lives h = omega (arith, length-map lives.peers.items (λ x. x.1), ap length h.bare_lives, length-map givens bare)

pub one_longer : {A : Type 0} (xs ys : List A) (x : A) → ys ≡ xs ++ x ∷ [] → length ys ≡ length xs + 1
one_longer xs ys x e = ap length e ∙ length-append xs (x ∷ [])
