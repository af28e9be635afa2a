-- Ends before any call, one neighbour more, and what they are known for.
use Rattle.std.proofs.Common.{◌≡◌, ℕ, Bool, true, false, if◌then◌else◌, List, [], ◌∷◌, ◌++◌, map, refl, sym, ap, ◌∙◌, append_assoc, append-nil}
use Rattle.gs_base.specs.declared.names.PeerNo.{PeerNo}
use Rattle.gs_base.specs.Names.{same_peer}
use Rattle.gs_link.specs.declared.item.Slot.{Slot}
use Rattle.gs_ends.specs.Pairs.{accepted_for}
use Rattle.gs_ends.specs.Lists.{Listed, Source, fresh_ends, joints_listed, listed_joint, taken_listed}

-- one pair more is made of the sources that are left
pub one_made : (room : ℕ) (made : List Listed) (pair : Listed) (source : Source) (left : List Source) (all : List Listed) → pair ≡ fresh_ends room source → made ++ map (fresh_ends room) (source ∷ left) ≡ all → (made ++ pair ∷ []) ++ map (fresh_ends room) left ≡ all
one_made room made pair source left all fresh before = append_assoc made (pair ∷ []) (map (fresh_ends room) left) ∙ ap (λ p. made ++ p ∷ map (fresh_ends room) left) fresh ∙ before

-- no source is left
pub all_made : (room : ℕ) (made : List Listed) (left : List Source) (all : List Listed) → left ≡ [] → made ++ map (fresh_ends room) left ≡ all → made ≡ all
all_made room made left all none is = sym (append-nil made) ∙ ap (λ l. made ++ map (fresh_ends room) l) (sym none) ∙ is

joints_fresh : (room : ℕ) (sources : List Source) → joints_listed (map (fresh_ends room) sources) ≡ map listed_joint sources
joints_fresh room [] = refl
joints_fresh room (source ∷ sources) = ap (λ l. listed_joint source ∷ l) (joints_fresh room sources)

either_empty : (b : Bool) (rest : List Slot) → rest ≡ [] → (if b then [] else rest) ≡ []
either_empty true rest is = refl
either_empty false rest is = is

accepted_fresh : (room : ℕ) (sources : List Source) (q : PeerNo) → accepted_for (map (fresh_ends room) sources) q ≡ []
accepted_fresh room [] q = refl
accepted_fresh room (source ∷ sources) q = either_empty (same_peer source.0 q) _ (accepted_fresh room sources q)

taken_fresh : (room : ℕ) (sources : List Source) (q : PeerNo) → taken_listed (map (fresh_ends room) sources) q ≡ []
taken_fresh room [] q = refl
taken_fresh room (source ∷ sources) q = either_empty (same_peer source.0 q) _ (taken_fresh room sources q)

-- ---- the same of a list that is known to be fresh

pub joints_as_fresh : (room : ℕ) (sources : List Source) (pairs : List Listed) → pairs ≡ map (fresh_ends room) sources → joints_listed pairs ≡ map listed_joint sources
joints_as_fresh room sources pairs is = ap joints_listed is ∙ joints_fresh room sources

pub accepted_as_fresh : (room : ℕ) (sources : List Source) (pairs : List Listed) → pairs ≡ map (fresh_ends room) sources → (q : PeerNo) → accepted_for pairs q ≡ []
accepted_as_fresh room sources pairs is q = ap (λ l. accepted_for l q) is ∙ accepted_fresh room sources q

pub taken_as_fresh : (room : ℕ) (sources : List Source) (pairs : List Listed) → pairs ≡ map (fresh_ends room) sources → (q : PeerNo) → taken_listed pairs q ≡ []
taken_as_fresh room sources pairs is q = ap (λ l. taken_listed l q) is ∙ taken_fresh room sources q
