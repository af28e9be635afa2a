-- Each move keeps the rule of a link.
use Rattle.std.proofs.Common.{◌≡◌, ◌≢◌, ℕ, zero, suc, true, false, true≢false, List, [], ◌∷◌, ◌++◌, length, set, sym, refl, ap, ◌∙◌, subst, ⊎_elim, append_assoc}
use Rattle.std.proofs.lemmas.List.Elements.{All-nil, All-head, All-tail, All-push}
use mathlib.Core.Option.{some, some-ne-none}
use lib.ListN.{get_elem?}
use Rattle.crossbeam_queue.specs.Fifo as fifo
use Rattle.crossbeam_queue.proofs.Lists.{at_set, at_snoc}
use Rattle.gs_link.specs.declared.item.Slot.{Slot}
use Rattle.gs_link.specs.declared.rule.Account.{Account}
use Rattle.gs_link.specs.Items.{IsCarried}
use Rattle.gs_link.specs.Runs.{closes, Run}
use Rattle.gs_link.specs.Moves.{account, Fits, InOrder, made, split_sender, split_receiver, Pushes, FindsFull, Pops, FindsEmpty, join, spent}
use Rattle.gs_link.proofs.Closes.{last-none, last-snoc}

-- ---- passes by their numbers

-- a number that a list has not, and the list with one more has, is the last
at_end : (l : List Account) (a b : Account) (j : ℕ) → get_elem? l j ≢ some b → get_elem? (l ++ a ∷ []) j ≡ some b → j ≡ length l
at_end [] a b zero n e = refl
at_end [] a b (suc j) n e = absurd (some-ne-none b (sym e))
at_end (x ∷ xs) a b zero n e = absurd (n e)
at_end (x ∷ xs) a b (suc j) n e = ap suc (at_end xs a b j n e)

abbrev Each : (ℕ → Account → Type 0) → List Account → Type 0
Each F accounts = (pass : ℕ) (v : Account) → get_elem? accounts pass ≡ some v → F pass v

-- what holds of a pass that was changed, and of each other one, holds of each
each_set : (F : ℕ → Account → Type 0) (accounts : List Account) (pass : ℕ) (w : Account) → F pass w → ((j : ℕ) (u : Account) → j ≢ pass → get_elem? accounts j ≡ some u → F j u) → Each F (set accounts pass w)
each_set F accounts pass w mine others j u e = ⊎_elim (λ (x : (j ≡ pass) × (w ≡ u)). subst (λ (y : ℕ × Account). F y.0 y.1) (λ i. (sym x.0 i, x.1 i)) mine)
    (λ (x : (j ≢ pass) × (get_elem? accounts j ≡ some u)). others j u x.0 x.1) (at_set accounts pass j w u e)

-- ---- make

pub makes : InOrder [] (made ∷ [])
makes = (0, 0, [], [], record { in_order = refl; closed_last = last-none; sized = All-nil IsCarried }, each_set (Fits 0 0 [] []) (made ∷ []) 0 made ((λ _. (refl, refl)), λ _. (refl, refl)) (λ j u other e. absurd (other (at_end [] _ u j (λ x. some-ne-none u (sym x)) e))))

-- ---- push, push found full

pub pushes : (n pass : ℕ) (v : Account) (slot : Slot) → v.sends ≡ true → closes v.accepted ≡ false → IsCarried slot → fifo.Pushes InOrder n pass v slot (Pushes v slot)
pushes n pass v slot may unclosed size waiting accounts _ h at = let w : Account = account v.sends v.takes (v.accepted ++ slot ∷ []) v.taken in let mine = h.5 pass v at in let accepted = h.2 ++ slot ∷ [] in let run = h.4 in (
  w,
  (
    h.0,
    h.1,
    accepted,
    h.3,
    record {
      in_order = ap (λ l. l ++ slot ∷ []) run.in_order ∙ append_assoc h.3 waiting (slot ∷ []);
      closed_last = last-snoc h.2 slot (ap closes (sym (mine.0 may).1) ∙ unclosed);
      sized = All-push IsCarried waiting slot run.sized size;
    },
    each_set (Fits h.0 h.1 accepted h.3) accounts pass w ((λ _. ((mine.0 may).0, ap (λ l. l ++ slot ∷ []) (mine.0 may).1)), mine.1)
        (λ j u other e. ((λ p. absurd (other (((h.5 j u e).0 p).0 ∙ sym (mine.0 may).0))), (h.5 j u e).1)),
  ),
  (may, unclosed, size, refl),
)

pub finds_full : (pass : ℕ) (v : Account) → v.sends ≡ true → fifo.Learns InOrder pass v (FindsFull v)
finds_full pass v may waiting accounts h at = (may, h.3, subst (λ l. Run l h.3 waiting) (sym ((h.5 pass v at).0 may).1) h.4)

-- ---- pop, pop found empty

pub pops : (pass : ℕ) (v : Account) → v.takes ≡ true → fifo.Pops InOrder pass v (Pops v)
pops pass v may slot waiting accounts h at = let w : Account = account v.sends v.takes v.accepted (v.taken ++ slot ∷ []) in let mine = h.5 pass v at in let taken = h.3 ++ slot ∷ [] in let run = h.4 in (
  w,
  (
    h.0,
    h.1,
    h.2,
    taken,
    record {
      in_order = run.in_order ∙ sym (append_assoc h.3 (slot ∷ []) waiting);
      closed_last = run.closed_last;
      sized = All-tail IsCarried slot waiting run.sized;
    },
    each_set (Fits h.0 h.1 h.2 taken) accounts pass w (mine.0, λ _. ((mine.1 may).0, ap (λ l. l ++ slot ∷ []) (mine.1 may).1))
        (λ j u other e. ((h.5 j u e).0, λ p. absurd (other (((h.5 j u e).1 p).0 ∙ sym (mine.1 may).0)))),
  ),
  (may, All-head IsCarried slot waiting run.sized, refl),
)

pub finds_empty : (pass : ℕ) (v : Account) → v.takes ≡ true → fifo.Learns InOrder pass v (FindsEmpty v)
finds_empty pass v may waiting accounts h at = (may, h.2, subst (λ l. Run h.2 l waiting) (sym ((h.5 pass v at).1 may).1) h.4)

-- ---- the two splits

pub splits_sender : (pass : ℕ) (v : Account) → v.sends ≡ true → fifo.Forks InOrder pass v (split_sender v).0 (split_sender v).1
splits_sender pass v may waiting accounts h at = let l : Account = (split_sender v).0 in let r : Account = (split_sender v).1 in let mine = h.5 pass v at in let vs : List Account = set accounts pass l in
    let Old : ℕ → Account → Type 0 = λ j u. (u.sends ≢ true) × (u.takes ≡ true → (j ≡ h.1) × (u.taken ≡ h.3)) in
    let old : Each Old vs = each_set Old accounts pass l ((λ p. true≢false (sym p)), mine.1) (λ j u other e. ((λ p. other (((h.5 j u e).0 p).0 ∙ sym (mine.0 may).0)), (h.5 j u e).1)) in (
      length vs,
      h.1,
      h.2,
      h.3,
      h.4,
      λ j u e. ⊎_elim (λ x. ((λ p. absurd ((old j u x).0 p)), (old j u x).1))
          (λ (is : r ≡ u). ((λ p. (at_end vs r u j (λ x. (old j u x).0 p) e, ap (λ (y : Account). y.accepted) (sym is) ∙ (mine.0 may).1)), λ p. absurd (true≢false (sym (ap (λ (y : Account). y.takes) is ∙ p))))) (at_snoc vs r u j e),
    )

pub splits_receiver : (pass : ℕ) (v : Account) → v.takes ≡ true → fifo.Forks InOrder pass v (split_receiver v).0 (split_receiver v).1
splits_receiver pass v may waiting accounts h at = let l : Account = (split_receiver v).0 in let r : Account = (split_receiver v).1 in let mine = h.5 pass v at in let vs : List Account = set accounts pass l in
    let Old : ℕ → Account → Type 0 = λ j u. (u.sends ≡ true → (j ≡ h.0) × (u.accepted ≡ h.2)) × (u.takes ≢ true) in
    let old : Each Old vs = each_set Old accounts pass l (mine.0, λ p. true≢false (sym p)) (λ j u other e. ((h.5 j u e).0, λ p. other (((h.5 j u e).1 p).0 ∙ sym (mine.1 may).0))) in (
      h.0,
      length vs,
      h.2,
      h.3,
      h.4,
      λ j u e. ⊎_elim (λ x. ((old j u x).0, λ p. absurd ((old j u x).1 p)))
          (λ (is : r ≡ u). ((λ p. absurd (true≢false (sym (ap (λ (y : Account). y.sends) is ∙ p)))), λ p. (at_end vs r u j (λ x. (old j u x).1 p) e, ap (λ (y : Account). y.taken) (sym is) ∙ (mine.1 may).1))) (at_snoc vs r u j e),
    )

-- ---- join

pub joins : (pass : ℕ) (v : Account) (other : ℕ) (u : Account) → v.sends ≡ true → u.takes ≡ true → fifo.Merges InOrder pass v other u (join v u) spent
joins pass v other u may_send may_take waiting accounts h at two at' = let both : Account = join v u in let mine = h.5 pass v at in let vs : List Account = set accounts pass both in
    let was : get_elem? accounts other ≡ some u = ⊎_elim (λ x. absurd (two x.0)) (λ x. x.1) (at_set accounts pass other both u at') in let theirs = (h.5 other u was).1 may_take in
    let Now : ℕ → Account → Type 0 = λ j y. j ≢ other → Fits h.0 pass h.2 h.3 j y in
    let now : Each Now vs = each_set Now accounts pass both (λ _. ((λ _. mine.0 may_send), λ _. (refl, theirs.1))) (λ j y _ e apart. ((h.5 j y e).0, λ p. absurd (apart (((h.5 j y e).1 p).0 ∙ sym theirs.0)))) in
    (h.0, pass, h.2, h.3, h.4, each_set (Fits h.0 pass h.2 h.3) vs other spent ((λ p. absurd (true≢false (sym p))), λ p. absurd (true≢false (sym p))) (λ j y apart e. now j y e apart))
