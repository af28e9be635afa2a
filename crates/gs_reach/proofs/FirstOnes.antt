-- The first publications of messages, and what is filed of them.
use Rattle.std.proofs.Common.{◌≡◌, ◌++◌, ◌∙◌, ◌&&◌, ◌||◌, Bool, true, false, not, cond, eqb, List, [], ◌∷◌, map, refl, sym, ap, ap₂}
use Rattle.std.specs.List.{filter, list_any}
use Rattle.std.proofs.lemmas.Bool.{cond-true, cond-false}
use Rattle.std.proofs.lemmas.List.Elements.{filter-append}
use Rattle.std.proofs.lemmas.Cmp.{nat_list_eq_equiv}
use Rattle.gs_reach.specs.declared.listed.Appearance.{Appearance}
use Rattle.gs_reach.specs.declared.listed.Arrival.{Arrival}
use Rattle.gs_reach.specs.Messages.{appearances, are_of_one, arrival_of, firsts, same_message}

-- one more is left out where it is one message with one of those before it
after : (s b : Bool) (y : Appearance) (x : Appearance) (F : List Appearance) (p : Appearance → Bool) → p x ≡ not s
    → y ∷ filter p (cond b F (F ++ x ∷ [])) ≡ cond (s || b) (y ∷ filter p F) ((y ∷ filter p F) ++ x ∷ [])
after true true y x F p e = refl
after false true y x F p e = refl
after true false y x F p e =
    ap (λ (xs : List Appearance). y ∷ xs) (filter-append p F (x ∷ []) ∙ ap (λ (b : Bool). filter p F ++ cond b (x ∷ []) []) e ∙ none (filter p F))
  where
    none : (xs : List Appearance) → xs ++ [] ≡ xs
    none [] = refl
    none (z ∷ zs) = ap (λ (ws : List Appearance). z ∷ ws) (none zs)
after false false y x F p e =
    ap (λ (xs : List Appearance). y ∷ xs) (filter-append p F (x ∷ []) ∙ ap (λ (b : Bool). filter p F ++ cond b (x ∷ []) []) e)

pub firsts_more : (before : List Appearance) (x : Appearance)
    → firsts (before ++ x ∷ []) ≡ cond (list_any (λ y. same_message y x) before) (firsts before) (firsts before ++ x ∷ [])
firsts_more [] x = refl
firsts_more (y ∷ ys) x =
    ap (λ (F : List Appearance). y ∷ filter (λ z. not (same_message y z)) F) (firsts_more ys x)
    ∙ after (same_message y x) (list_any (λ z. same_message z x) ys) y x (firsts ys) (λ z. not (same_message y z)) refl

-- two are of one payload and topic whichever is named first
turned : (m x : Appearance) → are_of_one m x ≡ are_of_one x m
turned m x = ap₂ (λ (s t : Bool). s && t) (nat_list_eq_equiv.symm m.topic.0 x.topic.0) (nat_list_eq_equiv.symm m.payload x.payload)

one_more : (b : Bool) (x m : Appearance) (xs : List Appearance)
    → list_any (λ (a : Arrival). eqb a.at.0 m.at.0) (map arrival_of (cond b (x ∷ xs) xs))
    ≡ ((b && eqb x.at.0 m.at.0) || list_any (λ (a : Arrival). eqb a.at.0 m.at.0) (map arrival_of xs))
one_more true x m xs = refl
one_more false x m xs = refl

-- one of these is the same message where its payload appears on its topic at its moment
pub is_known : (m : Appearance) (all : List Appearance)
    → list_any (λ (a : Arrival). eqb a.at.0 m.at.0) (appearances m all) ≡ list_any (λ y. same_message y m) all
is_known m [] = refl
is_known m (x ∷ xs) =
    one_more (are_of_one m x) x m (filter (are_of_one m) xs)
    ∙ ap₂ (λ (s t : Bool). (s && eqb x.at.0 m.at.0) || t) (turned m x) (is_known m xs)

-- a publication that is known adds no message
pub first_known : (one : Appearance) (before list : List Appearance) (known : Bool) (found : List Arrival)
    → known ≡ list_any (λ (a : Arrival). eqb a.at.0 one.at.0) found → found ≡ appearances one before → known ≡ true
    → list ≡ firsts before → list ≡ firsts (before ++ one ∷ [])
first_known one before list known found tells is so same =
    let among : list_any (λ y. same_message y one) before ≡ true =
    sym (is_known one before) ∙ ap (λ (xs : List Arrival). list_any (λ (a : Arrival). eqb a.at.0 one.at.0) xs) (sym is) ∙ sym tells ∙ so in
    same ∙ sym (firsts_more before one ∙ cond-true (list_any (λ y. same_message y one) before) (firsts before) (firsts before ++ one ∷ []) among)

-- another one does
pub first_new : (one : Appearance) (before old new : List Appearance) (known : Bool) (found : List Arrival)
    → known ≡ list_any (λ (a : Arrival). eqb a.at.0 one.at.0) found → found ≡ appearances one before → known ≡ false
    → old ≡ firsts before → new ≡ old ++ one ∷ [] → new ≡ firsts (before ++ one ∷ [])
first_new one before old new known found tells is so same more =
    let among : list_any (λ y. same_message y one) before ≡ false =
    sym (is_known one before) ∙ ap (λ (xs : List Arrival). list_any (λ (a : Arrival). eqb a.at.0 one.at.0) xs) (sym is) ∙ sym tells ∙ so in
    more ∙ ap (λ (xs : List Appearance). xs ++ one ∷ []) same
    ∙ sym (firsts_more before one ∙ cond-false (list_any (λ y. same_message y one) before) (firsts before) (firsts before ++ one ∷ []) among)
