-- A trace that is seen entry by entry.
use Rattle.std.proofs.Common.{◌≡◌, ◌<◌, ◌≤◌, ◌+◌, ℕ, List, [], ◌∷◌, ◌++◌, append-nil, append_assoc, arith, drop, get_or, length, reverse, take, ap, subst, sym, ◌∙◌}
use Rattle.std.proofs.lemmas.List.{drop_more, reverse-append, take-append-drop, take_more}
use Rattle.gs_base.specs.declared.names.PeerNo.{PeerNo}
use Rattle.gs_plan.specs.declared.plan.Plan.{Plan}
use Rattle.gs_rules.specs.declared.trace.Entry.{Entry}
use Rattle.gs_rules.specs.Tables.{Entries, last_moment}
use Rattle.gs_router.specs.Following.{AreInOrder}
use Rattle.gs_opinions.specs.declared.opinion.Opinion.{Opinion}
use Rattle.gs_opinions.specs.Opinions.{entry_opinions, later_opinions, trace_opinions}

reversed : (e : Entry) (es : List Entry) (L : Entries) → reverse (e ∷ es) ++ L ≡ reverse es ++ (e ∷ L)
reversed e es L = ap (λ (xs : List Entry). xs ++ L) (reverse-append (e ∷ []) es) ∙ append_assoc (reverse es) (e ∷ []) L

-- one entry more
next_entry : (es : List Entry) (i : ℕ) (e : Entry) → i < length es → e ≡ get_or es i e → take i es ++ e ∷ [] ≡ take (i + 1) es
next_entry es i e low is = ap (λ (x : Entry). take i es ++ x ∷ []) is ∙ sym (take_more es i e low)

pub next_seen : (es : List Entry) (i : ℕ) (e : Entry) (L : Entries) → i < length es → e ≡ get_or es i e → e ∷ (reverse (take i es) ++ L) ≡ reverse (take (i + 1) es) ++ L
next_seen es i e L low is =
    ap (λ (xs : List Entry). xs ++ L) (sym (reverse-append (take i es) (e ∷ [])) ∙ ap reverse (next_entry es i e low is))

module _ (plan : Plan) (p : PeerNo) where
  -- the opinions in a trace are those in its first entries, and those at the later ones
  pub later_is : (es : List Entry) (L : Entries) → trace_opinions plan p (reverse es ++ L) ≡ trace_opinions plan p L ++ later_opinions plan p es L
  later_is [] L = sym (append-nil (trace_opinions plan p L))
  later_is (e ∷ es) L =
      ap (trace_opinions plan p) (reversed e es L)
      ∙ later_is es (e ∷ L)
      ∙ append_assoc (trace_opinions plan p L) (entry_opinions plan p e L) (later_opinions plan p es (e ∷ L))

  later_more : (es : List Entry) (e : Entry) (L : Entries) → later_opinions plan p (es ++ e ∷ []) L ≡ later_opinions plan p es L ++ entry_opinions plan p e (reverse es ++ L)
  later_more [] e L = append-nil (entry_opinions plan p e L)
  later_more (x ∷ es) e L =
      ap (λ (os : List Opinion). entry_opinions plan p x L ++ os) (later_more es e (x ∷ L))
      ∙ sym (append_assoc (entry_opinions plan p x L) (later_opinions plan p es (x ∷ L)) (entry_opinions plan p e (reverse es ++ (x ∷ L))))
      ∙ ap (λ (M : Entries). (entry_opinions plan p x L ++ later_opinions plan p es (x ∷ L)) ++ entry_opinions plan p e M) (sym (reversed x es L))

  -- those at one entry more
  pub next_opinions : (es : List Entry) (i : ℕ) (e : Entry) (L : Entries) (os : List Opinion) → i < length es → e ≡ get_or es i e
      → (os ++ later_opinions plan p (take i es) L) ++ entry_opinions plan p e (reverse (take i es) ++ L) ≡ os ++ later_opinions plan p (take (i + 1) es) L
  next_opinions es i e L os low is =
      append_assoc os (later_opinions plan p (take i es) L) (entry_opinions plan p e (reverse (take i es) ++ L))
      ∙ ap (λ (xs : List Opinion). os ++ xs) (sym (later_more (take i es) e L) ∙ ap (λ (xs : List Entry). later_opinions plan p xs L) (next_entry es i e low is))

-- ---- the order of entries

earlier_ordered : (xs M : Entries) → AreInOrder (xs ++ M) → AreInOrder M
earlier_ordered [] M h = h
earlier_ordered (x ∷ xs) M h = earlier_ordered xs M h.1

ordered_at : (first rest : List Entry) (e : Entry) (L : Entries) → AreInOrder (reverse (first ++ e ∷ rest) ++ L) → last_moment (reverse first ++ L) ≤ e.at.0
ordered_at first rest e L h =
    (earlier_ordered (reverse rest) (e ∷ (reverse first ++ L))
    (subst AreInOrder
    (ap (λ (xs : List Entry). xs ++ L) (reverse-append first (e ∷ rest))
    ∙ append_assoc (reverse (e ∷ rest)) (reverse first) L
    ∙ reversed e rest (reverse first ++ L)) h)).0

-- entries that may come after a trace may also come after another that ends at the same moment
pub ordered_onto : (xs L M : Entries) → last_moment L ≡ last_moment M → AreInOrder M → AreInOrder (xs ++ L) → AreInOrder (xs ++ M)
ordered_onto [] L M same order h = order
ordered_onto (x ∷ []) L M same order h = (let low = h.0 in omega (arith, low, same), order)
ordered_onto (x ∷ y ∷ xs) L M same order h = (h.0, ordered_onto (y ∷ xs) L M same order h.1)

-- no entry is earlier than those that were seen before it
pub next_later : (es : List Entry) (i : ℕ) (e : Entry) (L : Entries) → i < length es → e ≡ get_or es i e → AreInOrder (reverse es ++ L) → last_moment (reverse (take i es) ++ L) ≤ e.at.0
next_later es i e L low is h =
    ordered_at (take i es) (drop (i + 1) es) e L
    (subst (λ (xs : List Entry). AreInOrder (reverse xs ++ L))
    (sym (take-append-drop i es) ∙ ap (λ (xs : List Entry). take i es ++ xs) (drop_more es i e low ∙ ap (λ (x : Entry). x ∷ drop (i + 1) es) (sym is))) h)
