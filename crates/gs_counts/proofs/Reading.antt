-- Entries that are seen one after the other.
use Rattle.std.proofs.Common.{◌≡◌, ◌<◌, ◌≤◌, ◌+◌, ℕ, zero, suc, List, [], ◌∷◌, ◌++◌, get_or, length, reverse, take, refl, sym, ap, subst, ◌∙◌, arith, append-nil, append_assoc}
use Rattle.std.proofs.lemmas.List.{reverse-append, take_more}
use Rattle.gs_base.specs.declared.names.PeerNo.{PeerNo}
use Rattle.gs_plan.specs.declared.plan.Plan.{Plan}
use Rattle.gs_rules.specs.declared.trace.Entry.{Entry}
use Rattle.gs_rules.specs.Tables.{Entries, last_moment}
use Rattle.gs_router.specs.Following.{AreInOrder}
use Rattle.gs_router.proofs.Following.{order_before}
use Rattle.gs_counts.specs.declared.happening.Happening.{Happening}
use Rattle.gs_counts.specs.declared.tables.Tables.{Tables}
use Rattle.gs_counts.specs.declared.traces.PeerCounter.{PeerCounter}
use Rattle.gs_counts.specs.Reading.{AreLater, IsCounterAfter, ShowsLater, later, later_happenings, later_sizes}
use Rattle.gs_counts.specs.Runs.{entry_happenings, entry_sizes, trace_happenings, trace_sizes}
use Rattle.gs_counts.specs.Standing.{MeshSize, Shows}

-- ---- a trace, the newest entry first, and further entries, the oldest first

-- the first of the further entries is the next one of the trace
pub next_first : (e : Entry) (es : List Entry) (L : Entries) → reverse (e ∷ es) ++ L ≡ reverse es ++ (e ∷ L)
next_first e es L =
    ap (λ (xs : List Entry). xs ++ L) (reverse-append (e ∷ []) es) ∙ append_assoc (reverse es) (e ∷ []) L

one_taken : (es : List Entry) (i : ℕ) (e : Entry) → i < length es → e ≡ get_or es i e → take i es ++ e ∷ [] ≡ take (i + 1) es
one_taken es i e below is = ap (λ (x : Entry). take i es ++ x ∷ []) is ∙ sym (take_more es i e below)

-- one further entry after others
pub one_further : (es : List Entry) (L : Entries) (i : ℕ) (e : Entry) → i < length es → e ≡ get_or es i e → e ∷ (reverse (take i es) ++ L) ≡ reverse (take (i + 1) es) ++ L
one_further es L i e below is =
    ap (λ (xs : List Entry). xs ++ L) (sym (reverse-append (take i es) (e ∷ [])))
    ∙ ap (λ (xs : List Entry). reverse xs ++ L) (one_taken es i e below is)

-- ---- their moments

pub order_later : (es : List Entry) (L : Entries) → AreInOrder (reverse es ++ L) → AreLater (last_moment L) es
order_later [] L order = tt
order_later (e ∷ es) L order =
    let next = subst AreInOrder (next_first e es L) order in
    ((order_before (reverse es) (e ∷ L) next).0, order_later es (e ∷ L) next)

pub later_at : (es : List Entry) (L : Entries) (i : ℕ) (d : Entry) → AreLater (last_moment L) es → i < length es → last_moment (reverse (take i es) ++ L) ≤ (get_or es i d).at.0
later_at [] L i d are below = absurd (omega (arith, below))
later_at (e ∷ es) L zero d are below = are.0
later_at (e ∷ es) L (suc i) d are below =
    subst (λ (K : Entries). last_moment K ≤ (get_or es i d).at.0) (sym (next_first e (take i es) L)) (later_at es (e ∷ L) i d are.1 (omega (arith, below)))

-- two traces that one counter has seen end at one moment
pub in_order : {plan other : Plan} {p q : PeerNo} {counter : PeerCounter} {K L : Entries} {n : ℕ} → IsCounterAfter plan p counter K → IsCounterAfter other q counter L → last_moment K ≤ n → last_moment L ≤ n
in_order first second low =
    let one = first.last in
    let two = second.last in
    omega (arith, one, two, low)

-- ---- what they add

module _ {A : Type 0} (each : Entries → Entry → List A) where
  later_more : (es : List Entry) (L : Entries) (e : Entry) → later each L (es ++ e ∷ []) ≡ later each L es ++ each (reverse es ++ L) e
  later_more [] L e = append-nil (each L e)
  later_more (x ∷ es) L e =
      ap (λ (xs : List A). each L x ++ xs) (later_more es (x ∷ L) e ∙ ap (λ (K : Entries). later each (x ∷ L) es ++ each K e) (sym (next_first x es L)))
      ∙ sym (append_assoc (each L x) (later each (x ∷ L) es) (each (reverse (x ∷ es) ++ L) e))

  pub one_later : (first : List A) (es : List Entry) (L : Entries) (i : ℕ) (e : Entry) → i < length es → e ≡ get_or es i e → (first ++ later each L (take i es)) ++ later each (reverse (take i es) ++ L) (e ∷ []) ≡ first ++ later each L (take (i + 1) es)
  one_later first es L i e below is =
      ap (λ (xs : List A). (first ++ later each L (take i es)) ++ xs) (append-nil (each (reverse (take i es) ++ L) e))
      ∙ append_assoc first (later each L (take i es)) (each (reverse (take i es) ++ L) e)
      ∙ ap (λ (xs : List A). first ++ xs) (sym (later_more (take i es) L e) ∙ ap (later each L) (one_taken es i e below is))

  -- what a trace adds up to, with further entries
  pub with_later : (all : Entries → List A) → ((L : Entries) (e : Entry) → all (e ∷ L) ≡ all L ++ each L e) → (es : List Entry) (L : Entries) → all (reverse es ++ L) ≡ all L ++ later each L es
  with_later all grows [] L = sym (append-nil (all L))
  with_later all grows (e ∷ es) L =
      ap all (next_first e es L)
      ∙ with_later all grows es (e ∷ L)
      ∙ ap (λ (xs : List A). xs ++ later each (e ∷ L) es) (grows L e)
      ∙ append_assoc (all L) (each L e) (later each (e ∷ L) es)

pub sizes_later : (es : List Entry) (L : Entries) → trace_sizes (reverse es ++ L) ≡ trace_sizes L ++ later_sizes L es
sizes_later es L = with_later entry_sizes trace_sizes (λ K e. refl) es L

module _ (plan : Plan) (p : PeerNo) where
  pub happenings_later : (es : List Entry) (L : Entries) → trace_happenings plan p (reverse es ++ L) ≡ trace_happenings plan p L ++ later_happenings plan p L es
  happenings_later es L = with_later (entry_happenings plan p) (trace_happenings plan p) (λ K e. refl) es L

  -- tables show one further entry after others
  pub shown_further : {old mid new : Tables} (es : List Entry) (L : Entries) (i : ℕ) (e : Entry) → i < length es → e ≡ get_or es i e → ShowsLater plan p old mid L (take i es) → ShowsLater plan p mid new (reverse (take i es) ++ L) (e ∷ []) → ShowsLater plan p old new L (take (i + 1) es)
  shown_further {new = new} es L i e below is had more = λ hs sizes was.
      subst (λ (xs : List Happening). Shows plan new xs (sizes ++ later_sizes L (take (i + 1) es))) (one_later (entry_happenings plan p) hs es L i e below is)
      (subst (λ (xs : List MeshSize). Shows plan new ((hs ++ later_happenings plan p L (take i es)) ++ later_happenings plan p (reverse (take i es) ++ L) (e ∷ [])) xs) (one_later entry_sizes sizes es L i e below is)
      (more (hs ++ later_happenings plan p L (take i es)) (sizes ++ later_sizes L (take i es)) (had hs sizes was)))

  -- tables show one entry
  pub shown_one : {old new : Tables} (L : Entries) (e : Entry) → ((hs : List Happening) (sizes : List MeshSize) → Shows plan old hs sizes → Shows plan new (hs ++ entry_happenings plan p L e) (sizes ++ entry_sizes L e)) → ShowsLater plan p old new L (e ∷ [])
  shown_one {new = new} L e shows = λ hs sizes was.
      subst (λ (xs : List Happening). Shows plan new (hs ++ xs) (sizes ++ later_sizes L (e ∷ []))) (sym (append-nil (entry_happenings plan p L e)))
      (subst (λ (xs : List MeshSize). Shows plan new (hs ++ entry_happenings plan p L e) (sizes ++ xs)) (sym (append-nil (entry_sizes L e))) (shows hs sizes was))

  -- nothing further
  pub shown_so_far : {old : Tables} (L : Entries) → ShowsLater plan p old old L []
  shown_so_far {old} L = λ hs sizes was.
      subst (λ (xs : List Happening). Shows plan old xs (sizes ++ [])) (sym (append-nil hs))
      (subst (λ (xs : List MeshSize). Shows plan old hs xs) (sym (append-nil sizes)) was)
