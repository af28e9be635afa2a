-- Where words choose, what there is to do fixes what is done.
use Rattle.std.proofs.Common.{◌≡◌, ◌≢◌, ℕ, List, [], ◌∷◌, ◌++◌, Option, Some, None, refl, sym, ap, ap₂, subst, ◌∙◌, append_assoc, append-nil}
use Rattle.gs_base.specs.declared.names.Millis.{Millis}
use Rattle.gs_rules.specs.declared.event.Event.{Event}
use Rattle.gs_rules.specs.declared.trace.Entry.{Entry}
use Rattle.gs_rules.specs.declared.refusal.RefusedLine.{RefusedLine}
use Rattle.gs_rules.specs.Peers.{Peer}
use Rattle.gs_rules.specs.Tables.{Entries}
use Rattle.gs_rules.specs.Owed.{Debt, nothing, owed}
use Rattle.gs_rules.specs.Modes.{exact}
use Rattle.gs_rules.specs.Legal.{IsNext, IsAllowed, ArePayments, Opens, Comes}
use Rattle.gs_rules.specs.Rounds.{Todo, opening, noted, Does}
use Rattle.gs_rules.proofs.Legality.{legal_parts, next_alone}
use Rattle.gs_rules.proofs.Handled.{GoesOn, does_on}
use Rattle.gs_laws.specs.Fixed.{LegalByWords}
use Rattle.gs_laws.proofs.Lists.{last_of}

-- ---- what is paid

-- where something is owed, one event may come
owed_event : (p : Peer) (L : Entries) (events : List Event) (e f : Event) (a b : ℕ) → events ≢ [] → IsNext p L a events e → IsNext p L b events f → e ≡ f
owed_event p L [] e f a b some h k = absurd (some refl)
owed_event p L (x ∷ events) e f a b some h k = h ∙ sym k

payments_before : (p : Peer) (at : Millis) (L : Entries) (later paid : List Entry) → ArePayments p at L (later ++ paid) → ArePayments p at L paid
payments_before p at L [] paid h = h
payments_before p at L (e ∷ later) paid h = payments_before p at L later paid h.2

-- no more is paid than is owed
nothing_more : (p : Peer) (at : Millis) (L : Entries) (xs ys zs : List Entry) → ys ≡ zs ++ xs → ArePayments p at L ys → owed p (xs ++ L) ≡ nothing → xs ≡ ys
nothing_more p at L xs ys [] is whole done = sym is
nothing_more p at L xs ys (z ∷ zs) is whole done =
    let (front, last, ends) = last_of z zs in
    let parted : ys ≡ front ++ last ∷ xs = is ∙ ap (λ (ws : List Entry). ws ++ xs) ends ∙ append_assoc front (last ∷ []) xs in
    let first_more : ArePayments p at L (last ∷ xs) = payments_before p at L front (last ∷ xs) (subst (ArePayments p at L) parted whole) in
    absurd (first_more.1 (ap (λ (debt : Debt). debt.events) done))

module _ {S : Type 0} (word : S → ℕ) (after : S → S) where
  -- ---- what came before

  pub exact_before : (p : Peer) (first : S) (later L : Entries) → LegalByWords word after p first (later ++ L) → LegalByWords word after p first L
  exact_before p first later L legal =
      let parts = legal_parts (exact word after) p first legal.0 [] L later legal.1 in
      (parts.0, parts.1)

  pub exact_then_before : (p : Peer) (first : S) (K L : Entries) → GoesOn K L → LegalByWords word after p first L → LegalByWords word after p first K
  exact_then_before p first K L goes_on legal = exact_before p first goes_on.0 K (subst (LegalByWords word after p first) goes_on.1 legal)

  -- the newest entry is allowed
  newest : (p : Peer) (first : S) (e : Entry) (L : Entries) → LegalByWords word after p first (e ∷ L) → (s : S) × (t : S) × IsAllowed (exact word after) p L s e t
  newest p first e L legal = (legal.1.0, legal.0, subst (λ (N : Entries). IsAllowed (exact word after) p N legal.1.0 e legal.0) (append-nil L) legal.1.2)

  -- an event and its moment fix the next entry
  pub next_entry : (p : Peer) (first : S) (L : Entries) (e f : Entry) → LegalByWords word after p first (e ∷ L) → LegalByWords word after p first (f ∷ L) → e.at ≡ f.at → e.event ≡ f.event → e ≡ f
  next_entry p first L e f h k at event = (next_alone word after p first [] L e f h.0 k.0 h.1 k.1 at event).0

  -- ---- an event with what it owes

  -- After some of what is owed all of it goes on, whatever entry comes first: it is the one that came.
  goes_further : (p : Peer) (first : S) (at : Millis) (L : Entries) (x : Entry) (xs ys zs : List Entry) → ys ≡ zs ++ xs → ArePayments p at L (x ∷ xs) → ArePayments p at L ys → LegalByWords word after p first (x ∷ (xs ++ L)) → LegalByWords word after p first (ys ++ L) → owed p (ys ++ L) ≡ nothing → (ws : List Entry) × (ys ≡ ws ++ x ∷ xs)
  goes_further p first at L x xs ys [] is paid whole legal legal' done =
      absurd (paid.1 (ap (λ (debt : Debt). debt.events) (subst (λ (es : List Entry). owed p (es ++ L) ≡ nothing) is done)))
  goes_further p first at L x xs ys (z ∷ zs) is paid whole legal legal' done =
      let (front, last, ends) = last_of z zs in
      let parted : ys ≡ front ++ last ∷ xs = is ∙ ap (λ (ws : List Entry). ws ++ xs) ends ∙ append_assoc front (last ∷ []) xs in
      let theirs : ArePayments p at L (last ∷ xs) = payments_before p at L front (last ∷ xs) (subst (ArePayments p at L) parted whole) in
      let legal'' : LegalByWords word after p first (last ∷ (xs ++ L)) =
      exact_before p first front (last ∷ (xs ++ L)) (subst (LegalByWords word after p first) (ap (λ (ws : List Entry). ws ++ L) parted ∙ append_assoc front (last ∷ xs) L) legal') in
      let a = newest p first x (xs ++ L) legal in
      let b = newest p first last (xs ++ L) legal'' in
      let event : x.event ≡ last.event = owed_event p (xs ++ L) (owed p (xs ++ L)).events x.event last.event x.at.0 last.at.0 paid.1 a.2.next b.2.next in
      let same : x ≡ last = next_entry p first (xs ++ L) x last legal legal'' (paid.0 ∙ sym theirs.0) event in
      (front, parted ∙ ap (λ (e : Entry). front ++ e ∷ xs) (sym same))

  paid_further : (p : Peer) (first : S) (at : Millis) (L : Entries) (xs ys : List Entry) → ArePayments p at L xs → ArePayments p at L ys → LegalByWords word after p first (xs ++ L) → LegalByWords word after p first (ys ++ L) → owed p (ys ++ L) ≡ nothing → (zs : List Entry) × (ys ≡ zs ++ xs)
  paid_further p first at L [] ys paid whole legal legal' done = (ys, sym (append-nil ys))
  paid_further p first at L (x ∷ xs) ys paid whole legal legal' done =
      let (zs, is) = paid_further p first at L xs ys paid.2 whole (exact_before p first (x ∷ []) (xs ++ L) legal) legal' done in
      goes_further p first at L x xs ys zs is paid whole legal legal' done

  -- so two that pay all pay the same
  paid_alone : (p : Peer) (first : S) (at : Millis) (L : Entries) (xs ys : List Entry) → ArePayments p at L xs → ArePayments p at L ys → LegalByWords word after p first (xs ++ L) → LegalByWords word after p first (ys ++ L) → owed p (xs ++ L) ≡ nothing → owed p (ys ++ L) ≡ nothing → xs ≡ ys
  paid_alone p first at L xs ys paid whole legal legal' done done' =
      let (zs, is) = paid_further p first at L xs ys paid whole legal legal' done' in
      nothing_more p at L xs ys zs is whole done

  opens_alone : (p : Peer) (first : S) (at : Millis) (event : Event) (K L M : Entries) → LegalByWords word after p first L → LegalByWords word after p first M → Opens p at event K L → Opens p at event K M → L ≡ M
  opens_alone p first at event K L M legal legal' h k =
      let a = h.begun in
      let b = k.begun in
      let mine : LegalByWords word after p first (a.paid ++ a.first ∷ K) = subst (LegalByWords word after p first) a.entries legal in
      let theirs : LegalByWords word after p first (b.paid ++ b.first ∷ K) = subst (LegalByWords word after p first) b.entries legal' in
      let one : a.first ≡ b.first = next_entry p first K a.first b.first (exact_before p first a.paid (a.first ∷ K) mine) (exact_before p first b.paid (b.first ∷ K) theirs) (a.moment ∙ sym b.moment) (a.opened ∙ sym b.opened) in
      let payments : ArePayments p at (b.first ∷ K) a.paid = subst (λ (e : Entry). ArePayments p at (e ∷ K) a.paid) one a.payments in
      let legally : LegalByWords word after p first (a.paid ++ b.first ∷ K) = subst (λ (e : Entry). LegalByWords word after p first (a.paid ++ e ∷ K)) one mine in
      let mine_done : owed p (a.paid ++ b.first ∷ K) ≡ nothing = subst (λ (e : Entry). owed p (a.paid ++ e ∷ K) ≡ nothing) one (subst (λ (N : Entries). owed p N ≡ nothing) a.entries h.settled) in
      let theirs_done : owed p (b.paid ++ b.first ∷ K) ≡ nothing = subst (λ (N : Entries). owed p N ≡ nothing) b.entries k.settled in
      let same : a.paid ≡ b.paid = paid_alone p first at (b.first ∷ K) a.paid b.paid payments b.payments legally theirs mine_done theirs_done in
      a.entries ∙ ap₂ (λ (es : List Entry) (e : Entry). es ++ e ∷ K) same one ∙ sym b.entries

  comes_alone : (p : Peer) (first : S) (at : Millis) (event : Option Event) (K L M : Entries) → LegalByWords word after p first L → LegalByWords word after p first M → Comes p at event K L → Comes p at event K M → L ≡ M
  comes_alone p first at None K L M legal legal' h k = h ∙ sym k
  comes_alone p first at (Some event) K L M legal legal' h k = opens_alone p first at event K L M legal legal' h k

  -- ---- one thing after the other

  pub does_alone : (p : Peer) (first : S) (at : Millis) (todos : List Todo) (K L M : Entries) (refused more : List RefusedLine) → LegalByWords word after p first L → LegalByWords word after p first M → Does p at todos K L refused → Does p at todos K M more → (L ≡ M) × (refused ≡ more)
  does_alone p first at [] K L M refused more legal legal' h k = (h.0 ∙ sym k.0, h.1 ∙ sym k.1)
  does_alone p first at (todo ∷ todos) K L M refused more legal legal' (N, later, comes, does, is) (O, later', comes', does', is') =
      let mine = exact_then_before p first N L (does_on p at todos N L later does) legal in
      let theirs = exact_then_before p first O M (does_on p at todos O M later' does') legal' in
      let same : N ≡ O = comes_alone p first at (opening p K at todo) K N O mine theirs comes comes' in
      let rest = does_alone p first at todos O L M later later' legal legal' (subst (λ (J : Entries). Does p at todos J L later) same does) does' in
      (rest.0, is ∙ ap (λ (lines : List RefusedLine). noted p K at todo ++ lines) rest.1 ∙ sym is')
