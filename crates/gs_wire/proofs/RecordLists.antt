-- Bytes spell at most one list of records, and the loop over records finds it.
use Rattle.std.proofs.Common.{◌≡◌, ℕ, ◌<◌, List, [], ◌∷◌, ◌++◌, length, Some, None, refl, sym, ap, subst, ◌∙◌, append_assoc, append-nil, length-append, arith}
use Rattle.std.proofs.lemmas.Option.{none-some, some_pair_parts}
use Rattle.gs_wire.specs.Records.{Record, SpellsRecord, SpellRecords}
use Rattle.gs_wire.specs.Reading.{record_at}
use Rattle.gs_wire.proofs.RecordReading.{record_front, record_read, record_nonempty}

nothing_nonempty : (r : Record) (one rest : List ℕ) → SpellsRecord one r → [] ≡ one ++ rest → ⊥
nothing_nonempty r one rest h e = omega (arith, record_nonempty r one h, ap length e, length-append one rest)

-- a record at the front is the one that is read
same_front : (r s : Record) (a x b y : List ℕ) → SpellsRecord a r → SpellsRecord b s → a ++ x ≡ b ++ y → (r ≡ s) × (x ≡ y)
same_front r s a x b y p q e =
    let f = record_read r a x p in
    let g = record_read s b y q in
    let both : Some (r, x) ≡ Some (s, y) = sym f ∙ ap record_at e ∙ g in
    some_pair_parts r s x y both

-- bytes spell at most one list
pub one_list : (rs qs : List Record) (text : List ℕ) → SpellRecords text rs → SpellRecords text qs → rs ≡ qs
one_list [] [] text h k = refl
one_list [] (q ∷ qs) text h k = absurd (nothing_nonempty q k.0 k.1 k.3 (sym h ∙ k.2))
one_list (r ∷ rs) [] text h k = absurd (nothing_nonempty r h.0 h.1 h.3 (sym k ∙ h.2))
one_list (r ∷ rs) (q ∷ qs) text h k =
    let s = same_front r q h.0 h.1 k.0 k.1 h.3 k.3 (sym h.2 ∙ k.2) in
    let more = one_list rs qs h.1 h.4 (subst (λ (t : List ℕ). SpellRecords t qs) (sym s.1) k.4) in
    cc (s.0, more)

-- what begins with records goes on with records
pub records_after : (rs qs : List Record) (front rest : List ℕ) → SpellRecords front rs → SpellRecords (front ++ rest) qs → (ps : List Record) × (qs ≡ rs ++ ps) × SpellRecords rest ps
records_after [] qs front rest h k = (qs, refl, subst (λ (t : List ℕ). SpellRecords (t ++ rest) qs) h k)
records_after (r ∷ rs) [] front rest h k =
    absurd (nothing_nonempty r h.0 (h.1 ++ rest) h.3 (sym k ∙ ap (λ (t : List ℕ). t ++ rest) h.2 ∙ append_assoc h.0 h.1 rest))
records_after (r ∷ rs) (q ∷ qs) front rest h k =
    let e : h.0 ++ (h.1 ++ rest) ≡ k.0 ++ k.1 = sym (append_assoc h.0 h.1 rest) ∙ ap (λ (t : List ℕ). t ++ rest) (sym h.2) ∙ k.2 in
    let s = same_front r q h.0 (h.1 ++ rest) k.0 k.1 h.3 k.3 e in
    let more = records_after rs qs h.1 rest h.4 (subst (λ (t : List ℕ). SpellRecords t qs) (sym s.1) k.4) in
    (more.0, cc (s.0, more.1), more.2)

-- one more record at the end
records_push : (rs : List Record) (r : Record) (front one : List ℕ) → SpellRecords front rs → SpellsRecord one r → SpellRecords (front ++ one) (rs ++ r ∷ [])
records_push [] r front one h p = (one, [], rw h (sym (append-nil one)), p, refl)
records_push (q ∷ rs) r front one h p = (h.0, h.1 ++ one, ap (λ (t : List ℕ). t ++ one) h.2 ∙ append_assoc h.0 h.1 one, h.3, records_push rs r h.1 one h.4 p)

-- records, and others after them
pub records_append : (rs qs : List Record) (x y : List ℕ) → SpellRecords x rs → SpellRecords y qs → SpellRecords (x ++ y) (rs ++ qs)
records_append [] qs x y h k = rw h k
records_append (r ∷ rs) qs x y h k = (h.0, h.1 ++ y, ap (λ (t : List ℕ). t ++ y) h.2 ∙ append_assoc h.0 h.1 y, h.3, records_append rs qs h.1 y h.4 k)

-- where no record stands, nothing is spelled
pub records_stuck : (rs : List Record) (text : List ℕ) → 0 < length text → record_at text ≡ None → ¬ SpellRecords text rs
records_stuck [] text long none h = omega (arith, ap length h)
records_stuck (r ∷ rs) text long none h = none-some (r, h.1) (sym none ∙ ap record_at h.2 ∙ record_read r h.0 h.1 h.3)

-- ---- the loop over records

-- these records were read, and the rest is left
pub record ReadSoFar (bytes rest : List ℕ) (rs : List Record) : Type 0 where
  pub front : List ℕ
  pub parts : bytes ≡ front ++ rest
  pub spells : SpellRecords front rs

pub read_none : (bytes : List ℕ) → ReadSoFar bytes bytes []
read_none bytes = record { front = []; parts = refl; spells = refl }

pub read_one : (bytes rest : List ℕ) (rs : List Record) (r : Record) (after : List ℕ) → ReadSoFar bytes rest rs → record_at rest ≡ Some (r, after) → ReadSoFar bytes after (rs ++ r ∷ [])
read_one bytes rest rs r after h e =
    let f = record_front rest (r, after) e in
    record {
      front = h.front ++ f.text;
      parts = h.parts ∙ ap (λ (t : List ℕ). h.front ++ t) f.parts ∙ sym (append_assoc h.front f.text after);
      spells = records_push rs r h.front f.text h.spells f.has;
    }

pub read_all : (bytes rest : List ℕ) (rs : List Record) → length rest ≡ 0 → ReadSoFar bytes rest rs → SpellRecords bytes rs
read_all bytes [] rs empty h = subst (λ (t : List ℕ). SpellRecords t rs) (sym (h.parts ∙ append-nil h.front)) h.spells
read_all bytes (b ∷ rest) rs empty h = absurd (omega arith)

pub read_stuck : (bytes rest : List ℕ) (rs : List Record) → ReadSoFar bytes rest rs → 0 < length rest → record_at rest ≡ None → (qs : List Record) → SpellRecords bytes qs → ⊥
read_stuck bytes rest rs h long none qs k =
    let more = records_after rs qs h.front rest h.spells (subst (λ (t : List ℕ). SpellRecords t qs) h.parts k) in
    records_stuck more.0 rest long none more.2

-- all records of the bytes are those that were read, and more
pub read_front : (bytes rest : List ℕ) (rs : List Record) → ReadSoFar bytes rest rs → (qs : List Record) → SpellRecords bytes qs → (ps : List Record) × (qs ≡ rs ++ ps)
read_front bytes rest rs h qs k =
    let more = records_after rs qs h.front rest h.spells (subst (λ (t : List ℕ). SpellRecords t qs) h.parts k) in
    (more.0, more.1)
