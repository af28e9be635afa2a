-- Reading a record finds a spelling of it, and finds each spelling, whatever follows it.
use Rattle.std.proofs.Common.{◌≡◌, ℕ, ◌+◌, ◌*◌, ◌/◌, ◌%◌, ◌<◌, ◌≤◌, Bool, true, false, cond, ltb, eqb, List, ◌++◌, length, take, drop, Option, Some, None, refl, sym, ap, subst, ◌∙◌, append_assoc, take-append-drop, length-append, length-take, arith, inl, inr, ◌⊎◌}
use Rattle.std.proofs.lemmas.Bool.{ltb-false, le-ltb, eqb-true}
use Rattle.std.proofs.lemmas.List.{take_at, drop_at}
use Rattle.std.proofs.lemmas.Option.{none-some, same_Some}
use Rattle.gs_wire.specs.Varint.{IsVarint}
use Rattle.gs_wire.specs.Records.{Value, Varint, I64, Len, I32, wire_type, SpellsValue, Record, tag_of, SpellsRecord}
use Rattle.gs_wire.specs.Reading.{◌>>=◌, varint_at, bytes_at, value_at, record_at}
use Rattle.gs_wire.proofs.Varints.{bind_some, Front, varint_front, varint_read, groups_nonempty}

-- ---- some bytes

guard_some : {A : Type 0} (b : Bool) (x y : A) → cond b None (Some x) ≡ Some y → (b ≡ false) × (x ≡ y)
guard_some true x y e = absurd cc
guard_some false x y e = (refl, cc)

pub bytes_front : (n : ℕ) (bytes : List ℕ) (x : List ℕ × List ℕ) → bytes_at n bytes ≡ Some x → (bytes ≡ x.0 ++ x.1) × (length x.0 ≡ n)
bytes_front n bytes x e =
    let g = guard_some (ltb (length bytes) n) (take n bytes, drop n bytes) x e in
    let long : n ≤ length bytes = ltb-false _ _ g.0 in
    subst (λ (y : List ℕ × List ℕ). (bytes ≡ y.0 ++ y.1) × (length y.0 ≡ n)) g.1 (sym (take-append-drop n bytes), omega (arith, length-take n bytes))

bytes_read : (text rest : List ℕ) → bytes_at (length text) (text ++ rest) ≡ Some (text, rest)
bytes_read text rest =
    let long : ltb (length (text ++ rest)) (length text) ≡ false = le-ltb _ _ (omega (arith, length-append text rest)) in
    rw (long, take_at text rest (length text) refl, drop_at text rest (length text) refl) refl

-- ---- a value

choice : {A : Type 0} (b : Bool) (x y : Option A) (z : A) → cond b x y ≡ Some z → ((b ≡ true) × (x ≡ Some z)) ⊎ ((b ≡ false) × (y ≡ Some z))
choice true x y z e = inl (refl, e)
choice false x y z e = inr (refl, e)

abbrev IsValueOf : ℕ → Value → List ℕ → Type 0
IsValueOf kind v text = (kind ≡ wire_type v) × SpellsValue text v

abbrev Front_of : ℕ → List ℕ → Value × List ℕ → Type 0
Front_of kind bytes x = Front (IsValueOf kind x.0) bytes x.1

varint_value : (kind : ℕ) (bytes : List ℕ) (x : Value × List ℕ) → kind ≡ 0 → (varint_at bytes >>= λ n. Some (Varint n.0, n.1)) ≡ Some x → Front_of kind bytes x
varint_value kind bytes x k e =
    let s = bind_some (varint_at bytes) (λ n. Some (Varint n.0, n.1)) x e in
    let f = varint_front bytes s.0 s.1 in
    subst (Front_of kind bytes) (same_Some (Varint s.0.0, s.0.1) x s.2) (record { text = f.text; parts = f.parts; has = (k, f.has) })

i64_value : (kind : ℕ) (bytes : List ℕ) (x : Value × List ℕ) → kind ≡ 1 → (bytes_at 8 bytes >>= λ y. Some (I64 y.0, y.1)) ≡ Some x → Front_of kind bytes x
i64_value kind bytes x k e =
    let s = bind_some (bytes_at 8 bytes) (λ y. Some (I64 y.0, y.1)) x e in
    let f = bytes_front 8 bytes s.0 s.1 in
    subst (Front_of kind bytes) (same_Some (I64 s.0.0, s.0.1) x s.2) (record { text = s.0.0; parts = f.0; has = (k, (refl, f.1)) })

i32_value : (kind : ℕ) (bytes : List ℕ) (x : Value × List ℕ) → kind ≡ 5 → (bytes_at 4 bytes >>= λ y. Some (I32 y.0, y.1)) ≡ Some x → Front_of kind bytes x
i32_value kind bytes x k e =
    let s = bind_some (bytes_at 4 bytes) (λ y. Some (I32 y.0, y.1)) x e in
    let f = bytes_front 4 bytes s.0 s.1 in
    subst (Front_of kind bytes) (same_Some (I32 s.0.0, s.0.1) x s.2) (record { text = s.0.0; parts = f.0; has = (k, (refl, f.1)) })

len_value : (kind : ℕ) (bytes : List ℕ) (x : Value × List ℕ) → kind ≡ 2 → (varint_at bytes >>= λ n. bytes_at n.0 n.1 >>= λ y. Some (Len y.0, y.1)) ≡ Some x → Front_of kind bytes x
len_value kind bytes x k e =
    let s = bind_some (varint_at bytes) (λ n. bytes_at n.0 n.1 >>= λ y. Some (Len y.0, y.1)) x e in
    let t = bind_some (bytes_at s.0.0 s.0.1) (λ y. Some (Len y.0, y.1)) x s.2 in
    let f = varint_front bytes s.0 s.1 in
    let g = bytes_front s.0.0 s.0.1 t.0 t.1 in
    let whole : bytes ≡ (f.text ++ t.0.0) ++ t.0.1 = f.parts ∙ ap (λ (u : List ℕ). f.text ++ u) g.0 ∙ sym (append_assoc f.text t.0.0 t.0.1) in
    subst (Front_of kind bytes) (same_Some (Len t.0.0, t.0.1) x t.2) (record { text = f.text ++ t.0.0; parts = whole; has = (k, (f.text, subst (λ (n : ℕ). IsVarint f.text n) (sym g.1) f.has, refl)) })

value_front : (kind : ℕ) (bytes : List ℕ) (x : Value × List ℕ) → value_at kind bytes ≡ Some x → Front_of kind bytes x
unfolding value_at
value_front kind bytes x e =
    elim (choice (eqb kind 0) _ _ x e) [
      | inl h ↦ varint_value kind bytes x (eqb-true _ _ h.0) h.1
      | inr h ↦ elim (choice (eqb kind 1) _ _ x h.1) [
        | inl h1 ↦ i64_value kind bytes x (eqb-true _ _ h1.0) h1.1
        | inr h1 ↦ elim (choice (eqb kind 2) _ _ x h1.1) [
          | inl h2 ↦ len_value kind bytes x (eqb-true _ _ h2.0) h2.1
          | inr h2 ↦ elim (choice (eqb kind 5) _ _ x h2.1) [
            | inl h3 ↦ i32_value kind bytes x (eqb-true _ _ h3.0) h3.1
            | inr h3 ↦ absurd (none-some x h3.1)
          ]
        ]
      ]
    ]

value_read : (v : Value) (text rest : List ℕ) → SpellsValue text v → value_at (wire_type v) (text ++ rest) ≡ Some (v, rest)
unfolding value_at
value_read (Varint n) text rest h = rw (varint_read text n rest h) refl
value_read (I64 bytes) text rest h =
    let e : bytes_at 8 (text ++ rest) ≡ Some (bytes, rest) = rw (h.0, ← h.1) (bytes_read bytes rest) in
    rw e refl
value_read (Len bytes) text rest h =
    let e : text ++ rest ≡ h.0 ++ (bytes ++ rest) = ap (λ (t : List ℕ). t ++ rest) h.2 ∙ append_assoc h.0 bytes rest in
    rw (e, varint_read h.0 (length bytes) (bytes ++ rest) h.1, bytes_read bytes rest) refl
value_read (I32 bytes) text rest h =
    let e : bytes_at 4 (text ++ rest) ≡ Some (bytes, rest) = rw (h.0, ← h.1) (bytes_read bytes rest) in
    rw e refl

-- ---- a record

type_small : (v : Value) → wire_type v < 8
type_small (Varint n) = omega arith
type_small (I64 bytes) = omega arith
type_small (Len bytes) = omega arith
type_small (I32 bytes) = omega arith

pub record_front : (bytes : List ℕ) (x : Record × List ℕ) → record_at bytes ≡ Some x → Front (λ t. SpellsRecord t x.0) bytes x.1
unfolding record_at
record_front bytes x e =
    let s = bind_some (varint_at bytes) (λ tag. cond (ltb tag.0 8) None (value_at (tag.0 % 8) tag.1 >>= λ v. Some (record { field = tag.0 / 8; value = v.0 }, v.1))) x e in
    let tag = s.0.0 in
    let f = varint_front bytes s.0 s.1 in
    elim (choice (ltb tag 8) _ _ x s.2) [
      | inl h ↦ absurd (none-some x h.1)
      | inr h ↦
          let t = bind_some (value_at (tag % 8) s.0.1) (λ v. Some (record { field = tag / 8; value = v.0 }, v.1)) x h.1 in
          let g = value_front (tag % 8) s.0.1 t.0 t.1 in
          let made : Record × List ℕ = (record { field = tag / 8; value = t.0.0 }, t.0.1) in
          let large : 8 ≤ tag = ltb-false _ _ h.0 in
          let is : tag ≡ 8 * (tag / 8) + wire_type t.0.0 = omega (arith, g.has.0) in
          let whole : bytes ≡ (f.text ++ g.text) ++ t.0.1 = f.parts ∙ ap (λ (u : List ℕ). f.text ++ u) g.parts ∙ sym (append_assoc f.text g.text t.0.1) in
          subst (λ (y : Record × List ℕ). Front (λ t. SpellsRecord t y.0) bytes y.1) (same_Some made x t.2) (record {
            text = f.text ++ g.text;
            parts = whole;
            has = record { tag = f.text; rest = g.text; parts = refl; numbered = omega (arith, large); spells_tag = subst (λ (n : ℕ). IsVarint f.text n) is f.has; spells_value = g.has.1 };
          })
    ]

pub record_read : (r : Record) (text rest : List ℕ) → SpellsRecord text r → record_at (text ++ rest) ≡ Some (r, rest)
unfolding record_at
record_read r text rest h =
    let small = type_small r.value in
    let tag = tag_of r in
    let kind : tag % 8 ≡ wire_type r.value = omega (arith, small) in
    let field : tag / 8 ≡ r.field = omega (arith, small) in
    let long : ltb tag 8 ≡ false = le-ltb _ _ (omega (arith, h.numbered)) in
    let e : text ++ rest ≡ h.tag ++ (h.rest ++ rest) = ap (λ (t : List ℕ). t ++ rest) h.parts ∙ append_assoc h.tag h.rest rest in
    rw (e, varint_read h.tag tag (h.rest ++ rest) h.spells_tag, long, kind, field, value_read r.value h.rest rest h.spells_value) refl

pub record_nonempty : (r : Record) (text : List ℕ) → SpellsRecord text r → 0 < length text
record_nonempty r text h =
    let some : 0 < length h.tag = groups_nonempty h.tag _ h.spells_tag.groups in
    omega (arith, some, ap length h.parts, length-append h.tag h.rest)

pub record_shorter : (bytes : List ℕ) (x : Record × List ℕ) → record_at bytes ≡ Some x → length x.1 < length bytes
record_shorter bytes x e =
    let f = record_front bytes x e in
    omega (arith, record_nonempty x.0 f.text f.has, ap length f.parts, length-append f.text x.1)
