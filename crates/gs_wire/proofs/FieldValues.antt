-- What one more record adds to the values of a field.
use Rattle.std.proofs.Common.{◌≡◌, ℕ, List, [], ◌∷◌, ◌++◌, Option, Some, None, refl, ap, ◌∙◌, append-nil}
use Rattle.std.specs.List.{cons_option}
use Rattle.std.proofs.lemmas.List.Elements.{filter_map-append}
use Rattle.gs_wire.specs.declared.record.Value.{Value as Stored}
use Rattle.gs_wire.specs.declared.record.Value.TheVariants as stored
use Rattle.gs_wire.specs.declared.reader.Reader.{Reader}
use Rattle.gs_wire.specs.Views.{view_value}
use Rattle.gs_wire.specs.Records.{Record, varint_in, len_in, varint_values, len_values, last_or, last}

last_or-append : {A : Type 0} (found : Option A) (xs ys : List A) → last_or found (xs ++ ys) ≡ last_or (last_or found xs) ys
last_or-append found [] ys = refl
last_or-append found (x ∷ xs) ys = last_or-append (Some x) xs ys

-- the value that stands, after one more was or wasn't found
abbrev pub last_then : {A : Type 0} → List A → Option A → Option A
last_then xs found = last_or (last xs) (cons_option found [])

pub varint_values-push : (wanted : ℕ) (rs : List Record) (r : Record) → varint_values wanted (rs ++ r ∷ []) ≡ varint_values wanted rs ++ cons_option (varint_in wanted r.field r.value) []
varint_values-push wanted rs r = filter_map-append (λ r. varint_in wanted r.field r.value) rs (r ∷ [])

pub len_values-push : (wanted : ℕ) (rs : List Record) (r : Record) → len_values wanted (rs ++ r ∷ []) ≡ len_values wanted rs ++ cons_option (len_in wanted r.field r.value) []
len_values-push wanted rs r = filter_map-append (λ r. len_in wanted r.field r.value) rs (r ∷ [])

-- the values of a field, after one more was or wasn't found
abbrev pub push_option : {A : Type 0} → List A → Option A → List A
push_option xs None = xs
push_option xs (Some x) = xs ++ x ∷ []

append_option : {A : Type 0} (xs : List A) (o : Option A) → xs ++ cons_option o [] ≡ push_option xs o
append_option xs None = append-nil xs
append_option xs (Some x) = refl

pub all_len-push : (wanted : ℕ) (rs : List Record) (r : Record) (found : Option (List ℕ)) → len_in wanted r.field r.value ≡ found → len_values wanted (rs ++ r ∷ []) ≡ push_option (len_values wanted rs) found
all_len-push wanted rs r found e = len_values-push wanted rs r ∙ append_option (len_values wanted rs) (len_in wanted r.field r.value) ∙ ap (push_option (len_values wanted rs)) e

pub last_varint-push : (wanted : ℕ) (rs : List Record) (r : Record) (found : Option ℕ) → varint_in wanted r.field r.value ≡ found → last (varint_values wanted (rs ++ r ∷ [])) ≡ last_then (varint_values wanted rs) found
last_varint-push wanted rs r found e =
    ap last (varint_values-push wanted rs r) ∙ last_or-append None (varint_values wanted rs) (cons_option (varint_in wanted r.field r.value) []) ∙ ap (last_then (varint_values wanted rs)) e

pub last_len-push : (wanted : ℕ) (rs : List Record) (r : Record) (found : Option (List ℕ)) → len_in wanted r.field r.value ≡ found → last (len_values wanted (rs ++ r ∷ [])) ≡ last_then (len_values wanted rs) found
last_len-push wanted rs r found e =
    ap last (len_values-push wanted rs r) ∙ last_or-append None (len_values wanted rs) (cons_option (len_in wanted r.field r.value) []) ∙ ap (last_then (len_values wanted rs)) e

-- a record of another wire type holds no bytes for any field
pub not_len : (wanted field : ℕ) (value : Stored) → ((bytes : Reader) → value ≡ stored.Len bytes → ⊥) → len_in wanted field (view_value value) ≡ None
not_len wanted field (stored.Varint n) other = refl
not_len wanted field (stored.I64 bytes) other = refl
not_len wanted field (stored.Len bytes) other = absurd (other bytes refl)
not_len wanted field (stored.I32 bytes) other = refl
