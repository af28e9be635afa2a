-- Reading from the front of bytes: what was read, and what follows it.
use Rattle.std.specs.Prelude.{ℕ, zero, suc, ◌+◌, ◌-◌, ◌*◌, ◌/◌, ◌%◌, ◌^◌, List, [], ◌∷◌, length, take, drop, Option, Some, None, nat_lt, ◌==◌, if◌then◌else◌}
use Rattle.gs_wire.specs.Records.{Value, Varint, I64, Len, I32, Record}

infixl 10 ◌>>=◌
abbrev pub ◌>>=◌ : {A B : Type 0} → Option A → (A → Option B) → Option B
None >>= f = None
(Some x) >>= f = f x

-- a varint of at most this many bytes
unfoldable pub varint_at_most : ℕ → List ℕ → Option (ℕ × List ℕ)
varint_at_most zero bytes = None
varint_at_most (suc k) [] = None
varint_at_most (suc k) (b ∷ bytes) =
    if nat_lt b 128 then Some (b, bytes)
    else if nat_lt b 256 then (varint_at_most k bytes >>= λ high.
    if nat_lt ((b - 128) + 128 * high.0) (2 ^ 64) then Some ((b - 128) + 128 * high.0, high.1) else None)
    else None

unfoldable pub varint_at : List ℕ → Option (ℕ × List ℕ)
varint_at bytes = varint_at_most 10 bytes

-- the next n bytes, or nothing where fewer are left
abbrev pub bytes_at : ℕ → List ℕ → Option (List ℕ × List ℕ)
bytes_at n bytes = if nat_lt (length bytes) n then None else Some (take n bytes, drop n bytes)

-- the value of a wire type
unfoldable pub value_at : ℕ → List ℕ → Option (Value × List ℕ)
value_at kind bytes =
    if kind == 0 then varint_at bytes >>= (λ n. Some (Varint n.0, n.1))
    else if kind == 1 then bytes_at 8 bytes >>= (λ x. Some (I64 x.0, x.1))
    else if kind == 2 then varint_at bytes >>= (λ n. bytes_at n.0 n.1 >>= λ x. Some (Len x.0, x.1))
    else if kind == 5 then bytes_at 4 bytes >>= (λ x. Some (I32 x.0, x.1))
    else None

unfoldable pub record_at : List ℕ → Option (Record × List ℕ)
record_at bytes =
    varint_at bytes >>= λ tag.
    if nat_lt tag.0 8 then None
    else value_at (tag.0 % 8) tag.1 >>= λ v. Some (record { field = tag.0 / 8; value = v.0 }, v.1)
