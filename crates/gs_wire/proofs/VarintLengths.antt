-- How many groups a varint has: a larger number has no fewer, and a sum has no more than its parts together.
use Rattle.std.proofs.Common.{ℕ, zero, suc, ◌+◌, ◌-◌, ◌/◌, ◌≤◌, ◌≡◌, length, ap, arith, inl, inr}
use Rattle.std.proofs.lemmas.Bool.{cases_lt, lt-ltb, le-ltb}
use Rattle.gs_wire.specs.Varint.{varint_within}
use Rattle.gs_wire.proofs.Varints.{varint_last}
use Rattle.gs_wire.proofs.VarintLoops.{written_nonempty}

-- a larger number has no fewer
pub more_groups : (k a b : ℕ) → a ≤ b → length (varint_within k a) ≤ length (varint_within k b)
unfolding varint_within
more_groups zero a b le = omega arith
more_groups (suc k) a b le = elim (cases_lt a 128) [
  | inl la ↦ rw (lt-ltb a 128 la) (omega (arith, written_nonempty (suc k) b))
  | inr ga ↦
      let gb : 128 ≤ b = omega (arith, le, ga) in
      rw (le-ltb a 128 ga, le-ltb b 128 gb) (omega (arith, more_groups k (a / 128) (b / 128) (omega (arith, le))))
]

-- a sum has no more than its parts together, even with a carry
pub sum_groups : (k a b c : ℕ) → c ≤ 1 → length (varint_within k (a + b + c)) ≤ length (varint_within k a) + length (varint_within k b)
unfolding varint_within
sum_groups zero a b c small = omega arith
sum_groups (suc k) a b c small =
    let d = (a + b + c) / 128 - (a / 128 + b / 128) in
    let e : (a + b + c) / 128 ≡ a / 128 + b / 128 + d = omega arith in
    let more = sum_groups k (a / 128) (b / 128) d (omega (arith, small)) in
    elim (cases_lt (a + b + c) 128) [
      | inl ls ↦ rw (lt-ltb (a + b + c) 128 ls, lt-ltb a 128 (omega (arith, ls)), lt-ltb b 128 (omega (arith, ls))) (omega arith)
      | inr gs ↦ elim (cases_lt a 128) [
        | inl la ↦ elim (cases_lt b 128) [
          | inl lb ↦ rw (le-ltb (a + b + c) 128 gs, lt-ltb a 128 la, lt-ltb b 128 lb) (omega (arith, ap length (varint_last k ((a + b + c) / 128) (omega (arith, la, lb, small)))))
          | inr gb ↦ rw (le-ltb (a + b + c) 128 gs, lt-ltb a 128 la, le-ltb b 128 gb, e) (omega (arith, more, ap length (varint_last k (a / 128) (omega (arith, la)))))
        ]
        | inr ga ↦ elim (cases_lt b 128) [
          | inl lb ↦ rw (le-ltb (a + b + c) 128 gs, le-ltb a 128 ga, lt-ltb b 128 lb, e) (omega (arith, more, ap length (varint_last k (b / 128) (omega (arith, lb)))))
          | inr gb ↦ rw (le-ltb (a + b + c) 128 gs, le-ltb a 128 ga, le-ltb b 128 gb, e) (omega (arith, more))
        ]
      ]
    ]
