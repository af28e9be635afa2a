use Rattle.std.proofs.Common.{◌≡◌, ◌≤◌, ◌+◌, ℕ, List, drop}
use Rattle.gs_score.specs.Addresses.{kept_number, number_at}
use Rattle.gs_score.proofs.addresses.number_all.Given as goal

abbrev pub invariant-loop-at : goal.invariant-loop-at
invariant-loop-at l = record {
  counts
      : (address : List ℕ)
      → kept_number l.numbers.entries address + number_at (drop l.at l.addresses.entries) address ≡ number_at l.addresses.entries address;
  few : (address : List ℕ) → kept_number l.numbers.entries address ≤ l.at;
}
