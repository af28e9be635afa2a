use Rattle.std.proofs.Common.{◌≡◌, ◌≤◌, ℕ, length}
use Rattle.std.specs.Arc.{arc_value}
use Rattle.std.specs.List.{AllZip}
use Rattle.gs_ends.specs.Pairs.{pair_ends}
use Rattle.gs_seats.specs.ListsByPeer.{list_at}
use Rattle.gs_net.specs.Tasks.{IsTaskFor, first_numbers}
use Rattle.gs_net.proofs.tasks.Builder.build_all.Given as goal

abbrev pub invariant-loop-number : goal.invariant-loop-number
invariant-loop-number g l = record {
  count : length l.tasks.items ≡ l.number;
  built : AllZip (IsTaskFor pair_ends l.self.plan.now (arc_value l.self.stop.now) l.fn.ends.items) (first_numbers (length l.tasks.items)) l.tasks.items;
  lines : length l.lines.items ≡ length l.fn.lines.items;
  own_lines : (n : ℕ) → l.number ≤ n → list_at l.lines.items n ≡ list_at l.fn.lines.items n;
  ends : length l.ends.items ≡ length l.fn.ends.items;
  own_ends : (n : ℕ) → l.number ≤ n → list_at l.ends.items n ≡ list_at l.fn.ends.items n;
}
