use Rattle.std.proofs.Common.{◌≡◌, ℕ, filter}
use Rattle.gs_rules.specs.Rounds.{is_at}
use Rattle.gs_player.specs.Agendas.{lines_at}
use Rattle.gs_player.proofs.agenda.Agenda.of.Given as goal

-- those so far stand under their rounds
abbrev pub invariant-loop-line : goal.invariant-loop-line
invariant-loop-line l =
    (goal.iterator-loop-line).can_next l.line-iterator
    × (goal.iterator-loop-line).is_finite l.line-iterator
    × ((r : ℕ) → lines_at l.rounds r ≡ filter (is_at r) l.yielded)
