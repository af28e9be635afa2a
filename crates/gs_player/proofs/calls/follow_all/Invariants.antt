use Rattle.std.proofs.Common.{◌≡◌, ◌++◌, List, drop, map}
use Rattle.gs_params.specs.Seeding.{seeded_after, seeded_word}
use Rattle.gs_rules.specs.declared.refusal.RefusedLine.{RefusedLine}
use Rattle.gs_rules.specs.Modes.{exact}
use Rattle.gs_rules.specs.Rounds.{Todo, obey}
use Rattle.gs_player.specs.Playing.{Runs}
use Rattle.gs_player.proofs.calls.follow_all.Given as goal

abbrev pub invariant-loop-line : goal.invariant-loop-line
invariant-loop-line g l =
    (done : List Todo) × (more : List RefusedLine)
    × (l.refused.items ≡ l.fn.refused.items ++ more)
    × Runs (exact seeded_word seeded_after) l.now done l.fn.router l.fn.words l.router l.words more
    × (done ++ map obey (drop l.line-index l.lines) ≡ map obey l.lines)
