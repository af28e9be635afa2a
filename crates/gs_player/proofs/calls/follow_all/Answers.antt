use Rattle.std.proofs.Common.{◌++◌, ◌∙◌, [], ◌∷◌, List, ap, append_assoc, map}
use Rattle.gs_params.specs.Seeding.{seeded_after, seeded_word}
use Rattle.gs_rules.specs.declared.refusal.RefusedLine.{RefusedLine}
use Rattle.gs_rules.specs.Modes.{exact}
use Rattle.gs_rules.specs.Rounds.{obey}
use Rattle.gs_player.proofs.Lines.{line_done}
use Rattle.gs_player.proofs.Runs.{runs_then}
use Rattle.gs_player.proofs.calls.follow_all.Goals as goal

pub loop-line-preserved : goal.loop-line-preserved
loop-line-preserved g c =
    let (done, more, noted, runs, rest) = c.loop-line.invariant in
    let (new, added, runs_line) = c.in_ok-follow.ensures in
    let line = c.line-item.result in (
      done ++ obey line ∷ [],
      more ++ new,
      added ∙ ap (λ (xs : List RefusedLine). xs ++ new) noted ∙ append_assoc c.args.refused.now.items more new,
      runs_then (exact seeded_word seeded_after) c.args.now done (obey line ∷ []) c.args.router.now c.loop-line.router c.follow.new.router c.args.words.now c.loop-line.words c.follow.new.words more new runs runs_line,
      line_done c.args.lines.now c.loop-line.line-index line done (map obey c.args.lines.now) c.loop-line-test.true c.line-item.is rest,
    )
