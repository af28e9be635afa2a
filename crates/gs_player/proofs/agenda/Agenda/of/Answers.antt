use Rattle.std.proofs.Common.{[], ◌∷◌, ◌++◌, ◌∙◌, ℕ, List, filter, ap, sym}
use Rattle.std.proofs.lemmas.List.Elements.{filter-append}
use Rattle.gs_plan.specs.declared.plan.Line.{Line}
use Rattle.gs_rules.specs.Rounds.{is_at}
use Rattle.gs_player.proofs.agenda.Agenda.of.Goals as goal

pub loop-line-preserved : goal.loop-line-preserved
loop-line-preserved c = (
  tt,
  tt,
  λ r. c.in_ok-add.ensures r
      ∙ ap (λ (was : List (ℕ × Line)). was ++ filter (is_at r) (c.in-Some.line ∷ [])) (c.loop-line.invariant.2 r)
      ∙ sym (filter-append (is_at r) c.loop-line.yielded (c.in-Some.line ∷ [])),
)
