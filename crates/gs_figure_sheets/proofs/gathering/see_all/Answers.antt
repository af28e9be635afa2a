use Rattle.gs_reach.specs.declared.chosen.Chosen.TheVariants.{Any}
use Rattle.gs_figure_sheets.proofs.Gathered.{on_ok, seen_all}
use Rattle.gs_figure_sheets.proofs.gathering.see_all.Goals as goal

pub returns-in-Some : goal.returns-in-Some
returns-in-Some c =
    on_ok c.see.result _ _ (λ more plan among before after grown order counted.
    seen_all plan among c.args.all.now c.in-Some.counting c.see.new.self before after c.in-Some.is counted (λ one. more plan Any before after grown one)) c.see.ensures
