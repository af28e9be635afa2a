use Rattle.std.proofs.Common.{subst}
use Rattle.gs_figure_sheets.specs.declared.gathering.Parts.{Parts}
use Rattle.gs_figure_sheets.specs.Gathering.{GathersParts}
use Rattle.gs_figure_sheets.proofs.Gathered.{on_ok}
use Rattle.gs_figure_sheets.proofs.gathering.Parts.see.Goals as goal

pub returns-in-Run : goal.returns-in-Run
returns-in-Run c =
    on_ok c.see.result _ _ (λ more plan inquiry before after grown order h.
    let (subject, run) = subst (λ (parts : Parts). GathersParts plan inquiry parts before) c.in-Run.is h in
    (subject, more plan inquiry.among before after grown order run)) c.see.ensures

pub returns-in-Rounds : goal.returns-in-Rounds
returns-in-Rounds c =
    on_ok c.see-in-Rounds.result _ _ (λ more plan inquiry before after grown order h.
    let (subject, judged) = subst (λ (parts : Parts). GathersParts plan inquiry parts before) c.in-Rounds.is h in
    (subject, more plan inquiry.among inquiry.groups before after grown judged)) c.see-in-Rounds.ensures
