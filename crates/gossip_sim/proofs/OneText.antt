-- Two runs write one text.
use Rattle.std.proofs.Common.{sym, subst}
use Rattle.std.specs.Io.KnownBytes.{Appends}
use Rattle.gs_report.specs.Text.{report_text}
use Rattle.gs_laws.proofs.Reports.{reports_one}
use Rattle.gs_laws.proofs.Scenarios.{plans_alike}
use Rattle.gossip_sim.specs.OneOutput.{AlikePlansWriteTheSame, AlikeScenariosWriteTheSame}

pub of_alike_plans : AlikePlansWriteTheSame
of_alike_plans limits others input input' output output' errors errors' more more' other other' faults faults' mine theirs alike =
    let one = (reports_one mine.plan theirs.plan mine.report theirs.report alike mine.run theirs.run).text in
    (one, (report_text mine.plan mine.report, mine.text, subst (Appends other other') (sym one) theirs.text))

pub of_alike_scenarios : AlikeScenariosWriteTheSame
of_alike_scenarios limits others input input' output output' errors errors' more more' other other' faults faults' first_needs_threads second_needs_threads mine theirs differ =
    of_alike_plans limits others input input' output output' errors errors' more more' other other' faults faults' mine theirs
    (plans_alike limits others mine.scenario.text theirs.scenario.text mine.plan theirs.plan differ mine.scenario.described theirs.scenario.described)
