use Rattle.std.proofs.Common.{ap, ◌∙◌}
use Rattle.gs_opinions.specs.Judging.{opinions_in}
use Rattle.gs_opinions.specs.Runs.{lowest_opinions}
use Rattle.gs_opinions.proofs.Judges.{all_lived}
use Rattle.gs_opinions.proofs.judging.Judging.opinions.Goals as goal

pub rows_of-requires-clause-shown : goal.rows_of-requires-clause-shown
rows_of-requires-clause-shown c =
    let judged = c.requires.judged in (judged.1, opinions_in c.args.plan.now judged.0 judged.2, judged.3.tables)

pub returns : goal.returns
returns c = λ of groups traces report judged lives.
    let plan = c.args.plan.now in
    c.in_ok-opinions.ensures groups (opinions_in plan of traces) judged.tables
    ∙ ap (lowest_opinions plan groups) (all_lived plan of traces report lives)
