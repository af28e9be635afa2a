use Rattle.std.proofs.Common.{Bool, if◌then◌else◌, sym, subst}
use Rattle.std.specs.Prelude.{OnErr}
use Rattle.gs_streams.specs.Streams.{AppendsFront}
use Rattle.gs_snapshots.specs.Scores.{scores_text}
use Rattle.gs_snapshots.specs.SummaryText.{summary_text}
use Rattle.gs_snapshots.specs.Wishes.{wishes_of}
use Rattle.gossip_sim.proofs.scores.write_asked.Goals as goal

pub returns-then-asked-clause-front : goal.returns-then-asked-clause-front
returns-then-asked-clause-front g c =
    let w = wishes_of c.args.asked.now.wanted in
    let plan = c.args.plan.now in
    let report = c.args.report.now in
    subst
    (λ (b : Bool). OnErr c.write_summary.result (AppendsFront (g.W.Write.contents c.args.output.now) (g.W.Write.contents c.write_summary.new.output) (if b then summary_text w plan report else scores_text w plan report)))
    (sym c.if-asked.true)
    c.write_summary.ensures.front

pub returns-clause-front : goal.returns-clause-front
returns-clause-front g c =
    let w = wishes_of c.args.asked.now.wanted in
    let plan = c.args.plan.now in
    let report = c.args.report.now in
    subst
    (λ (b : Bool). OnErr c.write_scores.result (AppendsFront (g.W.Write.contents c.args.output.now) (g.W.Write.contents c.write_scores.new.output) (if b then summary_text w plan report else scores_text w plan report)))
    (sym c.if-asked.false)
    c.write_scores.ensures.front
