use Rattle.std.proofs.Common.{List, ap, ◌∙◌}
use Rattle.std.proofs.lemmas.List.{take_all}
use Rattle.gs_opinions.specs.declared.run.PairOpinion.{PairOpinion}
use Rattle.gs_figure_sheets.specs.Between.{opinions_between}
use Rattle.gs_figure_sheets.specs.Lines.{just}
use Rattle.gs_figure_sheets.specs.Received.{judged, received_in}
use Rattle.gs_figure_sheets.proofs.received.note_opinions.Goals as goal

pub returns : goal.returns
returns c = λ p.
    c.loop-pair.invariant p
    ∙ ap (λ (xs : List PairOpinion). judged (received_in c.args.rows.now p) (opinions_between c.args.among.now (just p) xs)) (take_all c.loop-pair.pair-index c.args.pairs.now c.loop-pair-test.false)
