use Rattle.std.proofs.Common.{List, ap, ◌∙◌}
use Rattle.std.proofs.lemmas.List.{take_all}
use Rattle.gs_figure_sheets.specs.declared.standing.Standing.{Standing}
use Rattle.gs_figure_sheets.specs.Between.{scores_between}
use Rattle.gs_figure_sheets.specs.Lines.{just}
use Rattle.gs_figure_sheets.specs.Received.{received_in, scored}
use Rattle.gs_figure_sheets.proofs.received.note_scores.Goals as goal

pub returns : goal.returns
returns c = λ p.
    c.loop-peer.invariant p
    ∙ ap (λ (xs : List Standing). scored (received_in c.args.rows.now p) (scores_between c.args.among.now (just p) xs)) (take_all c.loop-peer.peer-index c.args.peers.now c.loop-peer-test.false)
