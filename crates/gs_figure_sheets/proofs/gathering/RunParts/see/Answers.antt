use Rattle.std.proofs.Common.{[], length}
use Rattle.gs_figure_sheets.proofs.Gathered.{on_ok}
use Rattle.gs_figure_sheets.proofs.gathering.RunParts.see.Goals as goal

pub returns : goal.returns
returns c =
    on_ok c.see-2.result _ _ (λ judged plan among before after grown order h. record {
      listed = c.in_ok-see.ensures (length plan.peers) before after grown h.listed;
      all = c.in_ok-see_all.ensures plan among before after grown order h.all;
      judged = judged plan among [] before after grown h.judged;
    }) c.see-2.ensures
