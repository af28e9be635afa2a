use Rattle.std.proofs.Common.{◌∙◌, [], length, sym}
use Rattle.gs_figure_sheets.proofs.Gathered.{found_from}
use Rattle.gs_figure_sheets.proofs.gathering.RunParts.found.Goals as goal

pub returns : goal.returns
returns c = λ traces report counted gathered are leaves.
    let plan = c.args.plan.now in
    let among = c.args.among.now in
    found_from plan report among c.in_ok-messages.messages c.in_ok-counts.counts c.in_ok-all.all c.in_ok-opinions.opinions c.in_ok-standings.standings
    (c.in_ok-messages.ensures (length plan.peers) traces report gathered.listed are)
    (c.in_ok-counts.ensures among traces report counted are (leaves ∙ sym c.deref-3.ensures.value))
    (c.in_ok-all.ensures among traces report gathered.all are (leaves ∙ sym c.deref.ensures.value))
    (c.in_ok-opinions.ensures among [] traces report gathered.judged are)
    (c.in_ok-standings.ensures among report.peers.items (c.deref-4.ensures.value ∙ c.in_ok-meshes.ensures plan traces report.peers.items counted are (leaves ∙ sym c.deref-2.ensures.value)) leaves)
