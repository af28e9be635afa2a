use Rattle.std.proofs.Common.{take}
use Rattle.std.specs.List.{flat_map}
use Rattle.gs_trace.specs.Pages.{Adds}
use Rattle.gs_trace.proofs.pages.write_lines.Given as goal

-- the lines so far came onto the page
abbrev pub invariant-loop-told : goal.invariant-loop-told
invariant-loop-told g l =
    Adds (flat_map (g.T.Told.line l.turn) (take l.told-index l.all)) l.initial.page.items l.page.items (g.W.Write.contents l.initial.output) (g.W.Write.contents l.output)
