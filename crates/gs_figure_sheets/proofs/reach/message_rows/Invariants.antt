use Rattle.std.proofs.Common.{◌≡◌, take}
use Rattle.std.specs.Prelude.{map}
use Rattle.gs_figure_sheets.specs.Reach.{message_row}
use Rattle.gs_figure_sheets.proofs.reach.message_rows.Given as goal

-- the rows of the messages so far
abbrev pub invariant-loop-message : goal.invariant-loop-message
invariant-loop-message l = l.rows ≡ map (message_row l.plan) (take l.message-index l.messages)
