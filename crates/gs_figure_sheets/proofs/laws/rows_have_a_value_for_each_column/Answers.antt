use Rattle.gs_reach.specs.Messages.{numbers_of}
use Rattle.gs_figure_sheets.specs.FigureSheets.{inquiry_of}
use Rattle.gs_figure_sheets.proofs.Shapes.{filled}
use Rattle.gs_figure_sheets.proofs.laws.rows_have_a_value_for_each_column.Goals as goal

pub returns : goal.returns
returns c = λ plan report w. filled plan (inquiry_of plan (numbers_of report.peers.items) w) report
