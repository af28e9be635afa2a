use Rattle.std.proofs.Common.{subst}
use Rattle.std.specs.List.{IsDistinct}
use Rattle.gs_reach.specs.Messages.{numbers_of}
use Rattle.gs_rules.specs.Rules.{same_bytes}
use Rattle.gs_figure_sheets.specs.Choices.{chosen_among}
use Rattle.gs_figure_sheets.specs.FigureSheets.{inquiry_of}
use Rattle.gs_figure_sheets.proofs.Headers.{own, same_names}
use Rattle.gs_figure_sheets.proofs.laws.columns_of_a_table_have_headers_of_their_own.Goals as goal

pub returns : goal.returns
returns c = λ plan report w layout names.
    let peers = numbers_of report.peers.items in
    own plan (inquiry_of plan peers w) report layout
    (subst (IsDistinct same_bytes) (same_names plan peers (chosen_among plan peers w.among) w.groups) names)
