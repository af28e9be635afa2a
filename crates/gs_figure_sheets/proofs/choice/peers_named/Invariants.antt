use Rattle.std.proofs.Common.{◌≡◌, take}
use Rattle.std.specs.Prelude.{filter}
use Rattle.gs_report.specs.Text.{name_of}
use Rattle.gs_figure_sheets.specs.Choices.{is_named}
use Rattle.gs_figure_sheets.proofs.choice.peers_named.Given as goal

-- those of the peers so far whose names fit
abbrev pub invariant-loop-peer : goal.invariant-loop-peer
invariant-loop-peer l = l.list ≡ filter (λ p. is_named l.words (name_of l.plan p)) (take l.peer-index l.peers)
