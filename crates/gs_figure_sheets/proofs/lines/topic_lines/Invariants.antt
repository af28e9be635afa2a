use Rattle.std.proofs.Common.{◌≡◌, map, take}
use Rattle.gs_figure_sheets.specs.Lines.{topic_line}
use Rattle.gs_figure_sheets.proofs.lines.topic_lines.Given as goal

-- the rows of the topics so far
abbrev pub invariant-loop-topic : goal.invariant-loop-topic
invariant-loop-topic l = l.lines ≡ map topic_line (take l.topic-index l.topics)
