use Rattle.std.proofs.Common.{◌≡◌, take}
use Rattle.std.specs.List.{flat_map}
use Rattle.gs_figure_sheets.specs.Sections.{all_sections, section_figures}
use Rattle.gs_figure_sheets.proofs.section.whole_figures.Given as goal

-- the figures of the sections so far
abbrev pub invariant-loop-section : goal.invariant-loop-section
invariant-loop-section l = l.figures.items ≡ flat_map (section_figures l.subject l.count) (take l.section-index all_sections)
