use Rattle.std.proofs.Common.{◌≡◌, ◌++◌, map, take}
use Rattle.gs_figure_sheets.specs.Pages.{section_sheet}
use Rattle.gs_figure_sheets.specs.Sections.{all_sections}
use Rattle.gs_figure_sheets.proofs.pages.push_sections.Given as goal

-- the sheets of the sections so far come after what was there
abbrev pub invariant-loop-section : goal.invariant-loop-section
invariant-loop-section l = l.sheets ≡ l.initial.sheets ++ map (section_sheet l.page.subject l.page.parties.now l.page.lines.now) (take l.section-index all_sections)
