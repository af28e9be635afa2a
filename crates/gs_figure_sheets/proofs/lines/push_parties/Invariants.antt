use Rattle.std.proofs.Common.{◌≡◌, ◌++◌, map, take}
use Rattle.gs_figure_sheets.specs.Lines.{party_line}
use Rattle.gs_figure_sheets.proofs.lines.push_parties.Given as goal

-- the rows of the groups so far come after what was there
abbrev pub invariant-loop-party : goal.invariant-loop-party
invariant-loop-party l = l.lines ≡ l.initial.lines ++ map (party_line l.rows) (take l.party-index l.parties)
