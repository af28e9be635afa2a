use Rattle.std.proofs.Common.{length, ◌≤◌}
use Rattle.std.specs.Io.KnownBytes.{Consumes}
use Rattle.gs_streams.proofs.read_within.Given as goal

-- what was read so far is the text
abbrev pub invariant-loop : goal.invariant-loop
invariant-loop g l = record {
  taken : Consumes (g.R.Read.remaining l.initial.input) (g.R.Read.remaining l.input) l.text.items;
  short : length l.text.items ≤ l.longest;
}
