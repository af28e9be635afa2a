use Rattle.std.proofs.Common.{List, ◌++◌, length}
use Rattle.gs_wire.specs.Records.{Record}
use Rattle.gs_wire.proofs.RecordLists.{ReadSoFar}
use Rattle.gs_wire.proofs.decoding.merge_all.Given as goal

-- some records were read and merged, and the rest is left
abbrev pub invariant-loop-reader : goal.invariant-loop-reader
invariant-loop-reader g l = (rs : List Record) × ReadSoFar l.fn.reader l.reader rs × ((before : List Record) → g.M.Decode.says before l.initial.message → g.M.Decode.says (before ++ rs) l.message)

abbrev pub decreases-loop-reader : goal.decreases-loop-reader
decreases-loop-reader g l = length l.reader
