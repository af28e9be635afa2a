use Rattle.std.proofs.Common.{take, drop}
use Rattle.std.specs.List.{AllZip}
use Rattle.gs_direct.specs.Outlets.{AllWritten, SaysAll}
use Rattle.gs_direct.proofs.outlets.tell_all.Given as goal

-- the entries so far are said
abbrev pub invariant-loop-entry : goal.invariant-loop-entry
invariant-loop-entry l = record {
  written : AllWritten (drop l.entry-index l.entries);
  told : AllZip (SaysAll (take l.entry-index l.entries)) l.fn.outlets l.outlets;
}
