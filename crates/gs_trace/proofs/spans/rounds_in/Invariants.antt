use Rattle.std.proofs.Common.{◌≡◌, drop, Some}
use Rattle.gs_trace.specs.Spans.{read_from, rounds_in}
use Rattle.gs_trace.proofs.spans.rounds_in.Given as goal

-- what the text spells is what the bytes that are left spell after what was read
abbrev pub invariant-loop-byte : goal.invariant-loop-byte
invariant-loop-byte l = read_from (Some l.reading) (drop l.byte-index l.text) ≡ rounds_in l.text
