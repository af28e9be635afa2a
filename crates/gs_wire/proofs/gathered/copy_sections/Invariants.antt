use Rattle.std.proofs.Common.{◌≡◌, ◌≤◌, ◌++◌, take, vec_capacity}
use Rattle.std.specs.List.{flat_map}
use Rattle.gs_wire.specs.Joining.{joined_rpcs}
use Rattle.gs_wire.specs.Gathering.{as_one}
use Rattle.gs_wire.specs.Sections.{section}
use Rattle.gs_wire.proofs.gathered.copy_sections.Given as goal

-- the sections so far were copied
abbrev pub invariant-loop-one : goal.invariant-loop-one
invariant-loop-one l = record {
  written : l.buffer.items ≡ l.initial.buffer.items ++ flat_map (λ s. section s (as_one (joined_rpcs l.parts))) (take l.one-index l.wanted);
  capacity : vec_capacity l.initial.buffer ≤ vec_capacity l.buffer;
}
