use Rattle.std.proofs.Common.{◌≡◌, ◌≤◌, ◌++◌, take, vec_capacity}
use Rattle.std.specs.List.{flat_map}
use Rattle.gs_wire.specs.Sections.{section}
use Rattle.gs_wire.proofs.gathered.copy_section.Given as goal

-- what stands for the section in the parts so far was copied
abbrev pub invariant-loop-part : goal.invariant-loop-part
invariant-loop-part l = record {
  written : l.buffer.items ≡ l.initial.buffer.items ++ flat_map (section l.wanted) (take l.part-index l.parts);
  capacity : vec_capacity l.initial.buffer ≤ vec_capacity l.buffer;
}
