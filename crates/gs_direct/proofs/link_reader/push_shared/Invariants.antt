use Rattle.std.proofs.Common.{◌≡◌, ◌++◌}
use Rattle.gs_direct.proofs.link_reader.push_shared.Given as goal

-- those so far are added
abbrev pub invariant-loop-rpc : goal.invariant-loop-rpc
invariant-loop-rpc l =
    (goal.iterator-loop-rpc).can_next l.rpc-iterator
    × (goal.iterator-loop-rpc).is_finite l.rpc-iterator
    × (l.rpcs.items ≡ l.fn.rpcs.items ++ l.yielded)
