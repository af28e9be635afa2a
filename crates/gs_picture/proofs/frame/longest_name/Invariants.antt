use Rattle.std.proofs.Common.{◌≡◌, take}
use Rattle.gs_picture.specs.Frame.{longest_name}
use Rattle.gs_picture.proofs.frame.longest_name.Given as goal

-- the longest name of the peers so far
abbrev pub invariant-loop-peer : goal.invariant-loop-peer
invariant-loop-peer l = l.so_far ≡ longest_name (take l.peer-index l.peers)
