use Rattle.std.proofs.Common.{◌≡◌}
use Rattle.gs_opinions.specs.Noting.{member_flags}
use Rattle.gs_opinions.proofs.members.flags_of.Given as goal

-- the flags of the numbers so far
abbrev pub invariant-loop-number : goal.invariant-loop-number
invariant-loop-number l = l.flags ≡ member_flags l.group l.number
