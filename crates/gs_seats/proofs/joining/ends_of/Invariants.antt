use Rattle.std.proofs.Common.{◌≡◌, ◌&&◌, ℕ, take}
use Rattle.std.specs.Prelude.{nat_lt}
use Rattle.std.specs.BTreeSet.{contains}
use Rattle.std.specs.Ordering.{nat_cmp}
use Rattle.gs_plan.specs.Plans.{are_joined}
use Rattle.gs_seats.specs.Rounds.{peer_no}
use Rattle.gs_seats.proofs.joining.ends_of.Given as goal

-- those that the dials so far join to the peer
abbrev pub invariant-loop-dial : goal.invariant-loop-dial
invariant-loop-dial l =
    (n : ℕ) → contains nat_cmp l.ends n ≡ (nat_lt n l.count && are_joined (take l.dial-index l.dials) l.peer (peer_no n))
