use Rattle.std.proofs.Common.{◌≡◌, take}
use Rattle.std.specs.BTreeSet.{contains}
use Rattle.std.specs.List.{list_any}
use Rattle.std.specs.Ordering.{nat_cmp}
use Rattle.gs_base.specs.declared.names.PeerNo.{PeerNo}
use Rattle.gs_seats.specs.Rounds.{is_dial}
use Rattle.gs_seats.proofs.known.dialled_by.Given as goal

-- those of the dials so far
abbrev pub invariant-loop-dial : goal.invariant-loop-dial
invariant-loop-dial l =
    (q : PeerNo) → contains nat_cmp l.dialled q.0 ≡ list_any (is_dial l.peer q) (take l.dial-index l.dials)
