use Rattle.std.proofs.Common.{◌≡◌, take}
use Rattle.std.specs.BTreeSet.{contains}
use Rattle.std.specs.List.{list_any}
use Rattle.std.specs.Ordering.{nat_cmp}
use Rattle.gs_base.specs.declared.names.PeerNo.{PeerNo}
use Rattle.gs_seats.specs.Rounds.{is_agreed}
use Rattle.gs_seats.proofs.known.agreed_by.Given as goal

-- those of the agreements so far
abbrev pub invariant-loop-agreement : goal.invariant-loop-agreement
invariant-loop-agreement l =
    (q : PeerNo) → contains nat_cmp l.agreed q.0 ≡ list_any (is_agreed l.peer q) (take l.agreement-index l.explicit)
