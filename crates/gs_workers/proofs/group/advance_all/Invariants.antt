use Rattle.std.proofs.Common.{◌≡◌, true, take}
use Rattle.std.specs.List.{AllByRecursion, AllZip}
use Rattle.futures.specs.Joined.{IsDone}
use Rattle.futures.specs.Task.{Keeps}
use Rattle.gs_workers.specs.Groups.{AllLive, GivesNoMore}
use Rattle.gs_workers.proofs.group.advance_all.Given as goal

abbrev pub invariant-loop-i : goal.invariant-loop-i
invariant-loop-i g l =
    AllLive g.F.Future.can_poll l.members
    × AllZip (GivesNoMore g.F.Future.gives) l.initial.members l.members
    × (l.all_done ≡ true → AllByRecursion IsDone (take l.i l.members))
    × Keeps l.initial.cx l.cx
