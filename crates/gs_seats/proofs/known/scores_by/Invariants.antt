use Rattle.std.proofs.Common.{◌≡◌, option_map, take}
use Rattle.std.specs.BTreeMap.{get}
use Rattle.std.specs.List.{find}
use Rattle.std.specs.Ordering.{nat_cmp}
use Rattle.gs_base.specs.declared.names.PeerNo.{PeerNo}
use Rattle.gs_plan.specs.declared.plan.App.{App}
use Rattle.gs_seats.specs.Rounds.{is_about}
use Rattle.gs_seats.proofs.known.scores_by.Given as goal

-- those of the scores so far
abbrev pub invariant-loop-app : goal.invariant-loop-app
invariant-loop-app l =
    (q : PeerNo) → get nat_cmp l.scores q.0 ≡ option_map (λ (app : App). app.value) (find (is_about l.peer q) (take l.app-index l.apps))
