use Rattle.std.proofs.Common.{List, Ok, rules, ◌∙◌, ap}
use Rattle.gs_ends.specs.Ends.{Joint, has}
use Rattle.gs_ends.specs.Lists.{joints_in_lists, list_ends}
use Rattle.gs_peer.specs.Task.{Gives, HasJoints, given_of}
use Rattle.gs_peer.proofs.Polls.{joints_kept}
use Rattle.gs_run_tests.proofs.tests.peer.lives.Goals as goal

pub returns-in-Some-Ok : goal.returns-in-Some-Ok
returns-in-Some-Ok g c =
    let made : HasJoints joints_in_lists (joints_in_lists c.in_ok-ends.ends) c.in_ok-task.task = c.in_ok-task.ensures.ends in
    let gave : Gives list_ends c.in_ok-task.task (Ok c.in-Some-Ok.life) = search rules in
    ap (λ (js : List Joint). has js c.args.case.now.pair.other) (joints_kept (given_of joints_in_lists c.in_ok-task.task) made.0 gave.0 made.1 gave.1 (joints_in_lists c.in_ok-ends.ends) (joints_in_lists c.in-Some-Ok.life.ends) made.2 gave.2) ∙ c.in_ok-ends.ensures.known
