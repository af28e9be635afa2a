use Rattle.std.proofs.Common.{◌≡◌, IfErr, None, Some, false, refl, rules, subst, true}
use Rattle.gs_workers.specs.Flags.{FlagId}
use Rattle.gs_peer.specs.Faults.{IsOfFlag}
use Rattle.gs_peer.specs.Moves.{is_over}
use Rattle.gs_peer.proofs.Fullness.{over_is}
use Rattle.gs_peer.proofs.Polls.{bounded_pending, ended, gives_life, on_pending}
use Rattle.gs_peer.proofs.Suspending.{suspended}
use Rattle.gs_peer.proofs.task.PeerTaskFuture.poll.Goals as goal

pub returns-in-Ok-true-clause-bounded : goal.returns-in-Ok-true-clause-bounded
returns-in-Ok-true-clause-bounded g c =
    let was : c.args.self.now.running ≡ Some c.in-Some.running = search rules in
    ended g.S.Ends 64 c.args.self.now (record { running = None; stop = c.args.self.now.stop; payloads = c.args.self.now.payloads }) c.in-Some.running c.go_on.new.running c.finish.result was
    (c.in-Ok-true.ensures.accepted, c.in-Ok-true.ensures.taken) c.finish.ensures.ends

pub returns-in-Ok-false-clause-suspended : goal.returns-in-Ok-false-clause-suspended
returns-in-Ok-false-clause-suspended g c =
    on_pending c.yield_now.result _ (suspended g.S.Ends c.go_on.new.running c.in-Ok-false.ensures.goes.kept)

pub returns-in-Ok-false-clause-bounded : goal.returns-in-Ok-false-clause-bounded
returns-in-Ok-false-clause-bounded g c =
    let was : c.args.self.now.running ≡ Some c.in-Some.running = search rules in
    let alive : is_over c.go_on.new.running ≡ false = search rules in
    bounded_pending g.S.Ends 64 c.args.self.now (record { running = Some c.go_on.new.running; stop = c.args.self.now.stop; payloads = c.args.self.now.payloads }) c.in-Some.running c.go_on.new.running c.yield_now.result c.yield_now.ensures.pending was refl
    (c.in-Ok-false.ensures.accepted, c.in-Ok-false.ensures.taken) c.in-Ok-false.ensures.polls alive

pub finish-requires-clause-over : goal.finish-requires-clause-over
finish-requires-clause-over g c =
    let over : is_over c.go_on.new.running ≡ true = search rules in
    over_is c.go_on.new.running over

pub returns-in-Ok-true-clause-value : goal.returns-in-Ok-true-clause-value
returns-in-Ok-true-clause-value g c =
    let was : c.args.self.now.running ≡ Some c.in-Some.running = search rules in
    gives_life g.S.Ends c.args.self.now c.in-Some.running c.go_on.new.running c.finish.result was c.in-Ok-true.ensures.goes c.finish.ensures.life c.finish.ensures.ends
    (subst (λ (k : FlagId). IfErr c.finish.result (IsOfFlag k)) c.deref-in-Ok-true.ensures c.finish.ensures.fault)
