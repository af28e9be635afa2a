use Rattle.std.proofs.Common.{◌≡◌, ◌+◌, arith, rules}
use Rattle.gs_peer.proofs.Grows.{grew_step, grew_then, grew_within}
use Rattle.gs_peer.proofs.Stepping.{one_step_more, polls_all, polls_idle}
use Rattle.gs_peer.proofs.Tasks.{goes_then}
use Rattle.gs_peer.proofs.running.Running.run.Goals as goal

pub returns-then-idle-len-clause-taken : goal.returns-then-idle-len-clause-taken
returns-then-idle-len-clause-taken g c =
    let f = g.S.Ends.taken in
    grew_step c.loop.counter 64 (f c.args.self.now.ends) (f c.loop.self.ends) (f c.step.new.self.ends) c.loop-test.true c.loop.invariant.taken c.in_ok-moved.ensures.taken

pub returns-then-idle-len-clause-accepted : goal.returns-then-idle-len-clause-accepted
returns-then-idle-len-clause-accepted g c =
    let f = g.S.Ends.accepted in
    grew_step c.loop.counter 64 (f c.args.self.now.ends) (f c.loop.self.ends) (f c.step.new.self.ends) c.loop-test.true c.loop.invariant.accepted c.in_ok-moved.ensures.accepted

pub loop-preserved : goal.loop-preserved
loop-preserved g c =
    let tak = g.S.Ends.taken in
    let acc = g.S.Ends.accepted in
    let t = c.args.self.now in
    let u = c.loop.self in
    let w = c.step.new.self in
    let i = c.loop.invariant in
    let e = c.in_ok-moved.ensures in
    record {
      goes = goes_then g.S.Ends t u w i.goes e.goes;
      taken = grew_then c.loop.counter 1 (tak t.ends) (tak u.ends) (tak w.ends) i.taken e.taken;
      accepted = grew_then c.loop.counter 1 (acc t.ends) (acc u.ends) (acc w.ends) i.accepted e.accepted;
      steps = one_step_more g.S.Ends c.loop.counter c.loop.idle t u w c.in_ok-moved.moved c.idle_after-idle.result c.loop-test.true i.steps e.steps c.idle_after-idle.ensures;
    }

pub returns-then-idle-len-clause-polls : goal.returns-then-idle-len-clause-polls
returns-then-idle-len-clause-polls g c =
    let t = c.args.self.now in
    let w = c.step.new.self in
    let steps = one_step_more g.S.Ends c.loop.counter c.loop.idle t c.loop.self w c.in_ok-moved.moved c.idle_after-idle.result c.loop-test.true c.loop.invariant.steps c.in_ok-moved.ensures.steps c.idle_after-idle.ensures in
    let low = c.loop-test.true in
    polls_idle g.S.Ends 64 (c.loop.counter + 1) c.idle_after-idle.result t w (omega (arith, low)) steps (search rules)

pub returns-clause-polls : goal.returns-clause-polls
returns-clause-polls g c =
    let all : c.loop.counter ≡ 64 = search rules in
    polls_all g.S.Ends 64 c.loop.counter c.loop.idle c.args.self.now c.loop.self c.loop.invariant.steps all

pub returns-clause-taken : goal.returns-clause-taken
returns-clause-taken g c =
    let f = g.S.Ends.taken in
    grew_within c.loop.counter 64 (f c.args.self.now.ends) (f c.loop.self.ends) (search rules) c.loop.invariant.taken

pub returns-clause-accepted : goal.returns-clause-accepted
returns-clause-accepted g c =
    let f = g.S.Ends.accepted in
    grew_within c.loop.counter 64 (f c.args.self.now.ends) (f c.loop.self.ends) (search rules) c.loop.invariant.accepted
