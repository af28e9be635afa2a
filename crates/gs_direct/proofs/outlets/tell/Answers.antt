use Rattle.gs_direct.specs.Outlets.{Says}
use Rattle.gs_direct.proofs.Pairs.{reached_more, zip_same}
use Rattle.gs_direct.proofs.Telling.{silent_says}
use Rattle.gs_direct.proofs.outlets.tell.Goals as goal

pub returns-then-is_silent : goal.returns-then-is_silent
returns-then-is_silent c = zip_same (Says c.args.entry.now) (silent_says c.args.entry.now (c.is_silent.ensures c.if-is_silent.true)) c.args.outlets.now

pub loop-outlet-preserved : goal.loop-outlet-preserved
loop-outlet-preserved c =
    let e = c.args.entry.now in
    reached_more (Says e) c.loop-outlet.outlet-index c.args.outlets.now c.loop-outlet.outlets c.outlet-item.result c.tell.new.self c.loop-outlet-test.true c.loop-outlet.invariant c.in_ok-tell.ensures
