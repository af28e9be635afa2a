use Rattle.std.proofs.Common.{◌∙◌, rules}
use Rattle.std.proofs.lemmas.List.{take_more}
use Rattle.gs_net.proofs.Wiring.{wired_more}
use Rattle.gs_net.proofs.dials.wiring.wire_all.Goals as goal

pub loop-dial-preserved : goal.loop-dial-preserved
loop-dial-preserved c =
    let before = c.loop-dial.invariant in
    let one = c.in_ok-wire_dial.ensures.wired in
    record {
      count = c.in_ok-wire_dial.ensures.count ∙ before.count;
      wired = wired_more _ _ _ _ _ _ (take_more c.args.dials.now c.loop-dial.dial-index _ (search rules)) before.wired one;
      sized = one.sized before.sized;
      fresh = one.fresh before.fresh;
    }
