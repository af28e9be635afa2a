use Rattle.gs_counts.proofs.Lanes.{lane_more, list_more}
use Rattle.gs_counts.proofs.lane.Lane.send_all.Goals as goal

pub loop-send-preserved : goal.loop-send-preserved
loop-send-preserved c =
    let i = c.loop-send.send-index in
    let x = c.send-item.result in
    let lane = c.args.self.now in
    let listed = c.args.list.now.items in
    let sends = c.args.sends.now in (
      list_more c.args.scene lane listed sends i x c.loop-send-test.true c.send-item.is c.loop-send.self c.loop-send.list.items _ c.loop-send.invariant.1 c.loop-send.invariant.0 c.in_ok-send_one.ensures.list,
      lane_more c.args.scene lane listed sends i x c.loop-send-test.true c.send-item.is c.loop-send.self _ c.loop-send.invariant.1 c.in_ok-send_one.ensures.lane,
    )
