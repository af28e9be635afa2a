use Rattle.std.proofs.Common.{◌≡◌, ◌<◌, ap, arith, length, rules, ◌∙◌}
use Rattle.gs_counts.proofs.Both.{all_summed, both_up_to, none_summed, one_summed}
use Rattle.gs_counts.proofs.counts.Counts.with.Goals as goal

pub loop-place-init : goal.loop-place-init
loop-place-init c = none_summed c.args.self.now c.args.others.now (search rules)

pub loop-place-preserved : goal.loop-place-preserved
loop-place-preserved c =
    let low : c.loop-place.place < length c.args.others.now.amounts = search rules in
    c.add_at.ensures ∙ one_summed c.args.self.now c.args.others.now c.loop-place.both c.loop-place.place low c.loop-place.invariant

pub returns : goal.returns
returns c =
    let end : c.loop-place.place ≡ 51 = omega (arith, c.loop-place-test.false, c.loop-place.auto.place-end) in
    c.loop-place.invariant
    ∙ ap (both_up_to c.args.self.now c.args.others.now) end
    ∙ all_summed c.args.self.now c.args.others.now
