use Rattle.std.proofs.Common.{ap, set, ◌∙◌}
use Rattle.gs_opinions.specs.Noting.{lowered_group}
use Rattle.gs_opinions.proofs.Mapped.{mapped_all, mapped_more}
use Rattle.gs_opinions.proofs.tables.lower_groups.Goals as goal

pub loop-group-preserved : goal.loop-group-preserved
loop-group-preserved c =
    let n = c.loop-group.group-index in
    ap (set c.loop-group.groups n) c.note.ensures
    ∙ mapped_more (lowered_group c.args.round c.args.opinion) c.args.groups.now c.loop-group.groups n c.group-item.result c.loop-group-test.true c.loop-group.invariant

pub returns : goal.returns
returns c =
    mapped_all (lowered_group c.args.round c.args.opinion) c.args.groups.now c.loop-group.groups c.loop-group.group-index c.loop-group-test.false c.loop-group.invariant
