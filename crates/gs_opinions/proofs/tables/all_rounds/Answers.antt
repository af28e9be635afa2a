use Rattle.std.proofs.Common.{◌+◌, List, [], subst, sym, take}
use Rattle.std.specs.List.{AllZip}
use Rattle.std.proofs.lemmas.List.{take_all}
use Rattle.gs_reach.specs.declared.chosen.Chosen.{Chosen}
use Rattle.gs_opinions.specs.declared.tables.GroupRounds.{GroupRounds}
use Rattle.gs_opinions.specs.Noting.{ShowsGroup}
use Rattle.gs_opinions.proofs.Noted.{one_group_more}
use Rattle.gs_opinions.proofs.tables.all_rounds.Goals as goal

pub loop-group-preserved : goal.loop-group-preserved
loop-group-preserved c =
    let shows = ShowsGroup c.args.plan.now [] in
    subst (λ (xs : List GroupRounds). AllZip shows (take (c.loop-group.group-index + 1) c.args.groups.now) xs) (sym {A = List GroupRounds} c.in_ok-push.ensures.items)
    (one_group_more shows c.args.groups.now c.loop-group.all.items c.loop-group.group-index c.group-item.result c.group-item.result _ c.loop-group-test.true c.group-item.is c.loop-group.invariant c.in_ok-new.ensures)

pub returns : goal.returns
returns c =
    subst (λ (groups : List Chosen). AllZip (ShowsGroup c.args.plan.now []) groups c.loop-group.all.items) (take_all c.loop-group.group-index c.args.groups.now c.loop-group-test.false) c.loop-group.invariant
