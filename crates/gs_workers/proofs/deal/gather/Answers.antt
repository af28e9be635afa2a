use Rattle.std.proofs.Common.{◌≡◌, length, rules}
use Rattle.futures.specs.declared.future.made.maybe_done.MaybeDone.TheVariants.{Done}
use Rattle.gs_workers.specs.Deals.{lists_of}
use Rattle.gs_workers.proofs.Dealing.{total_less}
use Rattle.gs_workers.proofs.Gathering.{gathers_one, no_group, no_output, none_gathered}
use Rattle.gs_workers.proofs.deal.gather.Goals as goal

pub loop-group-init : goal.loop-group-init
loop-group-init g c futures dealt =
    none_gathered g.F.Future.gives futures c.new-outputs.result.items (lists_of c.args.groups.items) c.new-outputs.ensures.items dealt

pub returns-in_default-pop_output : goal.returns-in_default-pop_output
returns-in_default-pop_output g c futures dealt =
    no_output g.F.Future.gives futures c.loop-group.outputs.items c.in-Some.group c.loop-group.groups.items c.pop_front.new.self.items
    c.in_default-pop_output.ensures c.in-Some.ensures.items (c.loop-group.invariant futures dealt)

pub loop-group-smaller : goal.loop-group-smaller
loop-group-smaller g c =
    total_less c.in-Some.group c.pop_output.new.group c.loop-group.groups.items c.pop_front.new.self.items c.push_back.new.self.items (Done c.in-Some-pop_output.output)
    c.in-Some-pop_output.ensures c.in-Some.ensures.items c.in_ok-push_back.ensures.items

pub loop-group-preserved : goal.loop-group-preserved
loop-group-preserved g c futures dealt =
    gathers_one g.F.Future.gives futures c.loop-group.outputs.items c.push.new.self.items c.in-Some-pop_output.output c.in-Some.group c.pop_output.new.group c.loop-group.groups.items c.pop_front.new.self.items c.push_back.new.self.items
    c.in-Some-pop_output.ensures c.in-Some.ensures.items c.in_ok-push_back.ensures.items c.in_ok-push.ensures.items (c.loop-group.invariant futures dealt)

pub returns : goal.returns
returns g c futures dealt =
    let none : length c.loop-group.groups.items ≡ 0 = search rules in
    no_group g.F.Future.gives futures c.loop-group.outputs.items c.loop-group.groups.items none (c.loop-group.invariant futures dealt)
