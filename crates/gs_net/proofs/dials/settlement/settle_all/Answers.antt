use Rattle.std.proofs.Common.{sym, ◌∙◌, ◌<◌, subst}
use Rattle.gs_net.proofs.Settling
use Rattle.gs_net.proofs.dials.settlement.settle_all.Goals as goal

pub loop-dial-init : goal.loop-dial-init
loop-dial-init g c = Settling.none_settled c.args.dials.now c.args.lists.items c.requires.named c.requires.wired c.requires.apart c.requires.closed

pub take_last-requires : goal.take_last-requires
take_last-requires g c = record { within = Settling.from_within _ _ _ _ _ _ _ c.loop-dial.invariant c.in-Some.ensures.cases.0 }

pub unreachable-requires : goal.unreachable-requires
unreachable-requires g c = Settling.from_stands _ _ _ _ _ _ _ c.loop-dial.invariant c.in-Some.ensures.cases.0 c.in_default-take_last.ensures.none

pub take_last-requires-in-Some : goal.take_last-requires-in-Some
take_last-requires-in-Some g c = record {
  within = subst (λ n. c.in-Some.dial.now.to.0 < n) (sym c.in-Some-take_last.ensures.count) (Settling.to_within _ _ _ _ _ _ _ c.loop-dial.invariant c.in-Some.ensures.cases.0);
}

pub unreachable-requires-in_default-take_last-2 : goal.unreachable-requires-in_default-take_last-2
unreachable-requires-in_default-take_last-2 g c =
    let a = c.in-Some-take_last.ensures in
    Settling.to_stands _ _ _ _ _ _ _ c.loop-dial.invariant c.in-Some.ensures.cases.0 c.take_last.new.lists.items c.in-Some-take_last.one a.taken a.others c.in_default-take_last-2.ensures.none

pub settle_dial-settled-requires-clause-there : goal.settle_dial-settled-requires-clause-there
settle_dial-settled-requires-clause-there g c =
    let a = c.in-Some-take_last.ensures in
    let b = c.in-Some-take_last-2.ensures in
    Settling.one_link _ _ _ _ _ _ _ c.loop-dial.invariant c.in-Some.ensures.cases.0 c.take_last.new.lists.items c.in-Some-take_last.one a.taken a.others c.take_last-in-Some.new.lists.items c.in-Some-take_last-2.other b.taken b.others

pub settle_dial-settled-requires-clause-back : goal.settle_dial-settled-requires-clause-back
settle_dial-settled-requires-clause-back g c =
    let a = c.in-Some-take_last.ensures in
    let b = c.in-Some-take_last-2.ensures in
    Settling.other_link _ _ _ _ _ _ _ c.loop-dial.invariant c.in-Some.ensures.cases.0 c.take_last.new.lists.items c.in-Some-take_last.one a.taken a.others c.take_last-in-Some.new.lists.items c.in-Some-take_last-2.other b.taken b.others

pub settle_dial-settled-requires-clause-closed_there : goal.settle_dial-settled-requires-clause-closed_there
settle_dial-settled-requires-clause-closed_there g c =
    let a = c.in-Some-take_last.ensures in
    let b = c.in-Some-take_last-2.ensures in
    Settling.one_closed _ _ _ _ _ _ _ c.loop-dial.invariant c.in-Some.ensures.cases.0 c.take_last.new.lists.items c.in-Some-take_last.one a.taken a.others c.take_last-in-Some.new.lists.items c.in-Some-take_last-2.other b.taken b.others

pub settle_dial-settled-requires-clause-closed_back : goal.settle_dial-settled-requires-clause-closed_back
settle_dial-settled-requires-clause-closed_back g c =
    let a = c.in-Some-take_last.ensures in
    let b = c.in-Some-take_last-2.ensures in
    Settling.other_closed _ _ _ _ _ _ _ c.loop-dial.invariant c.in-Some.ensures.cases.0 c.take_last.new.lists.items c.in-Some-take_last.one a.taken a.others c.take_last-in-Some.new.lists.items c.in-Some-take_last-2.other b.taken b.others

pub loop-dial-preserved : goal.loop-dial-preserved
loop-dial-preserved g c =
    let a = c.in-Some-take_last.ensures in
    let b = c.in-Some-take_last-2.ensures in
    let s = c.settle_dial-settled.ensures in
    Settling.settled_more _ _ _ _ _ _ _ c.loop-dial.invariant c.in-Some.ensures.cases.0 c.take_last.new.lists.items c.in-Some-take_last.one a.taken a.others c.take_last-in-Some.new.lists.items c.in-Some-take_last-2.other b.taken b.others
    (b.count ∙ a.count) s.there s.back _ s.both
