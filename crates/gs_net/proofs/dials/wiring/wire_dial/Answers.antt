use Rattle.std.proofs.Common.{◌∙◌, refl}
use Rattle.gs_ends.specs.Pairs.{Pair}
use Rattle.gs_net.proofs.Giving.{numbers_apart}
use Rattle.gs_net.proofs.Wiring.{wired_on}
use Rattle.gs_net.proofs.dials.wiring.wire_dial.Goals as goal

pub returns-clause-wired : goal.returns-clause-wired
returns-clause-wired c =
    let a = c.in_ok-put_last.ensures in
    let b = c.in_ok-put_last-2.ensures in
    let x = c.in-Ok.ensures in
    let y = c.in-Ok-open_link.ensures in
    let one : Pair = (c.args.dial.to, c.in-Ok.there, c.in-Ok-open_link.from_back) in
    let other : Pair = (c.args.dial.from, c.in-Ok-open_link.back, c.in-Ok.from_there) in
    wired_on c.args.dial c.args.lists.now.items c.put_last.new.lists.items c.put_last-2.new.lists.items one other
    (numbers_apart c.args.dial.from c.args.dial.to c.requires.named.2) a.put a.others b.put b.others
    c.args.capacity refl refl x.link y.link (x.capacity, y.same_capacity ∙ y.capacity) (y.capacity, x.same_capacity ∙ x.capacity) (x.accepted, y.taken) (y.accepted, x.taken)
