use Rattle.std.proofs.Common.{sym}
use Rattle.gs_opinions.proofs.Lowered.{first_of}
use Rattle.gs_opinions.proofs.pairs.lower_of.Goals as goal

pub returns-in_ok-insert-in-None : goal.returns-in_ok-insert-in-None
returns-in_ok-insert-in-None c = λ q.
    let untouched = c.get_mut.follows.holds-at-none in
    let updates = rw untouched at (c.in_ok-insert-in-None.ensures.updates.0 q) in
    first_of c.args.row.now.entries c.insert.new.self.entries c.args.opinion c.lowest.result q (sym c.in-None.ensures.value) c.lowest.ensures updates
