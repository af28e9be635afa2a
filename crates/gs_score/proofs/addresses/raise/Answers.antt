use Rattle.gs_score.proofs.Numbering.{one_more}
use Rattle.gs_score.proofs.addresses.raise.Goals as goal

pub returns : goal.returns
returns c = λ address.
    let old = c.args.numbers.now.entries in
    let key = c.args.entry.now.address in
    let is = one_more old c.insert.new.self.entries key (λ q. rw (← c.number_of-number.ensures, ← c.in_ok-clone_of.ensures) (c.in_ok-insert.ensures.updates.0 q)) address in
    rw c.if-not-entry.false is
