use Rattle.std.proofs.Common.{refl, sym, ap, subst, ◌∙◌}
use Rattle.std.specs.Option.{IsSome}
use Rattle.gs_score.specs.declared.accounts.Account.{Account}
use Rattle.gs_score.specs.Counters.{most_counted, raised, read_at}
use Rattle.gs_score.proofs.Accounting.{Changed, is_blamed, account_was}
use Rattle.gs_score.proofs.accounts.blame.Goals as goal

pub returns-in-Some : goal.returns-in-Some
returns-in-Some c =
    let old = c.args.accounts.now.entries in
    let was : Account = c.in-Some.account.now in
    let is : Account = record { topics = was.topics; misbehaviour = c.raise.new.self } in
    let changed : Changed old (c.get_mut.follows.lender is).entries c.args.peer was is = (sym c.in-Some.ensures.value, ((c.get_mut.follows.holds is).3 (subst IsSome c.in-Some.ensures.value refl)).0) in
    is_blamed old (c.get_mut.follows.lender is).entries c.args.peer _ was is changed refl
    (c.raise.ensures.value
    ∙ ap (λ (a : Account). record { value = raised most_counted c.args.by (read_at c.args.decay c.args.decays a.misbehaviour); decays = c.args.decays })
    (sym (account_was old c.args.peer was (sym c.in-Some.ensures.value))))
