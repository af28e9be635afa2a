use Rattle.std.proofs.Common.{◌≤◌, refl, sym, subst}
use Rattle.std.specs.Option.{IsSome}
use Rattle.gs_base.specs.Names.{most_topics}
use Rattle.gs_score.specs.declared.accounts.Account.{Account}
use Rattle.gs_score.specs.Standings.{pruned}
use Rattle.gs_score.proofs.Accounting.{Changed, is_kept, is_stepped, few_stay, few_of}
use Rattle.gs_score.proofs.accounts.prune_standing.Goals as goal

pub returns-in-Some-clause-puts : goal.returns-in-Some-clause-puts
returns-in-Some-clause-puts c =
    let old = c.args.accounts.now.entries in
    let topic = c.args.topic.now in
    let was : Account = c.in-Some.account.now in
    let is : Account = record { topics = c.prune.new.self; misbehaviour = was.misbehaviour } in
    let changed : Changed old (c.get_mut.follows.lender is).entries c.args.peer was is = (sym c.in-Some.ensures.value, ((c.get_mut.follows.holds is).3 (subst IsSome c.in-Some.ensures.value refl)).0) in
    is_stepped old (c.get_mut.follows.lender is).entries c.args.peer topic pruned was is changed refl c.prune.ensures.prunes

pub returns-in-Some-clause-keeps : goal.returns-in-Some-clause-keeps
returns-in-Some-clause-keeps c =
    let old = c.args.accounts.now.entries in
    let was : Account = c.in-Some.account.now in
    let is : Account = record { topics = c.prune.new.self; misbehaviour = was.misbehaviour } in
    let changed : Changed old (c.get_mut.follows.lender is).entries c.args.peer was is = (sym c.in-Some.ensures.value, ((c.get_mut.follows.holds is).3 (subst IsSome c.in-Some.ensures.value refl)).0) in
    is_kept old (c.get_mut.follows.lender is).entries c.args.peer was is changed c.prune.ensures.keeps

pub returns-in-Some-clause-few : goal.returns-in-Some-clause-few
returns-in-Some-clause-few c =
    let old = c.args.accounts.now.entries in
    let was : Account = c.in-Some.account.now in
    let is : Account = record { topics = c.prune.new.self; misbehaviour = was.misbehaviour } in
    let changed : Changed old (c.get_mut.follows.lender is).entries c.args.peer was is = (sym c.in-Some.ensures.value, ((c.get_mut.follows.holds is).3 (subst IsSome c.in-Some.ensures.value refl)).0) in
    few_stay old (c.get_mut.follows.lender is).entries c.args.peer was is changed
    (subst (λ n. n ≤ most_topics) (sym c.prune.ensures.number) (few_of old c.args.peer was (sym c.in-Some.ensures.value) c.requires.few))
    c.requires.few
