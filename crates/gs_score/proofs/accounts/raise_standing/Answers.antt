use Rattle.std.proofs.Common.{Result, Ok, Err, OnErr, ◌≡◌, refl, sym, ap, subst, ◌∙◌}
use Rattle.std.specs.Option.{IsSome}
use Rattle.std.proofs.lemmas.Map.Steps.{set_value_same}
use Rattle.gs_base.specs.Names.{same_peer}
use Rattle.gs_score.specs.declared.accounts.Account.{Account}
use Rattle.gs_score.specs.Accounts.{has_topic}
use Rattle.gs_score.specs.Standings.{raised_by}
use Rattle.gs_score.proofs.Accounting.{Changed, is_added, is_stepped, few_stay, few_of, grown, account_was, both_true}
use Rattle.gs_score.proofs.accounts.raise_standing.Goals as goal

on_err : {A B : Type 0} (r : Result A B) (P : Type 0) → P → OnErr r P
on_err (Ok x) P p = tt
on_err (Err e) P p = p

pub returns-in_err-raise-in-Some-clause-few : goal.returns-in_err-raise-in-Some-clause-few
returns-in_err-raise-in-Some-clause-few c =
    let old = c.args.accounts.now.entries in
    let was : Account = c.in-Some.account.now in
    let is : Account = record { topics = c.raise.new.self; misbehaviour = was.misbehaviour } in
    let changed : Changed old (c.get_mut.follows.lender is).entries c.args.peer was is = (sym c.in-Some.ensures.value, ((c.get_mut.follows.holds is).3 (subst IsSome c.in-Some.ensures.value refl)).0) in
    few_stay old (c.get_mut.follows.lender is).entries c.args.peer was is changed
    (rw c.in_err-raise-in-Some.ensures.unchanged (few_of old c.args.peer was (sym c.in-Some.ensures.value) c.requires.few))
    c.requires.few

pub returns-in_err-raise-in-Some-clause-unchanged : goal.returns-in_err-raise-in-Some-clause-unchanged
returns-in_err-raise-in-Some-clause-unchanged c =
    let old = c.args.accounts.now.entries in
    let was : Account = c.in-Some.account.now in
    let is : Account = record { topics = c.raise.new.self; misbehaviour = was.misbehaviour } in
    let same : is ≡ was = ap (λ topics. record was { topics = topics }) c.in_err-raise-in-Some.ensures.unchanged in
    let unchanged = (c.get_mut.follows.holds is).0 ∙ set_value_same (same_peer c.args.peer) old is (sym (rw same c.in-Some.ensures.value)) in
    on_err c.from_residual.result _ unchanged

pub returns-in_ok-raise-in-Some-clause-puts : goal.returns-in_ok-raise-in-Some-clause-puts
returns-in_ok-raise-in-Some-clause-puts c =
    let old = c.args.accounts.now.entries in
    let was : Account = c.in-Some.account.now in
    let is : Account = record { topics = c.raise.new.self; misbehaviour = was.misbehaviour } in
    let changed : Changed old (c.get_mut.follows.lender is).entries c.args.peer was is = (sym c.in-Some.ensures.value, ((c.get_mut.follows.holds is).3 (subst IsSome c.in-Some.ensures.value refl)).0) in
    is_stepped old (c.get_mut.follows.lender is).entries c.args.peer c.args.topic.now (raised_by c.args.raise) was is changed refl c.in_ok-raise-in-Some.ensures.puts

pub returns-in_ok-raise-in-Some-clause-adds : goal.returns-in_ok-raise-in-Some-clause-adds
returns-in_ok-raise-in-Some-clause-adds c =
    let old = c.args.accounts.now.entries in
    let was : Account = c.in-Some.account.now in
    let is : Account = record { topics = c.raise.new.self; misbehaviour = was.misbehaviour } in
    let changed : Changed old (c.get_mut.follows.lender is).entries c.args.peer was is = (sym c.in-Some.ensures.value, ((c.get_mut.follows.holds is).3 (subst IsSome c.in-Some.ensures.value refl)).0) in
    is_added old (c.get_mut.follows.lender is).entries c.args.peer c.args.topic.now was is changed c.in_ok-raise-in-Some.ensures.adds

pub returns-in_ok-raise-in-Some-clause-few : goal.returns-in_ok-raise-in-Some-clause-few
returns-in_ok-raise-in-Some-clause-few c =
    let old = c.args.accounts.now.entries in
    let was : Account = c.in-Some.account.now in
    let is : Account = record { topics = c.raise.new.self; misbehaviour = was.misbehaviour } in
    let changed : Changed old (c.get_mut.follows.lender is).entries c.args.peer was is = (sym c.in-Some.ensures.value, ((c.get_mut.follows.holds is).3 (subst IsSome c.in-Some.ensures.value refl)).0) in
    let here = account_was old c.args.peer was (sym c.in-Some.ensures.value) in
    few_stay old (c.get_mut.follows.lender is).entries c.args.peer was is changed
    (grown was.topics c.raise.new.self (has_topic was.topics c.args.topic.now) c.in_ok-raise-in-Some.ensures.number
    (few_of old c.args.peer was (sym c.in-Some.ensures.value) c.requires.few)
    (both_true _ _ (rw here at c.requires.room)).1)
    c.requires.few
