use Rattle.std.proofs.Common.{◌≡◌, pos, [], List, Option, sym, ap, subst}
use Rattle.std.specs.Option.{unwrap_or}
use Rattle.gs_base.specs.declared.names.Topic.{Topic}
use Rattle.gs_score.specs.declared.accounts.Account.{Account}
use Rattle.gs_score.specs.declared.standing.Standing.{Standing}
use Rattle.gs_score.specs.Accounts.{Covers, held_in, topic_sum}
use Rattle.gs_score.specs.Ledgers.{nothing_counted, topics_of}
use Rattle.gs_score.proofs.Accounting.{few_of, sum_of_none}
use Rattle.gs_score.proofs.accounts.counts_of.Goals as goal

pub sum-topics-requires : goal.sum-topics-requires
sum-topics-requires c = record { few = few_of c.args.accounts.now.entries c.args.peer c.in-Some.account.now (sym c.in-Some.ensures.value) c.requires.few }

pub returns-in-None-clause-topics : goal.returns-in-None-clause-topics
returns-in-None-clause-topics c =
    let params = c.args.rulebook.now in
    let none : topics_of c.args.accounts.now.entries c.args.peer ≡ [] = ap (λ (o : Option Account). (unwrap_or o nothing_counted).topics) (sym c.in-None.ensures.value) in
    subst
    (λ (es : List (Topic × Standing)). (ts : List Topic) → Covers (held_in params c.args.decays es) ts → pos 0 ≡ topic_sum params c.args.now.0 (held_in params c.args.decays es) ts)
    (sym none) (sum_of_none params c.args.decays c.args.now.0)
