use Rattle.std.proofs.Common.{List, ap, sym, subst, ◌∙◌}
use Rattle.std.specs.List.{list_any}
use Rattle.std.proofs.lemmas.Map.Made.{is_some-lookup}
use Rattle.gs_base.specs.Names.{same_topic}
use Rattle.gs_base.specs.declared.names.Topic.{Topic}
use Rattle.gs_score.specs.Ledgers.{Kept, topics_of}
use Rattle.gs_score.specs.Histories.{Agrees}
use Rattle.gs_score.proofs.scores.Scores.topics.Goals as goal

pub returns-clause-each : goal.returns-clause-each
returns-clause-each c = λ s H t a.
    let old = c.self.inside in
    let k : Kept = record { params = old.rulebook; addresses = old.addresses; accounts = old.accounts.entries; decays = old.decays } in
    let agrees : Agrees s k H = subst (λ x. Agrees s x H) (sym c.self.view_is) a in
    ap (λ (ts : List Topic). list_any (same_topic t) ts) c.in_ok-list.ensures.all
    ∙ sym (is_some-lookup (same_topic t) (topics_of k.accounts c.args.peer))
    ∙ agrees.knows c.args.peer t
