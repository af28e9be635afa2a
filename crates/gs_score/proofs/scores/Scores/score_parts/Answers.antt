use Rattle.std.proofs.Common.{◌≡◌, ◌≤◌, ◌^◌, ◌*◌, unsigned_abs, lit<, refl, sym, subst, ◌∙◌, arith}
use Rattle.gs_score.specs.Counters.{read_at}
use Rattle.gs_score.specs.Accounts.{misbehaviour_decay}
use Rattle.gs_score.specs.Ledgers.{Kept, misbehaviour_of}
use Rattle.gs_score.specs.Histories.{Agrees}
use Rattle.gs_score.specs.Addresses.{app_of, number_with}
use Rattle.gs_score.specs.Parts.{score_parts_of}
use Rattle.gs_score.proofs.Bounds.{back, coded}
use Rattle.gs_score.proofs.Keeping.{score_says}
use Rattle.gs_score.proofs.Placing.{number_within}
use Rattle.gs_score.proofs.scores.Scores.score_parts.Goals as goal

pub score_parts_of-requires-clause-number : goal.score_parts_of-requires-clause-number
score_parts_of-requires-clause-number c =
    omega (arith, c.app_and_number-app.ensures.number, number_within c.self.inside.addresses c.args.peer, c.self.invariant.addresses)

pub returns : goal.returns
returns c = λ s H topics a covers.
    let old = c.self.inside in
    let k : Kept = record { params = old.rulebook; addresses = old.addresses; accounts = old.accounts.entries; decays = old.decays } in
    let p = c.args.peer in
    let agrees : Agrees s k H = subst (λ x. Agrees s x H) (sym c.self.view_is) a in
    let misbehaviour : c.counts_of-topics.result.1 ≡ read_at (misbehaviour_decay k.params) k.decays (misbehaviour_of k.accounts p) = c.counts_of-topics.ensures.misbehaviour in
    let app : c.app_and_number-app.result.0 ≡ app_of k.addresses p = c.app_and_number-app.ensures.app in
    let small : unsigned_abs c.app_and_number-app.result.0 ≤ 10 ^ 12 = rw app (c.self.invariant.apps p) in
    let params : c.params.result.now ≡ k.params = c.params.ensures.value in
    let as_numbers
    : score_parts_of c.params.result.now.factors (coded c.counts_of-topics.result.0) (coded c.app_and_number-app.result.0) c.app_and_number-app.result.1 c.counts_of-topics.result.1
    ≡ score_parts_of k.params.factors c.counts_of-topics.result.0 (app_of k.addresses p) (number_with k.addresses p) (read_at (misbehaviour_decay k.params) k.decays (misbehaviour_of k.accounts p))
    = rw (params, back c.counts_of-topics.result.0 (1_024 * 10 ^ 25) c.counts_of-topics.ensures.bound (lit< tt), back c.app_and_number-app.result.0 (10 ^ 12) small (lit< tt), app, c.app_and_number-app.ensures.number, misbehaviour) refl in
    c.score_parts_of.ensures
    ∙ as_numbers
    ∙ score_says score_parts_of s k H p c.args.now.0 topics c.counts_of-topics.result.0 agrees covers c.counts_of-topics.ensures.topics
