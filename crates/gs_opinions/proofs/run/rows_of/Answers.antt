use Rattle.std.proofs.Common.{ℕ, List, ap₂, ◌∙◌}
use Rattle.std.specs.BTreeMap.{BTreeMap}
use Rattle.gs_base.specs.declared.names.PeerNo.{PeerNo}
use Rattle.gs_opinions.specs.declared.opinion.Lowest.{Lowest}
use Rattle.gs_opinions.specs.Listing.{all_rows}
use Rattle.gs_opinions.proofs.Listing.{pairs_listed, rounds_listed}
use Rattle.gs_opinions.proofs.run.rows_of.Goals as goal

pub returns : goal.returns
returns c = λ groups os shows.
    let plan = c.args.plan.now in
    let pairs =
    c.in_ok-pairs.ensures
    ∙ ap₂ (λ (count : ℕ) (rows : List (BTreeMap PeerNo Lowest)). all_rows count rows) c.len.ensures c.deref.ensures.value
    ∙ pairs_listed plan os c.args.tables.now.pairs.items shows.pairs in
    let rounds = c.in_ok-rounds.ensures ∙ rounds_listed plan os groups c.args.tables.now shows in
    λ i. record { pairs = pairs i; rounds = rounds i }
