use Rattle.std.proofs.Common.{◌≡◌, ◌++◌, [], ◌∷◌, ℕ, List, ap, ◌∙◌}
use Rattle.std.proofs.lemmas.Result.{on_ok_weaker}
use Rattle.std.specs.Prelude.{codes, filter}
use Rattle.gs_snapshots.specs.SummaryText.{promise_counts, is_any, joined, line_after, of_word}
use Rattle.gs_snapshots.proofs.summary_lines.push_promises.Goals as goal

pub returns : goal.returns
returns c =
    let x = c.args.falls.now in
    let counted : c.push_count.new.counts.items ≡ joined (filter is_any (promise_counts x)) =
    c.in_ok-push_count.ensures [] c.new-counts.ensures.items in
    on_ok_weaker
    c.push_after.result
    (λ written. written ∙ ap (λ (counts : List ℕ). c.args.out.now.items ++ line_after (codes "promises: ") counts) (c.deref.ensures.value ∙ counted))
    c.push_after.ensures
