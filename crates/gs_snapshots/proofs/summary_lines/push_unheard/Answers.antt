use Rattle.std.proofs.Common.{◌≡◌, ◌++◌, [], ◌∷◌, ℕ, List, ap, ◌∙◌}
use Rattle.std.proofs.lemmas.Result.{on_ok_weaker}
use Rattle.std.specs.Prelude.{codes, filter}
use Rattle.gs_snapshots.specs.SummaryText.{unheard_counts, is_any, joined, line_after, of_word}
use Rattle.gs_snapshots.proofs.summary_lines.push_unheard.Goals as goal

pub returns : goal.returns
returns c =
    let x = c.args.falls.now in
    let counted : c.push_count-2.new.counts.items ≡ joined (filter is_any (unheard_counts x)) =
    c.in_ok-push_count-2.ensures (of_word x.graylisted (codes "graylisted") ∷ []) (
    c.in_ok-push_count.ensures [] c.new-counts.ensures.items) in
    on_ok_weaker
    c.push_after.result
    (λ written. written ∙ ap (λ (counts : List ℕ). c.args.out.now.items ++ line_after (codes "RPCs not heard: ") counts) (c.deref.ensures.value ∙ counted))
    c.push_after.ensures
