use Rattle.std.proofs.Common.{◌≡◌, ◌++◌, List, ℕ, true, sym, ap, ◌∙◌, append_assoc, arith}
use Rattle.std.proofs.lemmas.Result.{on_ok_weaker}
use Rattle.std.specs.Prelude.{codes, decimal}
use Rattle.gs_snapshots.specs.SummaryText.{comma_after, count_text, is_any, of_word}
use Rattle.gs_trace.proofs.Appended.{and_then}
use Rattle.gs_snapshots.proofs.Counts.{count_more}
use Rattle.gs_snapshots.proofs.summary_lines.push_count.Goals as goal

pub returns : goal.returns
returns c =
    let old = c.args.counts.now.items in
    let with_comma = c.push_comma.new.counts.items in
    let x = of_word c.args.number c.args.word.now in
    let some : is_any x ≡ true = grind (arith, c.if-number-eq0.false) in
    on_ok_weaker
    c.push_code-2.result
    (λ written before is.
    and_then with_comma _ _ (and_then with_comma _ _ c.in_ok-push_number.ensures c.in_ok-push_code.ensures) written
    ∙ ap (λ (text : List ℕ). text ++ count_text x) c.in_ok-push_comma.ensures
    ∙ append_assoc old (comma_after old) (count_text x)
    ∙ ap (λ (text : List ℕ). text ++ (comma_after text ++ count_text x)) is
    ∙ count_more before x some)
    c.push_code-2.ensures
