use Rattle.std.proofs.Common.{◌≡◌, ◌+◌, ◌++◌, ◌∙◌, [], ◌∷◌, take, length, ℕ, ap, ap₂, sym}
use Rattle.std.proofs.lemmas.List.{take_more}
use Rattle.std.proofs.lemmas.List.Sums.{sum_by_push}
use Rattle.gs_rules.specs.declared.trace.Entry.{Entry}
use Rattle.gs_rules.specs.Tables.{Entries}
use Rattle.gs_direct.specs.Stages.{delivered_in, saturated}
use Rattle.gs_direct.proofs.Staging.{saturated_once}
use Rattle.gs_direct.proofs.stages.delivered_in.Goals as goal

pub loop-entry-preserved : goal.loop-entry-preserved
loop-entry-preserved c =
    let es = c.args.entries.now in
    let n = c.loop-entry.entry-index in
    let e = c.entry-item.result in
    let more : take (n + 1) es ≡ take n es ++ e ∷ [] = take_more es n e c.loop-entry-test.true ∙ ap (λ (x : Entry). take n es ++ x ∷ []) (sym c.entry-item.is) in
    let f : Entry → ℕ = λ x. length x.effects.delivered in
    c.saturating_add-all.ensures
    ∙ ap₂ (λ (all more : ℕ). saturated (all + more)) c.loop-entry.invariant (ap length c.delivered.ensures)
    ∙ saturated_once (delivered_in (take n es)) (length e.effects.delivered)
    ∙ ap saturated (sym (sum_by_push f (take n es) e))
    ∙ ap (λ (L : Entries). saturated (delivered_in L)) (sym more)
