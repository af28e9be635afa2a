use Rattle.std.proofs.Common.{◌++◌, ◌∷◌, [], ℕ, List, ap, sym, ◌∙◌, arith}
use Rattle.std.proofs.lemmas.List.FromFn.{map-range_with_len_more}
use Rattle.gs_base.specs.declared.names.PeerNo.{PeerNo}
use Rattle.gs_figure_sheets.proofs.inquiry.numbers_below.Goals as goal

pub loop-number-preserved : goal.loop-number-preserved
loop-number-preserved c =
    let n : ℕ = c.loop-number.number in
    let number : ℕ → PeerNo = λ k. record { 0 = k } in
    c.in_ok-push.ensures.items ∙ ap (λ (ps : List PeerNo). ps ++ number n ∷ []) c.loop-number.invariant ∙ sym (map-range_with_len_more number 0 n n (omega arith))
