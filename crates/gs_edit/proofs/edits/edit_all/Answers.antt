use Rattle.std.proofs.Common.{◌≡◌, ◌∙◌, ◌+◌, Ok, refl, sym, string_bytes}
use Rattle.toml.specs.View.{table_view}
use Rattle.gs_edit.specs.Edits.{edited_by}
use Rattle.gs_edit.specs.Endings.{Explains}
use Rattle.gs_edit.proofs.Editing.{edited-end, edited-step, explains-all, gives_err}
use Rattle.gs_edit.proofs.edits.edit_all.Goals as goal

pub returns-in_err-edit_by : goal.returns-in_err-edit_by
returns-in_err-edit_by c =
    let item = c.index-arguments-number.result in
    let n = c.loop-number.number in
    let step = edited-step c.args.arguments.now n item (table_view c.loop-number.table) c.loop-number-test.true (sym c.index-arguments-number.is) in
    let one : Explains (edited_by (n + 1) (string_bytes item) (table_view c.loop-number.table)) c.in_err-edit_by.field-0.0 = rw (← c.deref.ensures) c.in_err-edit_by.ensures in
    gives_err _ c.from_residual.result _ c.in_err-edit_by.field-0.0 _ c.from_residual.ensures.1 (λ y p. p) (explains-all _ _ _ c.in_err-edit_by.field-0.0 (sym step ∙ c.loop-number.invariant) one)

pub loop-number-preserved : goal.loop-number-preserved
loop-number-preserved c =
    let item = c.index-arguments-number.result in
    let n = c.loop-number.number in
    let step = edited-step c.args.arguments.now n item (table_view c.loop-number.table) c.loop-number-test.true (sym c.index-arguments-number.is) in
    let one : edited_by (n + 1) (string_bytes item) (table_view c.loop-number.table) ≡ Ok (table_view c.edit_by.new.table) = rw (← c.deref.ensures) c.in_ok-edit_by.ensures in
    sym (step ∙ rw one refl) ∙ c.loop-number.invariant

pub returns : goal.returns
returns c =
    sym c.loop-number.invariant ∙ edited-end c.args.arguments.now c.loop-number.number (table_view c.loop-number.table) c.loop-number-test.false
