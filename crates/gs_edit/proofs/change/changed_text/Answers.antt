use Rattle.std.proofs.Common.{◌≡◌, rules}
use Rattle.toml.specs.View.{table_view}
use Rattle.gs_edit.proofs.Editing.{not_made_err}
use Rattle.gs_edit.proofs.change.changed_text.Goals as goal

pub returns-in_err-edit_all-clause-err : goal.returns-in_err-edit_all-clause-err
returns-in_err-edit_all-clause-err c =
    let same : c.in-Ok.text.now ≡ c.args.bytes.now = search rules in
    not_made_err c.from_residual.result _ c.args.bytes.now (table_view c.in-Ok-table_from_str.table) c.in_err-edit_all.field-0.0 _ c.from_residual.ensures.1 (λ y p. p)
    (rw same at c.in-Ok-table_from_str.ensures.ok) c.in_err-edit_all.ensures
