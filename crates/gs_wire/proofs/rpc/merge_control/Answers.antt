use Rattle.std.proofs.Common.{Some, None, Err, sym, ap, ◌∙◌}
use Rattle.std.proofs.lemmas.Result.{err_from_is_err_and}
use Rattle.gs_wire.specs.declared.decoding.DecodeError.TheVariants.{Malformed}
use Rattle.gs_wire.specs.Views.{view}
use Rattle.gs_wire.specs.Records.{len_values}
use Rattle.gs_wire.proofs.Faults.{same_fault}
use Rattle.gs_wire.proofs.FieldValues.{all_len-push}
use Rattle.gs_wire.proofs.Zips.{len_values-middle}
use Rattle.gs_wire.proofs.Controls.{merged_one, unmerged}
use Rattle.gs_wire.proofs.rpc.merge_control.Goals as goal

pub returns-in_default-clause-merged : goal.returns-in_default-clause-merged
returns-in_default-clause-merged c = λ before was. rw (all_len-push 3 before (view c.args.record.now) None (sym c.in_default.ensures)) was

pub returns-in_err-merged-clause-malformed : goal.returns-in_err-merged-clause-malformed
returns-in_err-merged-clause-malformed c =
    let p = err_from_is_err_and c.from_residual.result c.from_residual.ensures.1 in
    λ e before after other says.
    unmerged (len_values 3 before) c.in-Some.bytes (len_values 3 after) other (λ front rs more control spells. c.in_err-merged.ensures.malformed (same_fault c.in_err-merged.field-0.0 Malformed c.from_residual.result (p.1 ∙ ap (λ f. Err f) p.2) e) front rs more control spells) (rw (len_values-middle 3 before after c.in-Some.bytes (view c.args.record.now) (sym c.in-Some.ensures)) at says)

pub returns-clause-merged : goal.returns-clause-merged
returns-clause-merged c = λ before was.
    let (part, spells, merges) = c.in_ok-merged.ensures.merged in
    rw (all_len-push 3 before (view c.args.record.now) (Some c.in-Some.bytes) (sym c.in-Some.ensures)) (merged_one (len_values 3 before) c.args.control.now c.in-Some.bytes part c.in_ok-merged.field-0 was spells (rw c.take.ensures.value at merges))
