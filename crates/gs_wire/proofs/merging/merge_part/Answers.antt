use Rattle.std.proofs.Common.{Err, sym, ap, ◌∙◌}
use Rattle.std.proofs.lemmas.Result.{err_from_is_err_and}
use Rattle.gs_wire.specs.declared.decoding.DecodeError.TheVariants.{Malformed}
use Rattle.gs_wire.specs.Views.{view}
use Rattle.gs_wire.specs.Fields.{Spells}
use Rattle.gs_wire.proofs.Faults.{same_fault}
use Rattle.gs_wire.proofs.Zips.{part_pushed, part_skipped, part_spoiled}
use Rattle.gs_wire.proofs.merging.merge_part.Goals as goal

pub returns-in_default-clause-merged : goal.returns-in_default-clause-merged
returns-in_default-clause-merged g c = λ before was.
    part_skipped (Spells g.M.Decode.says) c.args.wanted before (view c.args.record.now) c.args.parts.now (sym c.in_default.ensures) was

pub returns-in_err-push_message-clause-malformed : goal.returns-in_err-push_message-clause-malformed
returns-in_err-push_message-clause-malformed g c =
    let p = err_from_is_err_and c.from_residual.result c.from_residual.ensures.1 in
    λ e before after others.
    part_spoiled (Spells g.M.Decode.says) c.args.wanted before after (view c.args.record.now) others c.in-Some.bytes (sym c.in-Some.ensures) (c.in_err-push_message.ensures.malformed (same_fault c.in_err-push_message.field-0.0 Malformed c.from_residual.result (p.1 ∙ ap (λ f. Err f) p.2) e))

pub returns-clause-merged : goal.returns-clause-merged
returns-clause-merged g c = λ before was.
    let (part, spells, added) = c.in_ok-push_message.ensures.pushed in
    rw added (part_pushed (Spells g.M.Decode.says) c.args.wanted before (view c.args.record.now) c.args.parts.now c.in-Some.bytes part (sym c.in-Some.ensures) was spells)
