use Rattle.std.proofs.Common.{Err, ap, ◌∙◌}
use Rattle.std.proofs.lemmas.Result.{err_from_is_err_and}
use Rattle.gs_wire.specs.declared.decoding.DecodeError.TheVariants.{Malformed}
use Rattle.gs_wire.proofs.Faults.{same_fault}
use Rattle.gs_wire.proofs.frames.push_body.Goals as goal

pub returns-in_err-read_body-clause-malformed : goal.returns-in_err-read_body-clause-malformed
returns-in_err-read_body-clause-malformed c =
    let p = err_from_is_err_and c.from_residual.result c.from_residual.ensures.1 in
    λ e rpc spelled. c.in_err-read_body.ensures.malformed (same_fault c.in_err-read_body.field-0.0 Malformed c.from_residual.result (p.1 ∙ ap (λ f. Err f) p.2) e) rpc spelled
