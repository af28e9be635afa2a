use Rattle.std.proofs.Common.{Err, [], ap, ◌∙◌, append-nil}
use Rattle.std.proofs.lemmas.Result.{err_from_is_err_and}
use Rattle.gs_wire.specs.declared.decoding.DecodeError.TheVariants.{Malformed}
use Rattle.gs_wire.proofs.Faults.{same_fault}
use Rattle.gs_wire.proofs.rpc.read_body.Goals as goal

pub returns-in_err-merge_all-clause-malformed : goal.returns-in_err-merge_all-clause-malformed
returns-in_err-merge_all-clause-malformed c =
    let p = err_from_is_err_and c.from_residual-in_err-merge_all.result c.from_residual-in_err-merge_all.ensures.1 in
    λ e rpc spelled.
    c.in_err-merge_all.ensures.malformed (same_fault c.in_err-merge_all.field-0.0 Malformed c.from_residual-in_err-merge_all.result (p.1 ∙ ap (λ f. Err f) p.2) e) [] spelled.0 [] rpc (rw (c.new.ensures, c.in_ok-shared.ensures) spelled.1) (rw (append-nil spelled.0) spelled.2)

pub returns-clause-spelled : goal.returns-clause-spelled
returns-clause-spelled c =
    let (records, spells, says) = c.in_ok-merge_all.ensures.merged in
    (records, rw (c.new.ensures, c.in_ok-shared.ensures) at spells, says [] c.requires)
