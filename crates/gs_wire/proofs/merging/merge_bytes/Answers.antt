use Rattle.std.proofs.Common.{Some, None, sym, ◌∙◌}
use Rattle.gs_wire.specs.Views.{view}
use Rattle.gs_wire.proofs.FieldValues.{last_len-push}
use Rattle.gs_wire.proofs.merging.merge_bytes.Goals as goal

pub returns-in_default : goal.returns-in_default
returns-in_default c = λ before was. was ∙ sym (last_len-push c.args.wanted before (view c.args.record.now) None (sym c.in_default.ensures))

pub returns : goal.returns
returns c = λ before was.
    rw c.in_ok-to_bytes.ensures (sym (last_len-push c.args.wanted before (view c.args.record.now) (Some c.in-Some.bytes) (sym c.in-Some.ensures)))
