use Rattle.std.proofs.Common.{Some, None, sym, ◌∙◌}
use Rattle.gs_wire.specs.Views.{view}
use Rattle.gs_wire.proofs.FieldValues.{last_varint-push}
use Rattle.gs_wire.proofs.merging.merge_number.Goals as goal

pub returns-in-Some : goal.returns-in-Some
returns-in-Some c = λ before was. sym (last_varint-push c.args.wanted before (view c.args.record.now) (Some c.in-Some.found) (sym c.in-Some.ensures))

pub returns-in_default : goal.returns-in_default
returns-in_default c = λ before was. was ∙ sym (last_varint-push c.args.wanted before (view c.args.record.now) None (sym c.in_default.ensures))
