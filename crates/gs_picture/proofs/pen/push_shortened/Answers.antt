use Rattle.std.proofs.Common.{sym, arith}
use Rattle.std.proofs.lemmas.List.{length-take-le}
use Rattle.gs_picture.proofs.pen.push_shortened.Goals as goal

pub slice_bounds-push_name-end : goal.slice_bounds-push_name-end
slice_bounds-push_name-end c = sym (length-take-le 32 c.args.names.now (omega (arith, c.if-names-le32.false)))
