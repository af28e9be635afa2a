use Rattle.std.proofs.Common.{◌≡◌, Some, ap, sym, ◌∙◌, length, arith}
use Rattle.std.specs.Prelude.{option_map}
use Rattle.gs_wire.specs.Messages.{frame}
use Rattle.gs_wire.specs.Gathering.{as_one}
use Rattle.gs_wire.proofs.Gathering.{joined_some}
use Rattle.gs_wire.proofs.gathered.Gathered.frame.Goals as goal

pub returns-in_ok-joined_frame-in_default : goal.returns-in_ok-joined_frame-in_default
returns-in_ok-joined_frame-in_default c =
    let some = joined_some c.self.inside.parts.items (omega (arith, c.in_default.len_at_least, ap length c.as_slice.ensures.value)) in
    let held : c.args.self.now ≡ Some (as_one c.args.self.now) = rw c.self.view_is at some in
    ap Some c.in_ok-joined_frame-in_default.ensures ∙ ap (option_map frame) (sym held)
