use Rattle.std.proofs.Common.{◌≡◌, Some, ap, sym, ◌∙◌, arith}
use Rattle.gs_wire.specs.Gathering.{as_one}
use Rattle.gs_wire.proofs.Gathering.{joined_some}
use Rattle.gs_wire.proofs.gathered_rpcs.GatheredRpcs.take.Goals as goal

pub returns-then-len-gt1-clause-rpc : goal.returns-then-len-gt1-clause-rpc
returns-then-len-gt1-clause-rpc c =
    let some = joined_some c.self.inside.rpcs.items (omega (arith, c.if-len-gt1.true, c.len.ensures, c.self.inside.rpcs.ok)) in
    let held : c.args.self.now ≡ Some (as_one c.args.self.now) = rw c.self.view_is at some in
    ap Some (c.in_ok-joined-2.ensures ∙ c.in_ok-joined.ensures) ∙ sym held
