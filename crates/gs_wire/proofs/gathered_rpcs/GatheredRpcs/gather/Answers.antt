use Rattle.std.proofs.Common.{◌-◌, ◌^◌, length, sym, arith}
use Rattle.std.proofs.lemmas.Bool.{le-leb, lt-leb}
use Rattle.gs_wire.specs.Messages.{body, longest_body}
use Rattle.gs_wire.specs.Joining.{joined_rpcs, joined_to}
use Rattle.gs_wire.proofs.JoinedLengths.{AreLengths, measured_with, whole_length}
use Rattle.gs_wire.proofs.JoinedRpcs.{rpcs_push}
use Rattle.gs_wire.proofs.gathered_rpcs.GatheredRpcs.gather.Goals as goal

pub returns-then-saturating_add-gt-MAX_BODY-clause-fits : goal.returns-then-saturating_add-gt-MAX_BODY-clause-fits
returns-then-saturating_add-gt-MAX_BODY-clause-fits c =
    let held = joined_rpcs c.self.inside.rpcs.items in
    let v = c.args.rpc.now in
    let are : AreLengths held v (2 ^ 64 - 1) c.self.inside.plain c.plain_len.result c.saturating_add-plain.result c.self.inside.control c.control_len.result c.joined_control_len-control.result c.control_record_len.result c.saturating_add.result = record {
      measured = c.self.invariant;
      more_is = rw c.get.ensures at c.plain_len.ensures;
      sum_is = c.saturating_add-plain.ensures;
      own_is = rw c.get-2.ensures at c.control_len.ensures;
      both_is = c.joined_control_len-control.ensures;
      control_is = c.control_record_len.ensures;
      whole_is = c.saturating_add.ensures;
      room = omega arith;
    } in
    let whole = whole_length held v _ _ _ _ _ _ _ _ _ are in
    rw (← c.self.view_is) (sym (lt-leb (length (body (joined_to held v))) longest_body (omega (arith, whole, c.if-saturating_add-gt-MAX_BODY.true))))

pub invariant_of-self-2 : goal.invariant_of-self-2
invariant_of-self-2 c =
    let held = joined_rpcs c.self.inside.rpcs.items in
    let v = c.args.rpc.now in
    let are : AreLengths held v (2 ^ 64 - 1) c.self.inside.plain c.plain_len.result c.saturating_add-plain.result c.self.inside.control c.control_len.result c.joined_control_len-control.result c.control_record_len.result c.saturating_add.result = record {
      measured = c.self.invariant;
      more_is = rw c.get.ensures at c.plain_len.ensures;
      sum_is = c.saturating_add-plain.ensures;
      own_is = rw c.get-2.ensures at c.control_len.ensures;
      both_is = c.joined_control_len-control.ensures;
      control_is = c.control_record_len.ensures;
      whole_is = c.saturating_add.ensures;
      room = omega arith;
    } in
    rw (c.in_ok-push.ensures.items, c.in_ok-clone_of.ensures, rpcs_push c.self.inside.rpcs.items v) (measured_with held v _ _ _ _ _ _ _ _ _ are (omega (arith, c.if-saturating_add-gt-MAX_BODY.false)))

pub returns-clause-fits : goal.returns-clause-fits
returns-clause-fits c =
    let held = joined_rpcs c.self.inside.rpcs.items in
    let v = c.args.rpc.now in
    let are : AreLengths held v (2 ^ 64 - 1) c.self.inside.plain c.plain_len.result c.saturating_add-plain.result c.self.inside.control c.control_len.result c.joined_control_len-control.result c.control_record_len.result c.saturating_add.result = record {
      measured = c.self.invariant;
      more_is = rw c.get.ensures at c.plain_len.ensures;
      sum_is = c.saturating_add-plain.ensures;
      own_is = rw c.get-2.ensures at c.control_len.ensures;
      both_is = c.joined_control_len-control.ensures;
      control_is = c.control_record_len.ensures;
      whole_is = c.saturating_add.ensures;
      room = omega arith;
    } in
    let whole = whole_length held v _ _ _ _ _ _ _ _ _ are in
    rw (← c.self.view_is) (sym (le-leb (length (body (joined_to held v))) longest_body (omega (arith, whole, c.if-saturating_add-gt-MAX_BODY.false))))

pub returns-clause-joined : goal.returns-clause-joined
returns-clause-joined c = λ told.
    rw (c.in_ok-push.ensures.items, c.in_ok-clone_of.ensures, ← c.self.view_is) (rpcs_push c.self.inside.rpcs.items c.args.rpc.now)
