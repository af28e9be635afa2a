use Rattle.std.proofs.Common.{◌≡◌, ◌-◌, ◌^◌, ◌≤◌, length, sym, arith}
use Rattle.std.proofs.lemmas.Bool.{le-leb, lt-leb}
use Rattle.gs_wire.specs.Messages.{body, longest_body}
use Rattle.gs_wire.specs.Joining.{joined_rpc, joined_rpcs, joined_to}
use Rattle.gs_wire.specs.Gathering.{as_one}
use Rattle.gs_wire.specs.Sections.{control_length, plain_length}
use Rattle.gs_wire.proofs.Gathering.{control_within, grown, measured_more}
use Rattle.gs_wire.proofs.JoinedRpcs.{rpcs_push}
use Rattle.gs_wire.proofs.gathered.Gathered.gather.Goals as goal

pub both_lens-control-requires-clause-first_fits : goal.both_lens-control-requires-clause-first_fits
both_lens-control-requires-clause-first_fits c = control_within _ _ _ c.self.invariant

pub overflow_add-plain-2 : goal.overflow_add-plain-2
overflow_add-plain-2 c =
    let held = joined_rpcs c.self.inside.parts.items in
    let v = c.args.part.now in
    let plain : c.plain_len.result ≡ plain_length v = rw c.get.ensures at c.plain_len.ensures.len in
    let control : c.both_lens-control.result ≡ control_length (joined_rpc (as_one held) v) = c.both_lens-control.ensures (as_one held) v c.self.invariant.inside (rw c.get-2.ensures at c.control_len.ensures) in
    let long = grown held v c.self.inside.plain c.plain_len.result c.control_record_len.result (2 ^ 64 - 1) c.self.inside.control c.both_lens-control.result c.self.invariant (rw c.get.ensures at c.plain_len.ensures.fits) plain control c.control_record_len.ensures (omega arith) in
    omega (arith, long.0, long.1)

pub returns-then-plain-control_record_len-gt-MAX_BODY-clause-fits : goal.returns-then-plain-control_record_len-gt-MAX_BODY-clause-fits
returns-then-plain-control_record_len-gt-MAX_BODY-clause-fits c =
    let held = joined_rpcs c.self.inside.parts.items in
    let v = c.args.part.now in
    let plain : c.plain_len.result ≡ plain_length v = rw c.get.ensures at c.plain_len.ensures.len in
    let control : c.both_lens-control.result ≡ control_length (joined_rpc (as_one held) v) = c.both_lens-control.ensures (as_one held) v c.self.invariant.inside (rw c.get-2.ensures at c.control_len.ensures) in
    let long = grown held v c.self.inside.plain c.plain_len.result c.control_record_len.result (2 ^ 64 - 1) c.self.inside.control c.both_lens-control.result c.self.invariant (rw c.get.ensures at c.plain_len.ensures.fits) plain control c.control_record_len.ensures (omega arith) in
    rw (← c.self.view_is) (sym (lt-leb (length (body (joined_to held v))) longest_body (omega (arith, long.0, c.if-plain-control_record_len-gt-MAX_BODY.true))))

pub invariant_of-self-2 : goal.invariant_of-self-2
invariant_of-self-2 c =
    let held = joined_rpcs c.self.inside.parts.items in
    let v = c.args.part.now in
    let plain : c.plain_len.result ≡ plain_length v = rw c.get.ensures at c.plain_len.ensures.len in
    let control : c.both_lens-control.result ≡ control_length (joined_rpc (as_one held) v) = c.both_lens-control.ensures (as_one held) v c.self.invariant.inside (rw c.get-2.ensures at c.control_len.ensures) in
    let long = grown held v c.self.inside.plain c.plain_len.result c.control_record_len.result (2 ^ 64 - 1) c.self.inside.control c.both_lens-control.result c.self.invariant (rw c.get.ensures at c.plain_len.ensures.fits) plain control c.control_record_len.ensures (omega arith) in
    let within : length (body (joined_to held v)) ≤ longest_body = omega (arith, long.0, c.if-plain-control_record_len-gt-MAX_BODY.false) in
    rw (c.in_ok-push.ensures.items, c.in_ok-clone_of.ensures, rpcs_push c.self.inside.parts.items v) (measured_more held v c.self.inside.plain c.plain_len.result c.self.inside.control c.both_lens-control.result c.self.invariant plain control within)

pub returns-clause-fits : goal.returns-clause-fits
returns-clause-fits c =
    let held = joined_rpcs c.self.inside.parts.items in
    let v = c.args.part.now in
    let plain : c.plain_len.result ≡ plain_length v = rw c.get.ensures at c.plain_len.ensures.len in
    let control : c.both_lens-control.result ≡ control_length (joined_rpc (as_one held) v) = c.both_lens-control.ensures (as_one held) v c.self.invariant.inside (rw c.get-2.ensures at c.control_len.ensures) in
    let long = grown held v c.self.inside.plain c.plain_len.result c.control_record_len.result (2 ^ 64 - 1) c.self.inside.control c.both_lens-control.result c.self.invariant (rw c.get.ensures at c.plain_len.ensures.fits) plain control c.control_record_len.ensures (omega arith) in
    rw (← c.self.view_is) (sym (le-leb (length (body (joined_to held v))) longest_body (omega (arith, long.0, c.if-plain-control_record_len-gt-MAX_BODY.false))))

pub returns-clause-joined : goal.returns-clause-joined
returns-clause-joined c = λ told.
    rw (c.in_ok-push.ensures.items, c.in_ok-clone_of.ensures, ← c.self.view_is) (rpcs_push c.self.inside.parts.items c.args.part.now)
