use Rattle.std.proofs.Common.{rules, arith, ◌≤◌, ◌∷◌, ◌++◌, [], List, length, drop, ap, ◌∙◌, append_assoc, length-drop}
use Rattle.std.proofs.lemmas.List.{take_rest}
use Rattle.gs_base.specs.declared.rpc.Rpc.{Rpc}
use Rattle.gs_wire.specs.declared.frames.End.TheVariants as ends
use Rattle.gs_wire.specs.Stream.{GoesOn, IsSpan}
use Rattle.gs_wire.proofs.FrameLists.{frames_more, frames_end, span_taken, span_malformed}
use Rattle.gs_wire.proofs.frames.read_frames.Goals as goal

pub returns-in-Err-clause-read : goal.returns-in-Err-clause-read
returns-in-Err-clause-read c =
    let (found, read, added) = c.loop-span.invariant.read in
    let on : GoesOn c.args.limit (drop c.loop-span.taken c.args.bytes.now) c.in-Err.end = rw (take_rest c.args.bytes.now c.loop-span.taken) at c.in-Err.ensures.no_length in
    rw c.without_length.ensures (found, frames_end c.args.limit c.args.bytes.now c.loop-span.taken found c.in-Err.end read on, added)

pub loop-span-preserved : goal.loop-span-preserved
loop-span-preserved c =
    let (found, read, added) = c.loop-span.invariant.read in
    let (rpc, spells, pushed) = c.in-Ok-push_body.ensures.pushed in
    let taken = c.loop-span.taken in
    let start = c.in-Ok.span.start in
    let end = c.in-Ok.span.end in
    let rest = drop taken c.args.bytes.now in
    let left = take_rest c.args.bytes.now taken in
    let span : IsSpan c.args.limit rest start end = rw left at c.in-Ok.ensures.found in
    let whole : end ≤ length rest = omega (arith, length-drop taken c.args.bytes.now, ap length left) in
    record {
      read = (
        found ++ rpc ∷ [],
        frames_more c.args.limit c.args.bytes.now taken end found rpc read whole (span_taken c.args.limit rest start end rpc span whole (rw left at spells)),
        pushed ∙ ap (λ (t : List Rpc). t ++ rpc ∷ []) added ∙ append_assoc c.args.rpcs.now.items found (rpc ∷ []),
      );
      next = tt;
    }

pub returns-in-Err-Malformed-clause-read : goal.returns-in-Err-Malformed-clause-read
returns-in-Err-Malformed-clause-read c =
    let (found, read, added) = c.loop-span.invariant.read in
    let taken = c.loop-span.taken in
    let start = c.in-Ok.span.start in
    let end = c.in-Ok.span.end in
    let rest = drop taken c.args.bytes.now in
    let left = take_rest c.args.bytes.now taken in
    let span : IsSpan c.args.limit rest start end = rw left at c.in-Ok.ensures.found in
    let whole : end ≤ length rest = omega (arith, length-drop taken c.args.bytes.now, ap length left) in
    let none = rw left at (c.in-Err-Malformed.ensures.malformed (search rules)) in
    rw c.without_length-in-Err-Malformed.ensures (found, frames_end c.args.limit c.args.bytes.now taken found ends.Malformed read (span_malformed c.args.limit rest start end span whole none), c.in-Err-Malformed.ensures.kept ∙ added)
