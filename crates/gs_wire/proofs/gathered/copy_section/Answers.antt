use Rattle.std.proofs.Common.{◌≡◌, ◌+◌, ◌≤◌, ◌++◌, ℕ, List, length, take, vec_len, vec_capacity, ap, sym, ◌∙◌, append_assoc, length-append, arith}
use Rattle.std.specs.List.{flat_map}
use Rattle.std.proofs.lemmas.List.{take_all}
use Rattle.gs_base.specs.declared.rpc.Rpc.{Rpc}
use Rattle.gs_wire.specs.Joining.{joined_rpcs}
use Rattle.gs_wire.specs.Sections.{section}
use Rattle.gs_wire.specs.Gathering.{as_one}
use Rattle.gs_wire.proofs.Gathering.{copied_more, copied_room, section-all}
use Rattle.gs_wire.proofs.gathered.copy_section.Goals as goal

pub loop-part-preserved : goal.loop-part-preserved
loop-part-preserved c =
    let i = c.loop-part.part-index in
    let parts = c.args.parts.now in
    let part = c.part-item.result in
    let f = section c.args.wanted in
    let before = flat_map f (take i parts) in
    let text : c.section.result.now ≡ f part = c.section.ensures ∙ ap f c.get.ensures in
    let length_before : length c.loop-part.buffer.items ≡ length c.args.buffer.now.items + length before = ap length c.loop-part.invariant.written ∙ length-append c.args.buffer.now.items before in
    let all : length (section c.args.wanted (as_one (joined_rpcs parts))) ≡ length (flat_map f parts) = ap length (section-all c.args.wanted parts) in
    let room : vec_len c.loop-part.buffer + length c.section.result.now ≤ vec_capacity c.loop-part.buffer =
    omega (arith, c.requires.room, length_before, all, copied_room f parts i part c.loop-part-test.true c.part-item.is, ap length text, c.loop-part.invariant.capacity, c.args.buffer.now.ok, c.loop-part.buffer.ok) in
    let fits = c.extend_from_slice-fits.ensures.succeeds room in
    let items = rw fits at c.extend_from_slice-fits.ensures.items in
    record {
      written = items ∙ ap (λ (t : List ℕ). c.loop-part.buffer.items ++ t) text ∙ ap (λ (t : List ℕ). t ++ f part) c.loop-part.invariant.written ∙ append_assoc c.args.buffer.now.items before (f part) ∙ ap (λ (t : List ℕ). c.args.buffer.now.items ++ t) (sym (copied_more f parts i part c.loop-part-test.true c.part-item.is));
      capacity = omega (arith, c.loop-part.invariant.capacity, c.extend_from_slice-fits.ensures.capacity);
    }

pub returns-clause-written : goal.returns-clause-written
returns-clause-written c =
    let f = section c.args.wanted in
    let parts = c.args.parts.now in
    let all : take c.loop-part.part-index parts ≡ parts = take_all c.loop-part.part-index parts c.loop-part-test.false in
    c.loop-part.invariant.written ∙ ap (λ (vs : List Rpc). c.args.buffer.now.items ++ flat_map f vs) all ∙ ap (λ (t : List ℕ). c.args.buffer.now.items ++ t) (sym (section-all c.args.wanted parts))
