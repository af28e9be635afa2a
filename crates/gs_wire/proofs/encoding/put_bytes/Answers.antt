use Rattle.std.proofs.Common.{◌≡◌, ◌+◌, ◌*◌, ◌≤◌, ◌++◌, ◌∷◌, List, ℕ, length, vec_len, vec_capacity, arith, ap, sym, ◌∙◌, append_assoc, length-append}
use Rattle.gs_wire.specs.Varint.{varint}
use Rattle.gs_wire.proofs.Written.{len_text, len_text-length}
use Rattle.gs_wire.proofs.encoding.put_bytes.Goals as goal

pub put_len-requires-clause-room : goal.put_len-requires-clause-room
put_len-requires-clause-room c = omega (arith, c.requires.room, len_text-length c.args.field c.args.bytes.now c.requires.small)

pub returns-clause-written : goal.returns-clause-written
returns-clause-written c =
    let prefix = (8 * c.args.field + 2) ∷ varint (length c.args.bytes.now) in
    let long : length c.put_len.new.buffer.items ≡ length c.args.buffer.now.items + (1 + length (varint (length c.args.bytes.now))) = omega (arith, ap length c.put_len.ensures.written, length-append c.args.buffer.now.items prefix) in
    let room : vec_len c.put_len.new.buffer + length c.args.bytes.now ≤ vec_capacity c.put_len.new.buffer = omega (arith, c.requires.room, len_text-length c.args.field c.args.bytes.now c.requires.small, long, c.put_len.ensures.capacity, c.args.buffer.now.ok, c.put_len.new.buffer.ok) in
    let fits = c.extend_from_slice-fits.ensures.succeeds room in
    let items = rw fits at c.extend_from_slice-fits.ensures.items in
    items ∙ ap (λ (t : List ℕ). t ++ c.args.bytes.now) c.put_len.ensures.written ∙ append_assoc c.args.buffer.now.items prefix c.args.bytes.now ∙ ap (λ (t : List ℕ). c.args.buffer.now.items ++ t) (sym (len_text c.args.field c.args.bytes.now c.requires.small))
