use Rattle.std.proofs.Common.{◌≡◌, ◌+◌, ◌*◌, ◌<◌, ◌++◌, ◌∷◌, List, ℕ, length, min, arith, ap, sym, ◌∙◌, append_assoc, length-append}
use Rattle.gs_wire.specs.Varint.{varint}
use Rattle.gs_wire.specs.Records.{records_text}
use Rattle.gs_wire.proofs.Written.{len_text, len_text-length}
use Rattle.gs_wire.proofs.encoding.put_sized_part.Goals as goal

-- the length that is computed is the length, since the whole has room
exact : {n len most : ℕ} → n ≡ min most len → len < most → n ≡ len
exact is lt = omega (arith, is)

pub put_len-requires-clause-room : goal.put_len-requires-clause-room
put_len-requires-clause-room g c =
    let text = records_text (g.M.Encode.records c.args.part.now) in
    let len = len_text-length c.args.field text c.requires.small in
    let is : c.args.len ≡ length text = exact c.requires.sized (omega (arith, c.requires.room, len, c.args.buffer.now.small, c.args.buffer.now.ok)) in
    rw is (omega (arith, c.requires.room, len))

pub put-requires : goal.put-requires
put-requires g c =
    let text = records_text (g.M.Encode.records c.args.part.now) in
    let len = len_text-length c.args.field text c.requires.small in
    let is : c.args.len ≡ length text = exact c.requires.sized (omega (arith, c.requires.room, len, c.args.buffer.now.small, c.args.buffer.now.ok)) in
    let prefix = (8 * c.args.field + 2) ∷ varint (length text) in
    let written : c.put_len.new.buffer.items ≡ c.args.buffer.now.items ++ prefix = rw is at c.put_len.ensures.written in
    omega (arith, c.requires.room, len, ap length written, length-append c.args.buffer.now.items prefix, c.put_len.ensures.capacity, c.args.buffer.now.ok, c.put_len.new.buffer.ok)

pub returns-clause-written : goal.returns-clause-written
returns-clause-written g c =
    let text = records_text (g.M.Encode.records c.args.part.now) in
    let len = len_text-length c.args.field text c.requires.small in
    let is : c.args.len ≡ length text = exact c.requires.sized (omega (arith, c.requires.room, len, c.args.buffer.now.small, c.args.buffer.now.ok)) in
    let prefix = (8 * c.args.field + 2) ∷ varint (length text) in
    let written : c.put_len.new.buffer.items ≡ c.args.buffer.now.items ++ prefix = rw is at c.put_len.ensures.written in
    c.put.ensures.written ∙ ap (λ (t : List ℕ). t ++ text) written ∙ append_assoc c.args.buffer.now.items prefix text ∙ ap (λ (t : List ℕ). c.args.buffer.now.items ++ t) (sym (len_text c.args.field text c.requires.small))
