use Rattle.std.proofs.Common.{◌≡◌, ◌*◌, ◌++◌, ◌∷◌, [], ℕ, List, length, arith, ap, sym, ◌∙◌, append_assoc}
use Rattle.gs_wire.specs.Varint.{varint}
use Rattle.gs_wire.proofs.Written.{number_text}
use Rattle.gs_wire.proofs.encoding.put_number.Goals as goal

pub push_reserved-requires : goal.push_reserved-requires
push_reserved-requires c =
    let room = rw c.in-Some.is at c.requires.room in
    omega (arith, room, ap length (number_text c.args.field c.in-Some.number c.requires.small))

pub put_varint-requires : goal.put_varint-requires
put_varint-requires c =
    let room = rw c.in-Some.is at c.requires.room in
    omega (arith, room, ap length (number_text c.args.field c.in-Some.number c.requires.small), c.push_reserved.ensures.len, c.push_reserved.ensures.capacity)

pub returns-in-Some-clause-written : goal.returns-in-Some-clause-written
returns-in-Some-clause-written c =
    let before = c.args.buffer.now.items in
    let n = c.in-Some.number in
    let items : c.put_varint.new.buffer.items ≡ before ++ (8 * c.args.field) ∷ varint n =
    c.put_varint.ensures.written ∙ ap (λ (t : List ℕ). t ++ varint n) c.push_reserved.ensures.items ∙ append_assoc before ((8 * c.args.field) ∷ []) (varint n) in
    rw c.in-Some.is (items ∙ ap (λ (t : List ℕ). before ++ t) (sym (number_text c.args.field n c.requires.small)))
