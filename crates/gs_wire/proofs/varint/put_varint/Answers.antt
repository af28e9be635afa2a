use Rattle.std.proofs.Common.{◌+◌, ◌%◌, ◌≤◌, ◌∙◌, length, vec_capacity, refl, add_comm, arith}
use Rattle.gs_wire.specs.Varint.{varint}
use Rattle.gs_wire.proofs.VarintLoops.{writes_start, writes_step, writes_end, writes_room}
use Rattle.gs_wire.proofs.varint.put_varint.Goals as goal

pub loop-rest-init : goal.loop-rest-init
loop-rest-init c = record { writes = writes_start c.args.number c.args.buffer.now.items (omega arith); capacity = refl }

pub push_reserved-requires : goal.push_reserved-requires
push_reserved-requires c =
    let room : length c.args.buffer.now.items + length (varint c.args.number) ≤ vec_capacity c.args.buffer.now = omega (arith, c.requires, c.args.buffer.now.ok) in
    omega (arith, writes_room c.args.number c.args.buffer.now.items c.loop-rest.buffer.items c.loop-rest.rest (vec_capacity c.args.buffer.now) room c.loop-rest.invariant.writes)

pub loop-rest-preserved : goal.loop-rest-preserved
loop-rest-preserved c =
    let step = writes_step c.args.number c.args.buffer.now.items c.loop-rest.buffer.items c.loop-rest.rest (omega arith) c.loop-rest.invariant.writes in
    record {
      writes = rw (c.push_reserved.ensures.items, add_comm (c.loop-rest.rest % 128) 128) step;
      capacity = c.push_reserved.ensures.capacity ∙ c.loop-rest.invariant.capacity;
    }

pub push_reserved-requires-2 : goal.push_reserved-requires-2
push_reserved-requires-2 c =
    let room : length c.args.buffer.now.items + length (varint c.args.number) ≤ vec_capacity c.args.buffer.now = omega (arith, c.requires, c.args.buffer.now.ok) in
    omega (arith, writes_room c.args.number c.args.buffer.now.items c.loop-rest.buffer.items c.loop-rest.rest (vec_capacity c.args.buffer.now) room c.loop-rest.invariant.writes)

pub returns-clause-written : goal.returns-clause-written
returns-clause-written c =
    rw c.push_reserved-2.ensures.items (writes_end c.args.number c.args.buffer.now.items c.loop-rest.buffer.items c.loop-rest.rest (omega arith) c.loop-rest.invariant.writes)
