use Rattle.gs_wire.proofs.Places.{placed_rest}
use Rattle.gs_wire.proofs.reader.Reader.split_to.Goals as goal

pub invariant_of-self : goal.invariant_of-self
invariant_of-self c =
    rw c.split_at.ensures.back (placed_rest c.self.inside.body.now c.self.inside.start c.self.inside.bytes.now c.args.count c.self.invariant (rw c.self.view_is c.requires))
