use Rattle.std.proofs.Common.{rules}
use Rattle.gs_mesh.proofs.Keeping.{the_same}
use Rattle.gs_mesh.proofs.meshes.changes.keep.Goals as goal

pub returns-in_ok-insert-clause-same : goal.returns-in_ok-insert-clause-same
returns-in_ok-insert-clause-same c =
    the_same c.args.topics.now.entries c.insert.new.self.entries c.args.topic.now (search rules)
    (λ u. rw (← c.in_ok-clone_of.ensures, ← c.new.ensures) (c.in_ok-insert.ensures.updates.0 u))
