use Rattle.std.proofs.Common.{refl, sym, subst}
use Rattle.std.specs.Option.{IsSome}
use Rattle.gs_mesh.specs.declared.topic_mesh.TopicMesh.{TopicMesh}
use Rattle.gs_mesh.proofs.Keeping.{failed}
use Rattle.gs_mesh.proofs.meshes.changes.graft.Goals as goal

pub returns-in-Some-clause-unchanged : goal.returns-in-Some-clause-unchanged
returns-in-Some-clause-unchanged c =
    let was : TopicMesh = c.in-Some.mesh.now in
    let is : TopicMesh = record was { members = c.insert.new.self } in
    failed c.insert.result c.args.topics.now.entries (c.get_mut.follows.lender is).entries c.args.topic.now was
    (λ x. record was { members = x }) was.members c.insert.new.self refl (sym c.in-Some.ensures.value)
    ((c.get_mut.follows.holds is).3 (subst IsSome c.in-Some.ensures.value refl)).0 c.insert.ensures.unchanged
