use Rattle.std.proofs.Common.{◌∙◌, if◌then◌else◌, ap}
use Rattle.gs_base.specs.declared.names.Topic.{Topic}
use Rattle.gs_base.specs.Names.{same_topic}
use Rattle.gs_router.specs.Tables.{mesh_or_fanout_in}
use Rattle.gs_router.proofs.Fanning.{put_so}
use Rattle.gs_router.proofs.tables.mesh_topics.MeshTopics.put.Goals as goal

pub returns : goal.returns
returns c = λ t.
    put_so c.args.self.now.topics.entries _ c.in_ok-clone_of.field-0 c.args.mesh_or_fanout c.in_ok-insert.ensures.updates.0 t
    ∙ ap (λ (topic : Topic). if same_topic topic t then c.args.mesh_or_fanout else mesh_or_fanout_in c.args.self.now t) c.in_ok-clone_of.ensures
