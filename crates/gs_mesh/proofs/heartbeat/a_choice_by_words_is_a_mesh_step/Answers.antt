use Rattle.gs_mesh.proofs.StepLaws.{each_is_a_mesh_step}
use Rattle.gs_mesh.proofs.heartbeat.a_choice_by_words_is_a_mesh_step.Goals as goal

pub returns : goal.returns
returns g c = each_is_a_mesh_step g.W.Words.word g.W.Words.after
