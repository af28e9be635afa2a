use Rattle.std.proofs.Common.{is_some, subst}
use Rattle.gs_base.specs.declared.names.Topic.{Topic}
use Rattle.gs_rules.specs.declared.event.Event.{Event}
use Rattle.gs_rules.specs.Tables.{after_marks, joined, joined_after}
use Rattle.gs_rules.specs.Meshes.{last_published}
use Rattle.gs_router.specs.Tables.{HasTopics, dropped_by, fanned_by}
use Rattle.gs_router.proofs.Fanning.{fanned_all}
use Rattle.gs_router.proofs.tables.mesh_topics.MeshTopics.note.Goals as goal

pub returns : goal.returns
returns c = λ L agrees.
    fanned_all _ c.args.entry.now L c.marks.result.now c.marks.ensures
    (subst (λ (event : Event). HasTopics c.note_marks.new.self (λ t. joined_after t event (joined L t)) (λ t. after_marks (fanned_by t) c.marks.result.now (dropped_by t event (is_some (last_published L t))))) c.event.ensures
    (c.in_ok-note_marks.ensures _ _ (c.in_ok-note_event.ensures (joined L) (λ (t : Topic). is_some (last_published L t)) agrees)))
