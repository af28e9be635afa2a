use Rattle.std.proofs.Common.{◌++◌, ℕ, Bool, List, ap, ap₂, ◌∙◌}
use Rattle.std.specs.List.{flat_map}
use Rattle.std.proofs.lemmas.Result.{on_ok_weaker}
use Rattle.gs_base.specs.declared.mark.Mark.{Mark}
use Rattle.gs_base.specs.declared.names.Topic.{Topic}
use Rattle.gs_base.specs.declared.names.PeerNo.{PeerNo}
use Rattle.gs_base.specs.declared.rpc.Rpc.{Rpc}
use Rattle.gs_rules.specs.declared.event.Event.{Event}
use Rattle.gs_counts.specs.Changes.{delivery_happenings, mark_happenings}
use Rattle.gs_counts.specs.Fates.{known_fate}
use Rattle.gs_counts.specs.Heard.{event_happenings}
use Rattle.gs_counts.specs.Sent.{is_answer, send_happenings}
use Rattle.gs_counts.proofs.Entries.{all_listed}
use Rattle.gs_counts.proofs.traces.list_done.Goals as goal

pub returns : goal.returns
returns c =
    let s = c.args.scene in
    let fate = known_fate c.args.memory.now in
    let event = c.event-event.ensures in
    let marks = c.marks-marks.ensures in
    on_ok_weaker
    c.note_marks.result
    (λ marked.
    all_listed c.args.list.now.items _ _ _ _ _ c.in_ok-note_all_fallen.ensures
    (c.in_ok-note_event.ensures ∙ ap₂ (λ (e : Event) (ms : List Mark). c.note_all_fallen.new.list.items ++ event_happenings fate s c.args.fallen.now e ms) event marks)
    (c.in_ok-note_sends.ensures ∙ ap₂ (λ (b : Bool) (xs : List (PeerNo × Rpc)). c.note_event.new.list.items ++ flat_map (send_happenings s b) xs) (c.is_answer.ensures ∙ ap is_answer event) c.sends.ensures)
    (c.in_ok-note_deliveries.ensures ∙ ap (λ (xs : List (Topic × List ℕ)). c.note_sends.new.list.items ++ flat_map (delivery_happenings s) xs) c.delivered.ensures)
    (marked ∙ ap₂ (λ (e : Event) (ms : List Mark). c.note_deliveries.new.list.items ++ flat_map (mark_happenings s e) ms) event marks))
    c.note_marks.ensures
