use Rattle.std.proofs.Common.{◌≡◌, ◌++◌, List, ap, ap₂, arith, length, map, ◌∙◌}
use Rattle.std.specs.List.{flat_map}
use Rattle.std.proofs.lemmas.List.{length-map, take_at}
use Rattle.std.proofs.lemmas.Result.{on_ok_weaker}
use Rattle.gs_base.specs.declared.names.Millis.{Millis}
use Rattle.gs_counts.specs.declared.happening.Scene.{Scene}
use Rattle.gs_counts.specs.declared.lane.Lane.{Lane}
use Rattle.gs_counts.specs.Fates.{known_fate}
use Rattle.gs_counts.specs.Happenings.{of_peer}
use Rattle.gs_counts.specs.Lanes.{lane_after, lane_happenings}
use Rattle.gs_counts.specs.Runs.{done_happenings}
use Rattle.gs_counts.proofs.Entries.{entry_listed, lanes_told}
use Rattle.gs_counts.proofs.traces.Notes.list_entry.Goals as goal

pub returns-clause-list : goal.returns-clause-list
returns-clause-list c =
    let e = c.args.entry.now in
    let notes = c.args.self.now in
    let first = c.args.list.now.items in
    let fallen = c.args.fallen.now in
    let done = c.list_done.new.list.items in
    let scene : c.of-scene.result ≡ of_peer e.at notes.peer = c.of-scene.ensures ∙ ap (λ (at : Millis). of_peer at notes.peer) c.at.ensures in
    on_ok_weaker
    c.note.result
    (λ remembers plan p L known fell.
    entry_listed plan p L e notes known fallen first done c.tell_all.new.list.items fell
    (c.in_ok-list_done.ensures ∙ ap (λ (s : Scene). first ++ done_happenings (known_fate notes.memory) s fallen e) scene)
    (c.in_ok-tell_all.ensures.list ∙ ap₂ (λ (s : Scene) (lanes : List Lane). done ++ flat_map (λ lane. lane_happenings s lane e) lanes) scene c.deref_mut.ensures.value))
    c.note.ensures

pub returns-clause-notes : goal.returns-clause-notes
returns-clause-notes c =
    let e = c.args.entry.now in
    let notes = c.args.self.now in
    let told = c.in_ok-tell_all.ensures.lanes in
    let as_many = ap (λ (lanes : List Lane). length lanes) told ∙ length-map c.deref_mut.result.now (lane_after e) in
    let before = ap (λ (lanes : List Lane). length lanes) c.deref_mut.ensures.value in
    on_ok_weaker
    c.note.result
    (λ remembers plan p L known. record {
      peer = known.peer;
      memory = remembers L known.memory;
      lanes = take_at c.tell_all.new.lanes _ notes.lanes.len (omega (arith, as_many, before, notes.lanes.ok))
          ∙ lanes_told plan p L e notes known c.tell_all.new.lanes (told ∙ ap (map (lane_after e)) c.deref_mut.ensures.value);
    })
    c.note.ensures
