use Rattle.std.proofs.Common.{◌≡◌, ◌++◌, List, ap, ap₂, subst, ◌∙◌}
use Rattle.gs_base.specs.declared.names.Millis.{Millis}
use Rattle.gs_rules.specs.declared.event.Event.{Event}
use Rattle.gs_counts.specs.declared.happening.Happening.{Happening}
use Rattle.gs_counts.specs.Runs.{entry_happenings, entry_sizes, known_sizes}
use Rattle.gs_counts.specs.Standing.{MeshSize, Shows}
use Rattle.gs_counts.proofs.Entries.{sizes_known}
use Rattle.gs_counts.proofs.traces.note_entry.Goals as goal

pub returns-clause-notes : goal.returns-clause-notes
returns-clause-notes c = c.in_ok-list_entry.ensures.notes

pub returns-clause-tables : goal.returns-clause-tables
returns-clause-tables c = λ plan p L hs sizes known fell was.
    let e = c.args.entry.now in
    let memory = c.list_entry.new.self.memory in
    let listed : c.list_entry.new.list.items ≡ entry_happenings plan p L e =
    c.in_ok-list_entry.ensures.list plan p L known fell
    ∙ ap (λ (xs : List Happening). xs ++ entry_happenings plan p L e) c.clear.ensures.items in
    let shown = subst (λ (xs : List Happening). Shows plan c.note_all.new.self (hs ++ xs) sizes) (c.deref.ensures.value ∙ listed) (c.in_ok-note_all.ensures plan hs sizes was) in
    let more : known_sizes memory c.at.result c.event.result.now ≡ entry_sizes L e =
    ap₂ (λ (at : Millis) (event : Event). known_sizes memory at event) c.at.ensures c.event.ensures
    ∙ sizes_known memory L e (c.in_ok-list_entry.ensures.notes plan p L known).memory in
    subst (λ (xs : List MeshSize). Shows plan c.note_sizes.new.tables (hs ++ entry_happenings plan p L e) (sizes ++ xs)) more
    (c.note_sizes.ensures plan (hs ++ entry_happenings plan p L e) sizes shown)
