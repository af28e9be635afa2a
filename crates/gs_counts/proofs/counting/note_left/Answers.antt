use Rattle.std.proofs.Common.{◌≡◌, ◌++◌, true, not, List, ap, subst, sym, ◌∙◌}
use Rattle.std.specs.Prelude.{is_some}
use Rattle.std.specs.List.{flat_map}
use Rattle.std.proofs.lemmas.Result.{on_ok_weaker}
use Rattle.gs_rules.specs.declared.refusal.RefusedLine.{RefusedLine}
use Rattle.gs_counts.specs.declared.happening.Happening.{Happening}
use Rattle.gs_counts.specs.Changes.{refusal_happenings}
use Rattle.gs_counts.specs.Counting.{counter_of}
use Rattle.gs_counts.specs.Standing.{Shows}
use Rattle.gs_counts.proofs.Left.{one_refused}
use Rattle.gs_counts.proofs.Counters.{is_some_copied}
use Rattle.gs_counts.proofs.counting.note_left.Goals as goal

pub returns : goal.returns
returns c =
    let left = c.args.left.now in
    let counters = c.args.counters.now in
    let has_counter : is_some (counter_of counters left.0) ≡ true =
    ap is_some (sym c.counter_of.ensures) ∙ is_some_copied c.counter_of.result ∙ c.is_none.ensures ∙ ap not c.if-is_none.false in
    on_ok_weaker
    c.note_refused.result
    (λ noted plan hs sizes was.
    subst (λ (xs : List Happening). Shows plan c.note_refused.new.tables (hs ++ xs) sizes)
    (ap (λ (lines : List RefusedLine). flat_map (refusal_happenings left.0) lines) c.as_slice.ensures ∙ one_refused counters left has_counter)
    (noted plan hs sizes was))
    c.note_refused.ensures
