use Rattle.std.proofs.Common.{◌++◌, List, ap, subst, ◌∙◌}
use Rattle.std.specs.List.{flat_map}
use Rattle.std.proofs.lemmas.Result.{on_ok_weaker}
use Rattle.gs_counts.specs.declared.happening.Happening.{Happening}
use Rattle.gs_counts.specs.Changes.{refusal_happenings}
use Rattle.gs_counts.specs.Standing.{Shows}
use Rattle.gs_counts.proofs.traces.note_refused.Goals as goal

pub returns : goal.returns
returns c =
    on_ok_weaker
    c.note_all.result
    (λ noted plan hs sizes was.
    subst (λ (xs : List Happening). Shows plan c.note_all.new.self (hs ++ xs) sizes)
    (c.deref.ensures.value ∙ c.in_ok-note_refusals.ensures ∙ ap (λ (xs : List Happening). xs ++ flat_map (refusal_happenings c.args.peer) c.args.refused.now) c.clear.ensures.items)
    (noted plan hs sizes was))
    c.note_all.ensures
