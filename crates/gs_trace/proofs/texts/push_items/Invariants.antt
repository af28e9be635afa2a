use Rattle.std.proofs.Common.{◌≡◌, ◌++◌, take}
use Rattle.std.specs.List.{flat_map}
use Rattle.gs_trace.specs.Texts.{after_comma, names_of}
use Rattle.gs_trace.proofs.texts.push_items.Given as goal

-- the values so far come after what was there, each after a comma
abbrev pub invariant-loop-value : goal.invariant-loop-value
invariant-loop-value g l =
    l.out.items ≡ l.initial.out.items ++ flat_map (after_comma (g.T.Shown.text (names_of l.plan))) (take l.value-index l.more)
