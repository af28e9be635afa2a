use Rattle.std.proofs.Common.{◌≡◌, ◌<◌, ◌∙◌, ◌&&◌, ◌+◌, ℕ, false, true, List, String, Global, drop, get_or, length, map, refl, string_bytes, sym}
use Rattle.std.proofs.lemmas.List.{drop_all, drop_more}
use Rattle.std.specs.List.{list_all}
use Rattle.gs_edit.specs.Keys.{is_edit}
use Rattle.gs_edit.proofs.keys.all_are_edits.Goals as goal

next : (xs : List (String Global)) (i : ℕ) (d : String Global) → i < length xs
    → list_all is_edit (map string_bytes (drop i xs)) ≡ (is_edit (string_bytes (get_or xs i d)) && list_all is_edit (map string_bytes (drop (i + 1) xs)))
next xs i d within = rw (drop_more xs i d within) refl

pub returns-then-not-is_edit : goal.returns-then-not-is_edit
returns-then-not-is_edit c =
    let item = c.argument-item.result in
    let step = next c.args.arguments.now c.loop-argument.argument-index item c.loop-argument-test.true in
    let no : is_edit (string_bytes item) ≡ false = rw (← c.deref.ensures) (sym c.is_edit.ensures ∙ c.if-not-is_edit.true) in
    sym (sym c.loop-argument.invariant ∙ step ∙ rw (sym c.argument-item.is, no) refl)

pub loop-argument-preserved : goal.loop-argument-preserved
loop-argument-preserved c =
    let item = c.argument-item.result in
    let step = next c.args.arguments.now c.loop-argument.argument-index item c.loop-argument-test.true in
    let yes : is_edit (string_bytes item) ≡ true = rw (← c.deref.ensures) (sym c.is_edit.ensures ∙ c.if-not-is_edit.false) in
    sym (step ∙ rw (sym c.argument-item.is, yes) refl) ∙ c.loop-argument.invariant

pub returns : goal.returns
returns c = rw (drop_all c.loop-argument.argument-index c.args.arguments.now c.loop-argument-test.false) at c.loop-argument.invariant
