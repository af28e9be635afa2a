use Rattle.std.proofs.Common.{◌≡◌, ◌++◌, ◌∷◌, [], ℕ, Bool, true, List, if◌then◌else◌, flat_map, sym, ap, ◌∙◌, append-nil}
use Rattle.std.proofs.lemmas.Result.{on_ok_weaker}
use Rattle.gs_rules.specs.Tables.{Entries}
use Rattle.gs_snapshots.specs.Telling.{told_of, told_of_each}
use Rattle.gs_snapshots.specs.Wishes.{is_in_rounds}
use Rattle.gs_snapshots.proofs.scores.push_moment_if.Goals as goal

pub returns-then-is_in_rounds : goal.returns-then-is_in_rounds
returns-then-is_in_rounds c =
    let asked = c.args.asked.now in
    let out = c.args.out.now.items in
    let is : is_in_rounds asked.rounds c.args.moment.round ≡ true = sym c.is_in_rounds.ensures ∙ c.if-is_in_rounds.true in
    let one = λ (L : Entries).
    sym (append-nil (told_of asked (c.args.moment, L)))
    ∙ ap (λ (b : Bool). flat_map (told_of asked) (if b then (c.args.moment, L) ∷ [] else [])) (sym is) in
    on_ok_weaker
    c.push_moment.result
    (λ told L left follows. told L left follows ∙ ap (λ (text : List ℕ). out ++ text) (one L))
    c.push_moment.ensures
