use Rattle.std.proofs.Common.{Bool, List, ◌≡◌, ◌++◌, [], true, false, if◌then◌else◌, append-nil, ap, subst, sym, ◌∙◌}
use Rattle.std.proofs.lemmas.Result.{on_ok_weaker}
use Rattle.gs_opinions.specs.declared.opinion.Opinion.{Opinion}
use Rattle.gs_opinions.specs.Noting.{Shows}
use Rattle.gs_opinions.specs.Opinions.{is_before, look_at, opinions_at}
use Rattle.gs_opinions.proofs.traces.Judge.note_before.Goals as goal

pub returns-then-is_before : goal.returns-then-is_before
returns-then-is_before c =
    let e = c.args.entry.now in
    let is : is_before (look_at e.event) ≡ true = ap is_before (ap look_at (sym c.event.ensures) ∙ sym c.look_at.ensures) ∙ sym c.is_before.ensures ∙ c.if-is_before.true in
    on_ok_weaker
    c.note_moment.result
    (λ told plan p L seen groups os was.
    subst (λ (xs : List Opinion). Shows plan groups c.note_moment.new.tables (os ++ xs))
    (ap (opinions_at plan p L) c.at.ensures ∙ ap (λ (b : Bool). if b then opinions_at plan p L e.at else []) (sym is))
    (told plan p L seen groups os was))
    c.note_moment.ensures

pub returns : goal.returns
returns c = λ plan p L seen groups os was.
    let e = c.args.entry.now in
    let is : is_before (look_at e.event) ≡ false = ap is_before (ap look_at (sym c.event.ensures) ∙ sym c.look_at.ensures) ∙ sym c.is_before.ensures ∙ c.if-is_before.false in
    subst (λ (xs : List Opinion). Shows plan groups c.args.tables.now xs)
    (sym (append-nil os) ∙ ap (λ (b : Bool). os ++ (if b then opinions_at plan p L e.at else [])) (sym is))
    was
