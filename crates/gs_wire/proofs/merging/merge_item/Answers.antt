use Rattle.std.proofs.Common.{ℕ, List, [], ◌∷◌, ◌++◌, Some, None, sym, ap, ◌∙◌}
use Rattle.gs_wire.specs.Views.{view}
use Rattle.gs_wire.proofs.FieldValues.{all_len-push}
use Rattle.gs_wire.proofs.merging.merge_item.Goals as goal

pub returns-in_default : goal.returns-in_default
returns-in_default c = λ before was. was ∙ sym (all_len-push c.args.wanted before (view c.args.record.now) None (sym c.in_default.ensures))

pub returns : goal.returns
returns c = λ before was.
    rw (c.in_ok-push.ensures.ok, c.in_ok-to_bytes.ensures) (ap (λ (xs : List (List ℕ)). xs ++ c.in-Some.bytes ∷ []) was ∙ sym (all_len-push c.args.wanted before (view c.args.record.now) (Some c.in-Some.bytes) (sym c.in-Some.ensures)))
