use Rattle.std.proofs.Common.{◌≡◌, ◌++◌, ◌∷◌, [], List, Bool, true, false, if◌then◌else◌, refl, ap, ◌∙◌}
use Rattle.gs_base.specs.declared.names.PeerNo.{PeerNo}
use Rattle.gs_link.specs.declared.item.Slot.{Slot}
use Rattle.gs_link.specs.declared.item.Slot.TheVariants.{Close}
use Rattle.gs_link.specs.Runs.{closes}
use Rattle.gs_link.specs.Ends.{with_close}
use Rattle.gs_link.proofs.Closes.{closes-close}
use Rattle.gs_ends.specs.Lists.{taken_in_lists}
use Rattle.gs_run_tests.proofs.tests.ends.given.take_all_of_five.Goals as goal

closes_with_close : (slots : List Slot) → closes (with_close slots) ≡ true
closes_with_close slots = by (closes slots) refl
  where
    by : (b : Bool) → closes slots ≡ b → closes (if b then slots else slots ++ Close ∷ []) ≡ true
    by true is = is
    by false is = closes-close slots []

pub prove_the_mark_was_taken-requires-clause-closed : goal.prove_the_mark_was_taken-requires-clause-closed
prove_the_mark_was_taken-requires-clause-closed c =
    let five : PeerNo = record { 0 = 5 } in
    ap closes c.in-Closed.ensures.taken ∙ closes_with_close (taken_in_lists c.take-mark.new.self five)
