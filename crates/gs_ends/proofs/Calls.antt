-- What the calls of a link's ends answer, said of the lists of a neighbour.
use Rattle.std.proofs.Common.{◌≡◌, List, [], ◌∷◌, ◌++◌, refl, sym, ap, ◌∙◌, Result, Ok, Err}
use Rattle.gs_link.specs.declared.item.Item.{Item}
use Rattle.gs_link.specs.declared.item.Slot.{Slot}
use Rattle.gs_link.specs.declared.item.Slot.TheVariants.{Close}
use Rattle.gs_link.specs.declared.fault.SendRefused.{SendRefused}
use Rattle.gs_link.specs.declared.fault.SendRefused.TheVariants as send
use Rattle.gs_link.specs.declared.fault.CloseRefused.{CloseRefused}
use Rattle.gs_link.specs.declared.fault.CloseRefused.TheVariants as close
use Rattle.gs_link.specs.declared.receiver.Taken.{Taken}
use Rattle.gs_link.specs.declared.receiver.Taken.TheVariants as took
use Rattle.gs_link.specs.Items.{slot_of}
use Rattle.gs_link.specs.Runs.{closes}
use Rattle.gs_link.specs.Ends.{IfGot, handed_back, send_found_closed, close_found_closed, take_found_empty, take_found_closed, with_close}
use Rattle.gs_link.proofs.Closes.{closes-item}
use Rattle.std.specs.Prelude.{OnOk, OnErr, IfErr, IsTrue}
use Rattle.gs_ends.specs.Ends.{IsPut, IsFinished, IsTaken}

pub put_of : (before after : List Slot) (item : Item) (answer : Result (Unit {0}) SendRefused) → OnOk answer (after ≡ before ++ slot_of item ∷ []) → OnErr answer (after ≡ before) → IfErr answer (λ refused. handed_back refused ≡ item) → send_found_closed answer ≡ closes before → IsPut before after item answer
put_of before after item (Ok x) sent kept back closed = (sym closed, sent)
put_of before after item (Err (send.Closed other)) sent kept back closed = (sym closed, kept, back)
put_of before after item (Err (send.Full other)) sent kept back closed = (sym closed, kept, back)

pub finished_of : (before after : List Slot) (answer : Result (Unit {0}) CloseRefused) → OnOk answer (after ≡ before ++ Close ∷ []) → OnErr answer (after ≡ before) → close_found_closed answer ≡ closes before → IsFinished before after answer
finished_of before after (Ok x) sent kept closed = (sym closed, sent)
finished_of before after (Err close.Closed) sent kept closed = (sym closed, kept)
finished_of before after (Err close.Full) sent kept closed = (sym closed, kept)

pub taken_of : (before after : List Slot) (answer : Taken) → IfGot answer (λ item. after ≡ before ++ slot_of item ∷ []) → (IsTrue (take_found_empty answer) → after ≡ before) → (IsTrue (take_found_closed answer) → after ≡ with_close before) → take_found_closed answer ≡ closes after → IsTaken before after answer
taken_of before after (took.Got item) got empty close closed = (sym (closes-item before item) ∙ ap closes (sym got) ∙ sym closed, got)
taken_of before after took.Empty got empty close closed = (ap closes (sym (empty refl)) ∙ sym closed, empty refl)
taken_of before after took.Closed got empty close closed = close refl
