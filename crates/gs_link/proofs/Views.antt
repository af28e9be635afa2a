-- What an end's own flag says after a move, and what an item is in a link.
use Rattle.std.proofs.Common.{◌≡◌, Bool, true, List, [], ◌∷◌, ◌++◌, sym, subst, ◌∙◌, ap}
use Rattle.gs_link.specs.declared.item.Item.{Item}
use Rattle.gs_link.specs.declared.item.Item.TheVariants as item
use Rattle.gs_link.specs.declared.item.Slot.{Slot}
use Rattle.gs_link.specs.declared.item.Slot.TheVariants as slot
use Rattle.gs_link.specs.declared.rule.Account.{Account}
use Rattle.gs_link.specs.Items.{IsSendable, IsCarried, slot_of}
use Rattle.gs_link.specs.Runs.{closes, Run}
use Rattle.gs_link.specs.Fields.{Sends, Takes}
use Rattle.gs_link.specs.Moves.{Pushes, Pops, SeesWhole, join}
use Rattle.gs_link.proofs.Closes.{closes-item, closes-close, all-taken}

-- ---- items and slots

carried : (x : Item) → IsSendable x → IsCarried (slot_of x)
carried (item.Piece bytes) size = size
carried (item.Round r) size = tt

pub carried-as : (s : Slot) (x : Item) → s ≡ slot_of x → IsSendable x → IsCarried s
carried-as s x is size = subst IsCarried (sym is) (carried x size)

-- ---- moves

pub sent-item : (v w : Account) (s : Slot) (x : Item) (b : Bool) → s ≡ slot_of x → Pushes v s w → Sends v b → Sends w b
sent-item v w s x b which move was = (
  ap (λ (u : Account). u.sends) move.3 ∙ was.0,
  ap (λ (u : Account). closes u.accepted) move.3 ∙ ap (λ y. closes (v.accepted ++ y ∷ [])) which ∙ closes-item v.accepted x ∙ was.1,
)

pub sent-close : (v w : Account) → Pushes v slot.Close w → Sends w true
sent-close v w move = (ap (λ (u : Account). u.sends) move.3 ∙ move.0, ap (λ (u : Account). closes u.accepted) move.3 ∙ closes-close v.accepted _)

pub sent-nothing : (v w : Account) (b : Bool) → w ≡ v → Sends v b → Sends w b
sent-nothing v w b is was = (ap (λ (u : Account). u.sends) is ∙ was.0, ap (λ (u : Account). closes u.accepted) is ∙ was.1)

pub took-item : (v w : Account) (s : Slot) (x : Item) (b : Bool) → s ≡ slot_of x → Pops v s w → Takes v b → Takes w b
took-item v w s x b which move was = (
  ap (λ (u : Account). u.takes) move.2 ∙ was.0,
  ap (λ (u : Account). closes u.taken) move.2 ∙ ap (λ y. closes (v.taken ++ y ∷ [])) which ∙ closes-item v.taken x ∙ was.1,
)

pub took-close : (v w : Account) (s : Slot) → s ≡ slot.Close → Pops v s w → Takes w true
took-close v w s which move = (ap (λ (u : Account). u.takes) move.2 ∙ move.0, ap (λ (u : Account). closes u.taken) move.2 ∙ ap (λ y. closes (v.taken ++ y ∷ [])) which ∙ closes-close v.taken _)

-- the joined pass, where the close was taken
pub settled : (v u w : Account) (waiting : List Slot) → w ≡ join v u → SeesWhole w waiting → closes u.taken ≡ true → v.accepted ≡ u.taken
settled v u w waiting is sees closed =
    let run : Run v.accepted u.taken waiting = subst (λ (x : Account). Run x.accepted x.taken waiting) is sees in
    all-taken v.accepted u.taken waiting run.in_order run.closed_last closed
