-- What a peer has said by the end of a round stays as it is.
use Rattle.std.proofs.Common.{◌≡◌, ℕ, zero, suc, Bool, true, false, if◌then◌else◌, List, ◌∷◌, ◌++◌, refl, sym, ap, ap₂, subst, subst₂, ◌∙◌, append_assoc}
use Rattle.gs_base.specs.declared.names.Millis.{Millis}
use Rattle.gs_base.specs.declared.rpc.Rpc.{Rpc}
use Rattle.gs_base.specs.Tokens.{Said}
use Rattle.gs_wire.specs.Codec.{codec}
use Rattle.gs_rules.specs.declared.event.Event.{Event}
use Rattle.gs_rules.specs.declared.event.Event.TheVariants.{Shut}
use Rattle.gs_rules.specs.declared.trace.Entry.{Entry}
use Rattle.gs_rules.specs.Peers.{Peer, links_of}
use Rattle.gs_rules.specs.Tables.{Entries, up, up_after}
use Rattle.gs_rules.specs.Rules.{rule_of}
use Rattle.gs_rules.specs.Modes.{Follows, free}
use Rattle.gs_rules.specs.Legal.{Legal}
use Rattle.gs_rules.specs.Saying.{Outgoing, behind_entry, behind_event, out, outgoing, sending_all}
use Rattle.gs_rules.specs.Hearing.{after}
use Rattle.gs_rules.specs.Rounds.{Closing, hears, moment_of}
use Rattle.gs_rules.proofs.Deliveries.{legal_before}
use Rattle.gs_rules.proofs.Handled.{does_on}
use Rattle.gs_rules.proofs.Legality.{legal_newest}
use Rattle.gs_player.specs.Ended.{whole}
use Rattle.gs_player.proofs.Spoken.{rounds_whole, told_more, told_no_more}
use Rattle.gs_player.proofs.Words.{said_in_stays, whole_before}
use Rattle.gs_laws.specs.Fixed.{AllIsSaidByTheEnd, RoundsAreSaidByTheirEnd, first_rounds, shutdown}

-- ---- words

-- rounds that have ended stay as they are
rounds_stay : (r : ℕ) (v w : Said) → whole r v ≡ true → first_rounds r (v ++ w) ≡ first_rounds r v
rounds_stay zero v w h = refl
rounds_stay (suc r) v w h =
    ap₂ (λ (u : Said) (us : List Said). u ∷ us) (said_in_stays r v w h) (rounds_stay r v w (whole_before r v h))

-- ---- a round

pub rounds_said : RoundsAreSaidByTheirEnd
rounds_said seat said r L later refused q h = by (up L q) refl
  where
    by : (b : Bool) → up L q ≡ b → first_rounds r (out codec (later ++ L) q) ≡ first_rounds r (out codec L q)
    by true is_up =
        let more = told_more q L later in
        ap (first_rounds r) more.1 ∙ rounds_stay r (out codec L q) more.0 (rounds_whole seat said r L refused q h is_up)
    by false down = ap (first_rounds r) (told_no_more q L later down)

-- ---- after the last one

pub all_said : AllIsSaidByTheEnd
all_said seat said K L refused q legal plays =
    let p : Peer = seat.peer in
    let at : Millis = moment_of seat Closing in
    let (M, later, opens, does, is) = plays.does in
    let begun = opens.begun in
    let e : Entry = begun.first in
    let on = does_on p at (hears (links_of p) plays.inbound) M L later does in
    let all : L ≡ (on.0 ++ begun.paid) ++ e ∷ K = on.1 ∙ ap (λ (N : Entries). on.0 ++ N) begun.entries ∙ sym (append_assoc on.0 begun.paid (e ∷ K)) in
    let down : up (e ∷ K) q ≡ false = ap (λ (event : Event). up_after q event (up K q)) begun.opened in
    let legally : Legal p (e ∷ K) = legal_before p (on.0 ++ begun.paid) (e ∷ K) (subst (Legal p) all legal) in
    let effects : Follows free (rule_of p K at Shut) tt e.effects tt =
    subst₂ (λ (now : Millis) (event : Event). Follows free (rule_of p K now event) tt e.effects tt) begun.moment begun.opened (legal_newest p e K legally).effects in
    let o : Outgoing = outgoing codec K q in
    let alike : behind_entry codec q o e ≡ behind_entry codec q o (shutdown at) =
    ap₂ (λ (rpcs : List Rpc) (event : Event). behind_event codec q (sending_all codec o rpcs) event) (effects.0.sends q) begun.opened in
    ap (λ (N : Entries). out codec N q) all
    ∙ told_no_more q (e ∷ K) (on.0 ++ begun.paid) down
    ∙ ap (λ (after : Outgoing). (if up K q then after else o).said) alike
