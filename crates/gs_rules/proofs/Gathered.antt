-- Nothing is gathered after a cut.
use Rattle.std.proofs.Common.{◌≡◌, ℕ, zero, suc, Bool, true, false, ◌||◌, if◌then◌else◌, List, [], ◌∷◌, ◌++◌, None, refl, sym, ap, ◌∙◌, append_assoc, true≢false}
use Rattle.gs_base.specs.declared.names.PeerNo.{PeerNo}
use Rattle.gs_base.specs.Codecs.{Codec}
use Rattle.gs_base.specs.Names.{same_peer}
use Rattle.gs_rules.specs.declared.event.Event.{Event}
use Rattle.gs_rules.specs.declared.event.Event.TheVariants.{RoundEnd, Shut, Own}
use Rattle.gs_plan.specs.declared.plan.Act.TheVariants.{Raw}
use Rattle.gs_rules.specs.declared.trace.Entry.{Entry}
use Rattle.gs_rules.specs.declared.refusal.RefusedLine.{RefusedLine}
use Rattle.gs_rules.specs.Peers.{links_of}
use Rattle.gs_rules.specs.Tables.{Entries, cuts_off, is_lost, is_shut_after, lost, up, up_after}
use Rattle.gs_rules.specs.Modes.{sent_to}
use Rattle.gs_rules.specs.Saying.{Close, Outgoing, Said, behind_entry, cut_out, gathered, is_cut, outgoing, raw_to, sending_all, sign}
use Rattle.gs_rules.specs.Rounds.{AfterRounds, Closing, KeepsRounds, Seat, hears, moment_of}
use Rattle.gs_rules.proofs.Handled.{GoesOn, does_on}
use Rattle.gs_rules.proofs.InOrder.{down_stays}
use Rattle.gs_rules.proofs.RoundEnds.{has_ended}

-- ---- whoever is not up

-- whatever cuts a neighbour off is a cut
cut_off_is_cut : (q : PeerNo) (event : Event) → cuts_off q event ≡ true → is_cut q event ≡ true
cut_off_is_cut q (RoundEnd r) off = refl
cut_off_is_cut q (Own (Raw p bytes)) off = absurd (true≢false (sym off))
cut_off_is_cut q other off = off

-- an event after which q is not up, where it was, cuts it off
was_cut_off : (off : Bool) → (if off then false else true) ≡ false → off ≡ true
was_cut_off true down = refl
was_cut_off false down = absurd (true≢false down)

cut_gathers : (codec : Codec) (cut : Bool) (o : Outgoing) → cut ≡ true → (if cut then cut_out codec o else o).gathered ≡ None
cut_gathers codec true o is = refl
cut_gathers codec false o is = absurd (true≢false (sym is))

after_a_cut : (codec : Codec) (q : PeerNo) (o : Outgoing) (e : Entry) → is_cut q e.event ≡ true → (behind_entry codec q o e).gathered ≡ None
after_a_cut codec q o e is = cut_gathers codec (is_cut q e.event) (sending_all codec o (sent_to q e.effects.sends)) is

pub gathered_down : (codec : Codec) (L : Entries) (q : PeerNo) → up L q ≡ false → gathered codec L q ≡ None
gathered_down codec [] q down = refl
gathered_down codec (e ∷ L) q down = by (up L q) refl (gathered_down codec L q)
  where
    by : (is_up : Bool) → up L q ≡ is_up → (up L q ≡ false → gathered codec L q ≡ None) → gathered codec (e ∷ L) q ≡ None
    by false h before =
        ap (λ (b : Bool). (if b then behind_entry codec q (outgoing codec L q) e else outgoing codec L q).gathered) h ∙ before h
    by true h before =
        let off : cuts_off q e.event ≡ true = was_cut_off (cuts_off q e.event) (sym (ap (up_after q e.event) h) ∙ down) in
        ap (λ (b : Bool). (if b then behind_entry codec q (outgoing codec L q) e else outgoing codec L q).gathered) h
        ∙ after_a_cut codec q (outgoing codec L q) e (cut_off_is_cut q e.event off)

-- whoever is up or not
pub gathered_cut : (codec : Codec) (L : Entries) (e : Entry) (q : PeerNo) → is_cut q e.event ≡ true → gathered codec (e ∷ L) q ≡ None
gathered_cut codec L e q cut = by (up L q) refl
  where
    by : (is_up : Bool) → up L q ≡ is_up → gathered codec (e ∷ L) q ≡ None
    by true h =
        ap (λ (b : Bool). (if b then behind_entry codec q (outgoing codec L q) e else outgoing codec L q).gathered) h
        ∙ after_a_cut codec q (outgoing codec L q) e cut
    by false h =
        ap (λ (b : Bool). (if b then behind_entry codec q (outgoing codec L q) e else outgoing codec L q).gathered) h
        ∙ gathered_down codec L q h

-- ---- what is no cut

-- whoever is not cut off is not lost
not_lost : (shut lost : Bool) → shut || lost ≡ false → lost ≡ false
not_lost true lost none = absurd (true≢false none)
not_lost false lost none = none

close_if_lost : (is : Bool) → is ≡ false → (if is then Close ∷ [] else []) ≡ []
close_if_lost true none = absurd (true≢false none)
close_if_lost false none = refl

pub uncut_sign : (q : PeerNo) (event : Event) → is_cut q event ≡ false → sign q event ≡ []
uncut_sign q (RoundEnd r) none = absurd (true≢false none)
uncut_sign q Shut none = absurd (true≢false none)
uncut_sign q (Own (Raw p bytes)) none = refl
uncut_sign q other none = close_if_lost (is_lost q (lost other)) (not_lost (is_shut_after other false) (is_lost q (lost other)) none)

bytes_if : (mine : Bool) (bytes : List ℕ) → mine ≡ false → (if mine then bytes else []) ≡ []
bytes_if true bytes none = absurd (true≢false none)
bytes_if false bytes none = refl

pub uncut_raw : (q : PeerNo) (event : Event) → is_cut q event ≡ false → raw_to q event ≡ []
uncut_raw q (Own (Raw p bytes)) none = bytes_if (same_peer p q) bytes none
uncut_raw q other none = refl

-- ---- after a round

end_gathers : (codec : Codec) (q : PeerNo) (r : ℕ) (M : Entries) (e : Entry) → e.event ≡ RoundEnd r → gathered codec (e ∷ M) q ≡ None
end_gathers codec q r M e is = by (up M q) refl
  where
    by : (is_up : Bool) → up M q ≡ is_up → gathered codec (e ∷ M) q ≡ None
    by false h =
        ap (λ (b : Bool). (if b then behind_entry codec q (outgoing codec M q) e else outgoing codec M q).gathered) h ∙ gathered_down codec M q h
    by true h =
        ap (λ (b : Bool). (if b then behind_entry codec q (outgoing codec M q) e else outgoing codec M q).gathered) h
        ∙ after_a_cut codec q (outgoing codec M q) e (ap (is_cut q) is)

pub gathered_after_rounds : (codec : Codec) (seat : Seat) (said : PeerNo → Said) (r : ℕ) (L : Entries) (refused : List RefusedLine) (q : PeerNo) → AfterRounds seat said r L refused → gathered codec L q ≡ None
gathered_after_rounds codec seat said zero L refused q played = ap (λ (K : Entries). gathered codec K q) played.0
gathered_after_rounds codec seat said (suc r) L refused q (K, earlier, more, before, plays, is) =
    let ended = has_ended seat said r K L earlier more before plays in
    ap (λ (N : Entries). gathered codec N q) ended.are ∙ end_gathers codec q r ended.before ended.end ended.is_end

-- ---- after the last round

stays_down : (q : PeerNo) (L : Entries) (entries : List Entry) → up L q ≡ false → up (entries ++ L) q ≡ false
stays_down q L [] down = down
stays_down q L (e ∷ entries) down = ap (up_after q e.event) (stays_down q L entries down) ∙ down_stays q e.event

-- nobody is up after a whole life
pub kept_down : (seat : Seat) (said : PeerNo → Said) (L : Entries) (refused : List RefusedLine) (q : PeerNo) → KeepsRounds seat said L refused → up L q ≡ false
kept_down seat said L refused q keeps =
    let plays = keeps.closed in
    let K : Entries = keeps.last in
    let (M, later, opens, does, is) = plays.does in
    let begun = opens.begun in
    let e : Entry = begun.first in
    let on : GoesOn M L = does_on seat.peer (moment_of seat Closing) (hears (links_of seat.peer) plays.inbound) M L later does in
    let all : L ≡ (on.0 ++ begun.paid) ++ e ∷ K = on.1 ∙ ap (λ (N : Entries). on.0 ++ N) begun.entries ∙ sym (append_assoc on.0 begun.paid (e ∷ K)) in
    let down : up (e ∷ K) q ≡ false = ap (λ (event : Event). up_after q event (up K q)) begun.opened in
    ap (λ (N : Entries). up N q) all ∙ stays_down q (e ∷ K) (on.0 ++ begun.paid) down
