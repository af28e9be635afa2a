-- What is to go out after entries, as the outboxes are told it.
use Rattle.std.proofs.Common.{◌≡◌, ℕ, Bool, true, false, if◌then◌else◌, List, [], ◌∷◌, ◌++◌, length, map, drop, reverse, Option, refl, sym, ap, ap₂, subst, ◌∙◌, append_assoc}
use Rattle.std.specs.List.{AllByRecursion}
use Rattle.std.specs.Prelude.{option_to_list}
use Rattle.std.proofs.lemmas.List.{reverse-reverse}
use Rattle.gs_base.specs.declared.names.PeerNo.{PeerNo}
use Rattle.gs_base.specs.declared.rpc.Rpc.{Rpc}
use Rattle.gs_base.specs.Codecs.{Codec}
use Rattle.gs_base.specs.Tokens.{Byte, Said}
use Rattle.gs_wire.specs.Codec.{codec}
use Rattle.gs_rules.specs.declared.trace.Entry.{Entry}
use Rattle.gs_rules.specs.declared.event.Event.{Event}
use Rattle.gs_rules.specs.Modes.{sent_to}
use Rattle.gs_rules.specs.Tables.{Entries, up, up_after}
use Rattle.gs_rules.specs.Saying.{Outgoing, behind_entry, behind_event, cut_out, frames_of, gather, is_cut, outgoing, raw_to, saying, sending, sending_all, sign}
use Rattle.gs_player.proofs.Since.{next_first, since}
use Rattle.gs_peer.specs.declared.outboxes.Outboxes.{Outboxes}
use Rattle.gs_peer.specs.Kept.{BoxKept}
use Rattle.gs_peer.specs.Outboxes.{after_entries, is_open, opens_after, outgoing_in}

-- ---- entries after a trace

up_after_entries : (K : Entries) (q : PeerNo) (es : List Entry) → up (reverse es ++ K) q ≡ opens_after q (up K q) es
up_after_entries K q [] = refl
up_after_entries K q (e ∷ es) = ap (λ (L : Entries). up L q) (next_first K e es) ∙ up_after_entries (e ∷ K) q es

outgoing_after : (K : Entries) (q : PeerNo) (es : List Entry) → outgoing codec (reverse es ++ K) q ≡ after_entries q (up K q) (outgoing codec K q) es
outgoing_after K q [] = refl
outgoing_after K q (e ∷ es) = ap (λ (L : Entries). outgoing codec L q) (next_first K e es) ∙ outgoing_after (e ∷ K) q es

-- ---- what is said ahead of all

-- the same, where this was said before
abbrev pub ahead : Said → Outgoing → Outgoing
ahead w o = record { said = w ++ o.said; gathered = o.gathered }

abbrev with_said : Outgoing → Said → Outgoing
with_said o v = record { said = v; gathered = o.gathered }

saying_ahead : (w : Said) (o : Outgoing) (v : Said) → saying (ahead w o) v ≡ ahead w (saying o v)
saying_ahead w o v = ap (with_said o) (append_assoc w o.said v)

sending_ahead : (c : Codec) (w : Said) (o : Outgoing) (v : Rpc) → sending c (ahead w o) v ≡ ahead w (sending c o v)
sending_ahead c w o v = ap (with_said (sending c o v)) (append_assoc w o.said (frames_of c (gather c o.gathered v).0))

all_ahead : (c : Codec) (w : Said) (o : Outgoing) (vs : List Rpc) → sending_all c (ahead w o) vs ≡ ahead w (sending_all c o vs)
all_ahead c w o [] = refl
all_ahead c w o (v ∷ vs) = ap (λ (p : Outgoing). sending_all c p vs) (sending_ahead c w o v) ∙ all_ahead c w (sending c o v) vs

cut_ahead : (c : Codec) (w : Said) (o : Outgoing) (cuts : Bool) → (if cuts then cut_out c (ahead w o) else ahead w o) ≡ ahead w (if cuts then cut_out c o else o)
cut_ahead c w o true = ap (with_said (cut_out c o)) (append_assoc w o.said (frames_of c (option_to_list o.gathered)))
cut_ahead c w o false = refl

event_ahead : (c : Codec) (q : PeerNo) (w : Said) (o : Outgoing) (event : Event) → behind_event c q (ahead w o) event ≡ ahead w (behind_event c q o event)
event_ahead c q w o event =
    let v : Said = map Byte (raw_to q event) ++ sign q event in
    ap (λ (p : Outgoing). saying p v) (cut_ahead c w o (is_cut q event))
    ∙ saying_ahead w (if is_cut q event then cut_out c o else o) v

entry_ahead : (q : PeerNo) (may : Bool) (w : Said) (o : Outgoing) (e : Entry) → (if may then behind_entry codec q (ahead w o) e else ahead w o) ≡ ahead w (if may then behind_entry codec q o e else o)
entry_ahead q true w o e =
    ap (λ (p : Outgoing). behind_event codec q p e.event) (all_ahead codec w o (sent_to q e.effects.sends))
    ∙ event_ahead codec q w (sending_all codec o (sent_to q e.effects.sends)) e.event
entry_ahead q false w o e = refl

entries_ahead : (q : PeerNo) (may : Bool) (w : Said) (o : Outgoing) (es : List Entry) → after_entries q may (ahead w o) es ≡ ahead w (after_entries q may o es)
entries_ahead q may w o [] = refl
entries_ahead q may w o (e ∷ es) =
    ap (λ (p : Outgoing). after_entries q (up_after q e.event may) p es) (entry_ahead q may w o e)
    ∙ entries_ahead q (up_after q e.event may) w (if may then behind_entry codec q o e else o) es

-- ---- an outbox that is told them

abbrev goes_out : Said → Option Rpc → Outgoing
goes_out said held = record { said = said; gathered = held }

box_told : (K : Entries) (q : PeerNo) (es : List Entry) (sent : Said) (old new : Outboxes)
    → BoxKept K sent old q
    → outgoing_in new q ≡ after_entries q (is_open old q) (outgoing_in old q) es
    → is_open new q ≡ opens_after q (is_open old q) es
    → BoxKept (reverse es ++ K) sent new q
box_told K q es sent old new k told opens =
    let whole : ahead sent (outgoing_in new q) ≡ outgoing codec (reverse es ++ K) q =
    ap (ahead sent) told
    ∙ sym (entries_ahead q (is_open old q) sent (outgoing_in old q) es)
    ∙ ap₂ (λ (may : Bool) (o : Outgoing). after_entries q may o es) k.is_open (ap₂ goes_out k.says k.gathers)
    ∙ sym (outgoing_after K q es) in
    record {
      is_open = opens ∙ ap (λ (may : Bool). opens_after q may es) k.is_open ∙ sym (up_after_entries K q es);
      says = ap (λ (o : Outgoing). o.said) whole;
      gathers = ap (λ (o : Outgoing). o.gathered) whole;
    }

pub boxes_told : (K L : Entries) (es : List Entry) (sent : PeerNo → Said) (old new : Outboxes) (qs : List PeerNo)
    → L ≡ reverse es ++ K
    → ((q : PeerNo) → outgoing_in new q ≡ after_entries q (is_open old q) (outgoing_in old q) es)
    → ((q : PeerNo) → is_open new q ≡ opens_after q (is_open old q) es)
    → AllByRecursion (λ q. BoxKept K (sent q) old q) qs
    → AllByRecursion (λ q. BoxKept L (sent q) new q) qs
boxes_told K L es sent old new [] is told opens k = tt
boxes_told K L es sent old new (q ∷ qs) is told opens k =
    (subst (λ (M : Entries). BoxKept M (sent q) new q) (sym is) (box_told K q es (sent q) old new k.0 (told q) (opens q)), boxes_told K L es sent old new qs is told opens k.1)

-- ---- told by a router's trace

pub tells : (told : ℕ) (all slice : List Entry) (L : Entries) (old new : Outboxes)
    → reverse all ≡ L
    → slice ≡ drop told all
    → ((q : PeerNo) → outgoing_in new q ≡ after_entries q (is_open old q) (outgoing_in old q) slice)
    → ((q : PeerNo) → is_open new q ≡ opens_after q (is_open old q) slice)
    → (K : Entries) (sent : PeerNo → Said) (qs : List PeerNo)
    → length K ≡ told
    → (entries : List Entry) × (L ≡ entries ++ K)
    → AllByRecursion (λ q. BoxKept K (sent q) old q) qs
    → AllByRecursion (λ q. BoxKept L (sent q) new q) qs
tells told all slice L old new is cut told_all opens K sent qs counted (es, added) k =
    let mine : slice ≡ reverse es = cut ∙ since told all es K L is added counted in
    boxes_told K L slice sent old new qs (added ∙ ap (λ (xs : List Entry). xs ++ K) (sym (ap reverse mine ∙ reverse-reverse es))) told_all opens k
