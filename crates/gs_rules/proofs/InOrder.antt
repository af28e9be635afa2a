-- What a trace says to a neighbour goes on with each entry, and nothing follows a close.
use Rattle.std.proofs.Common.{◌≡◌, ℕ, Bool, true, false, if◌then◌else◌, List, [], ◌∷◌, ◌++◌, map, refl, sym, ap, subst, ◌∙◌, append_assoc, append-nil, ◌⊎◌, inl, inr, true≢false}
use Rattle.std.specs.Prelude.{option_to_list}
use Rattle.std.specs.List.{flat_map}
use Rattle.std.proofs.lemmas.List.{map-append}
use Rattle.gs_base.specs.declared.names.PeerNo.{PeerNo}
use Rattle.gs_base.specs.declared.rpc.Rpc.{Rpc}
use Rattle.gs_base.specs.Codecs.{Codec}
use Rattle.gs_rules.specs.declared.event.Event.{Event}
use Rattle.gs_rules.specs.declared.event.Event.TheVariants.{RoundEnd, Shut}
use Rattle.gs_rules.specs.declared.trace.Entry.{Entry}
use Rattle.gs_rules.specs.Tables.{Entries, cuts_off, is_lost, lost, up_after, up}
use Rattle.gs_rules.specs.Modes.{sent_to}
use Rattle.gs_rules.specs.Saying.{Byte, EndOf, Close, Said, Outgoing, behind_entry, cut_out, gather, is_cut, out, outgoing, raw_to, sending, sending_all, sign}
use Rattle.gs_rules.specs.Hearing.{closes}

-- ---- what is said goes on

-- after what was said come bytes
abbrev AddsBytes : Outgoing → Outgoing → Type 0
AddsBytes o p = (bytes : List ℕ) × (p.said ≡ o.said ++ map Byte bytes)

adds_none : (o : Outgoing) → AddsBytes o o
adds_none o = ([], sym (append-nil o.said))

adds_further : (o p r : Outgoing) → AddsBytes o p → AddsBytes p r → AddsBytes o r
adds_further o p r (first, h) (more, k) =
    let both : map Byte first ++ map Byte more ≡ map Byte (first ++ more) = sym (map-append Byte first more) in
    (first ++ more, k ∙ ap (λ (w : Said). w ++ map Byte more) h ∙ append_assoc o.said (map Byte first) (map Byte more) ∙ ap (λ (w : Said). o.said ++ w) both)

sends_add : (codec : Codec) (o : Outgoing) (rpcs : List Rpc) → AddsBytes o (sending_all codec o rpcs)
sends_add codec o [] = adds_none o
sends_add codec o (v ∷ rpcs) =
    adds_further o (sending codec o v) (sending_all codec o (v ∷ rpcs)) (flat_map codec.frame (gather codec o.gathered v).0, refl) (sends_add codec (sending codec o v) rpcs)

cut_adds : (codec : Codec) (cut : Bool) (o : Outgoing) → AddsBytes o (if cut then cut_out codec o else o)
cut_adds codec true o = (flat_map codec.frame (option_to_list o.gathered), refl)
cut_adds codec false o = adds_none o

-- An entry says bytes, and then its sign.
pub entry_says : (codec : Codec) (q : PeerNo) (o : Outgoing) (e : Entry) → (bytes : List ℕ) × ((behind_entry codec q o e).said ≡ o.said ++ (map Byte bytes ++ sign q e.event))
entry_says codec q o e =
    let sent_now : Outgoing = sending_all codec o (sent_to q e.effects.sends) in
    let cut_now : Outgoing = if is_cut q e.event then cut_out codec sent_now else sent_now in
    let (bytes, is) = adds_further o sent_now cut_now (sends_add codec o (sent_to q e.effects.sends)) (cut_adds codec (is_cut q e.event) sent_now) in
    let raw : Said = map Byte (raw_to q e.event) in
    let s : Said = sign q e.event in (
      bytes ++ raw_to q e.event,
      ap (λ (w : Said). w ++ (raw ++ s)) is
          ∙ append_assoc o.said (map Byte bytes) (raw ++ s)
          ∙ ap (λ (w : Said). o.said ++ w) (sym (append_assoc (map Byte bytes) raw s) ∙ ap (λ (w : Said). w ++ s) (sym (map-append Byte bytes (raw_to q e.event)))),
    )

-- one entry more takes nothing back
pub out_stays : (codec : Codec) (L : Entries) (e : Entry) (q : PeerNo) → (more : Said) × (out codec (e ∷ L) q ≡ out codec L q ++ more)
out_stays codec L e q = by (up L q)
  where
    by : (is_up : Bool) → (more : Said) × ((if is_up then behind_entry codec q (outgoing codec L q) e else outgoing codec L q).said ≡ out codec L q ++ more)
    by false = ([], sym (append-nil (out codec L q)))
    by true = let (bytes, is) = entry_says codec q (outgoing codec L q) e in (map Byte bytes ++ sign q e.event, is)

-- ---- a close

closes_append : (w v : Said) → closes w ≡ false → closes (w ++ v) ≡ closes v
closes_append [] v h = refl
closes_append (Byte b ∷ w) v h = closes_append w v h
closes_append (EndOf r ∷ w) v h = closes_append w v h
closes_append (Close ∷ w) v h = absurd cc

bytes_open : (bytes : List ℕ) → closes (map Byte bytes) ≡ false
bytes_open [] = refl
bytes_open (b ∷ bytes) = bytes_open bytes

-- nothing comes after a close
abbrev EndsByClose : Said → Type 0
EndsByClose w = (before behind : Said) → w ≡ before ++ Close ∷ behind → behind ≡ []

split_closes : (before behind : Said) → closes (before ++ Close ∷ behind) ≡ true
split_closes [] behind = refl
split_closes (Byte b ∷ before) behind = split_closes before behind
split_closes (EndOf r ∷ before) behind = split_closes before behind
split_closes (Close ∷ before) behind = refl

-- without a close there is nothing to show
open_ends : (w : Said) → closes w ≡ false → EndsByClose w
open_ends w none before behind is = absurd (true≢false (sym (ap closes is ∙ split_closes before behind) ∙ none))

-- one close, and that last
close_ends : (w : Said) → closes w ≡ false → EndsByClose (w ++ Close ∷ [])
close_ends [] none [] behind is = cc
close_ends [] none (t ∷ []) behind is = absurd cc
close_ends [] none (t ∷ u ∷ before) behind is = absurd cc
close_ends (Byte b ∷ w) none [] behind is = absurd cc
close_ends (EndOf r ∷ w) none [] behind is = absurd cc
close_ends (Close ∷ w) none before behind is = absurd cc
close_ends (Byte b ∷ w) none (t ∷ before) behind is = close_ends w none before behind cc
close_ends (EndOf r ∷ w) none (t ∷ before) behind is = close_ends w none before behind cc

-- what a trace says to q, by whether q is up
record SaysInOrder (codec : Codec) (L : Entries) (q : PeerNo) : Type 0 where
  open_while_up : up L q ≡ true → closes (out codec L q) ≡ false
  ends : EndsByClose (out codec L q)

-- an event closes, and q isn't up after it; or it doesn't close
abbrev ClosesOrNot : PeerNo → Event → Type 0
ClosesOrNot q event = ((sign q event ≡ Close ∷ []) × (up_after q event true ≡ false)) ⊎ (closes (sign q event) ≡ false)

lost_closes : (is : Bool) → (((if is then Close ∷ [] else []) ≡ Close ∷ []) × ((if is then false else true) ≡ false)) ⊎ (closes (if is then Close ∷ [] else []) ≡ false)
lost_closes true = inl (refl, refl)
lost_closes false = inr refl

closes_or_not : (q : PeerNo) (event : Event) → ClosesOrNot q event
closes_or_not q (RoundEnd r) = inr refl
closes_or_not q Shut = inl (refl, refl)
closes_or_not q other = lost_closes (is_lost q (lost other))

ended_stays : (is : Bool) → (if is then false else false) ≡ false
ended_stays true = refl
ended_stays false = refl

pub down_stays : (q : PeerNo) (event : Event) → up_after q event false ≡ false
down_stays q event = ended_stays (cuts_off q event)

never : (b : Bool) → b ≡ false → b ≡ true → ⊥
never true h k = absurd cc
never false h k = absurd cc

in_order : (codec : Codec) (L : Entries) (q : PeerNo) → SaysInOrder codec L q
in_order codec [] q = record { open_while_up = λ h. refl; ends = open_ends [] refl }
in_order codec (e ∷ L) q = by (up L q) refl (in_order codec L q)
  where
    by : (is_up : Bool) → up L q ≡ is_up → SaysInOrder codec L q → SaysInOrder codec (e ∷ L) q
    by false h before = record {
      open_while_up = λ k. absurd (never (up_after q e.event (up L q)) (ap (up_after q e.event) h ∙ down_stays q e.event) k);
      ends = subst EndsByClose (sym (ap (λ (b : Bool). (if b then behind_entry codec q (outgoing codec L q) e else outgoing codec L q).said) h)) before.ends;
    }
    by true h before =
        let (bytes, is) = entry_says codec q (outgoing codec L q) e in
        let mine : Said = map Byte bytes in
        let all : out codec (e ∷ L) q ≡ out codec L q ++ (mine ++ sign q e.event) = ap (λ (b : Bool). (if b then behind_entry codec q (outgoing codec L q) e else outgoing codec L q).said) h ∙ is in
        let open_before : closes (out codec L q ++ mine) ≡ false = closes_append (out codec L q) mine (before.open_while_up h) ∙ bytes_open bytes in
        let parted : out codec (e ∷ L) q ≡ (out codec L q ++ mine) ++ sign q e.event = all ∙ sym (append_assoc (out codec L q) mine (sign q e.event)) in
        elim (closes_or_not q e.event) [
          | inl closed ↦ record {
            open_while_up = λ k. absurd (never (up_after q e.event (up L q)) (ap (up_after q e.event) h ∙ closed.1) k);
            ends = subst EndsByClose (sym (parted ∙ ap (λ (w : Said). (out codec L q ++ mine) ++ w) closed.0)) (close_ends (out codec L q ++ mine) open_before);
          }
          | inr still ↦ let whole : closes (out codec (e ∷ L) q) ≡ false = ap closes parted ∙ closes_append (out codec L q ++ mine) (sign q e.event) open_before ∙ still in
              record { open_while_up = λ k. whole; ends = open_ends (out codec (e ∷ L) q) whole }
        ]

pub nothing_after : (codec : Codec) (L : Entries) (q : PeerNo) (before behind : Said) → out codec L q ≡ before ++ Close ∷ behind → behind ≡ []
nothing_after codec L q before behind is = (in_order codec L q).ends before behind is
