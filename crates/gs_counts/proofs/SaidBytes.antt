-- The bytes that are counted of a link are those that a trace says to the neighbour. A legal trace sends nothing that fits
-- no frame.
use Rattle.std.proofs.Common.{◌≡◌, ℕ, ◌+◌, Bool, true, false, if◌then◌else◌, List, [], ◌∷◌, ◌++◌, filter, length, map, Option, refl, sym, ap, ap₂, ◌∙◌, length-append, arith}
use Rattle.std.specs.Prelude.{option_to_list}
use Rattle.std.specs.List.{flat_map}
use Rattle.std.proofs.lemmas.Grind.{flat_map-append}
use Rattle.std.proofs.lemmas.List.Elements.{filter-append}
use Rattle.std.proofs.lemmas.List.Sums.{sum_by-append, sum_by-cons}
use Rattle.gs_base.specs.declared.names.PeerNo.{PeerNo}
use Rattle.gs_base.specs.declared.rpc.Rpc.{Rpc}
use Rattle.gs_base.specs.Names.{same_peer}
use Rattle.gs_wire.specs.Codec.{codec}
use Rattle.gs_wire.specs.Messages.{frame}
use Rattle.gs_plan.specs.declared.plan.Act.{Act}
use Rattle.gs_plan.specs.declared.plan.Act.TheVariants.{Subscribe, Unsubscribe, Publish, Raw, HangUp}
use Rattle.gs_rules.specs.declared.event.Event.{Event}
use Rattle.gs_rules.specs.declared.event.Event.TheVariants.{Heard, Late, Part, BeatBegin, Step, Own, Lost, Decay, RoundEnd, Shut}
use Rattle.gs_rules.specs.declared.trace.Entry.{Entry}
use Rattle.gs_rules.specs.Legal.{Legal}
use Rattle.gs_rules.specs.Peers.{Peer}
use Rattle.gs_rules.specs.Tables.{Entries, is_lost, lost, up}
use Rattle.gs_rules.specs.Saying.{Byte, Close, Said, Outgoing, behind_entry, behind_event, bytes_of, cut_out, frames_of, gather, is_cut, out, outgoing, raw_to, sending, sending_all, sign}
use Rattle.gs_rules.proofs.Fitting.{AllWritten, SendsWritten, legal_written}
use Rattle.gs_rules.proofs.Spelled.{bytes_of_append, bytes_of_bytes}
use Rattle.gs_counts.specs.declared.happening.Happening.{Happening}
use Rattle.gs_counts.specs.declared.happening.Scene.{Scene}
use Rattle.gs_counts.specs.declared.kind.Kind.TheVariants.{BytesSent}
use Rattle.gs_counts.specs.declared.lane.Lane.{Lane}
use Rattle.gs_counts.specs.Happenings.{heard_of, of_peer, on_none}
use Rattle.gs_counts.specs.Kinds.{same_kind}
use Rattle.gs_counts.specs.Lanes.{cut_off, end_happenings, fitting, fitting_to, frame_happenings, frames_out, held_after, lane_happenings, lane_of, lane_sent, let_out, put_out, raw_happenings, raw_out}
use Rattle.gs_counts.specs.Rows.{amount_in, amount_of}
use Rattle.gs_counts.specs.Said.{lane_told}

-- ---- numbers

nothing_more : (n : ℕ) → n + 0 ≡ n
nothing_more n = omega arith

three : (a b c : ℕ) → a + b + c ≡ a + (b + c)
three a b c = omega arith

-- ---- bytes that are counted

abbrev bytes_in : List Happening → ℕ
bytes_in hs = amount_in hs BytesSent

both_bytes : (hs gs : List Happening) → bytes_in (hs ++ gs) ≡ bytes_in hs + bytes_in gs
both_bytes hs gs =
    ap (λ (xs : List Happening). sum xs) (filter-append (λ (h : Happening). same_kind h.kind BytesSent) hs gs)
    ∙ sum_by-append (λ (h : Happening). h.amount) (filter (λ (h : Happening). same_kind h.kind BytesSent) hs) (filter (λ (h : Happening). same_kind h.kind BytesSent) gs)
  where
    sum : List Happening → ℕ
    sum xs = amount_of xs

abbrev frames_length : List Rpc → ℕ
frames_length vs = length (flat_map frame vs)

frames_both : (us vs : List Rpc) → frames_length (us ++ vs) ≡ frames_length us + frames_length vs
frames_both us vs =
    ap (λ (bs : List ℕ). length bs) (flat_map-append frame us vs)
    ∙ length-append (flat_map frame us) (flat_map frame vs)

-- one of them
one_bytes : (s : Scene) (n : ℕ) → amount_of (on_none s BytesSent n ∷ []) ≡ n
one_bytes s n = sum_by-cons (λ (h : Happening). h.amount) (on_none s BytesSent n) [] ∙ nothing_more n

frames_counted : (s : Scene) (vs : List Rpc) → bytes_in (frames_out s vs) ≡ frames_length vs
frames_counted s [] = refl
frames_counted s (v ∷ vs) =
    both_bytes (frame_happenings s (length (frame v))) (frames_out s vs)
    ∙ ap₂ (λ (j k : ℕ). j + k) (one_bytes s (length (frame v))) (frames_counted s vs)
    ∙ sym (length-append (frame v) (flat_map frame vs))

raws_by : (s : Scene) (is : Bool) (bytes : List ℕ) → bytes_in (raw_out s is (length bytes)) ≡ length (if is then bytes else [])
raws_by s true bytes = one_bytes s (length bytes)
raws_by s false bytes = refl

raws_by_act : (s : Scene) (q : PeerNo) (act : Act) → bytes_in (raw_happenings s q (Own act)) ≡ length (raw_to q (Own act))
raws_by_act s q (Raw p bytes) = raws_by s (same_peer p q) bytes
raws_by_act s q (Subscribe t) = refl
raws_by_act s q (Unsubscribe t) = refl
raws_by_act s q (Publish t payload) = refl
raws_by_act s q (HangUp p) = refl

raws_counted : (s : Scene) (q : PeerNo) (event : Event) → bytes_in (raw_happenings s q event) ≡ length (raw_to q event)
raws_counted s q (Own act) = raws_by_act s q act
raws_counted s q (Heard p rpc) = refl
raws_counted s q (Late p rpc) = refl
raws_counted s q (Part p part) = refl
raws_counted s q BeatBegin = refl
raws_counted s q (Step step) = refl
raws_counted s q (Lost p loss) = refl
raws_counted s q Decay = refl
raws_counted s q (RoundEnd r) = refl
raws_counted s q Shut = refl

-- ---- bytes that are said

said_more : (w v : Said) → length (bytes_of (w ++ v)) ≡ length (bytes_of w) + length (bytes_of v)
said_more w v = ap (λ (bs : List ℕ). length bs) (bytes_of_append w v) ∙ length-append (bytes_of w) (bytes_of v)

said_frames : (w : Said) (vs : List Rpc) → length (bytes_of (w ++ frames_of codec vs)) ≡ length (bytes_of w) + frames_length vs
said_frames w vs =
    said_more w (frames_of codec vs)
    ∙ ap (λ (bs : List ℕ). length (bytes_of w) + length bs) (bytes_of_bytes (flat_map frame vs))

said_silent : (w v : Said) → bytes_of v ≡ [] → length (bytes_of (w ++ v)) ≡ length (bytes_of w)
said_silent w v none =
    said_more w v
    ∙ (ap (λ (bs : List ℕ). length (bytes_of w) + length bs) none ∙ nothing_more (length (bytes_of w)))

abbrev said_length : Outgoing → ℕ
said_length o = length (bytes_of o.said)

gathers : (vs : List Rpc) (o : Outgoing) → said_length (sending_all codec o vs) ≡ said_length o + frames_length (let_out o.gathered vs)
gathers [] o = sym (nothing_more (said_length o))
gathers (v ∷ vs) o =
    gathers vs (sending codec o v)
    ∙ (ap (λ (k : ℕ). k + frames_length (let_out (gather codec o.gathered v).1 vs)) (said_frames o.said (gather codec o.gathered v).0)
    ∙ (three (said_length o) (frames_length (gather codec o.gathered v).0) (frames_length (let_out (gather codec o.gathered v).1 vs))
    ∙ ap (λ (k : ℕ). said_length o + k) (sym (frames_both (gather codec o.gathered v).0 (let_out (gather codec o.gathered v).1 vs)))))

pub held_is : (vs : List Rpc) (o : Outgoing) → (sending_all codec o vs).gathered ≡ held_after o.gathered vs
held_is [] o = refl
held_is (v ∷ vs) o = held_is vs (sending codec o v)

cut_length : (o : Outgoing) (is : Bool) → said_length (if is then cut_out codec o else o) ≡ said_length o + frames_length (cut_off is o.gathered)
cut_length o true = said_frames o.said (option_to_list o.gathered)
cut_length o false = sym (nothing_more (said_length o))

lost_silent : (is : Bool) → bytes_of (if is then Close ∷ [] else []) ≡ []
lost_silent true = refl
lost_silent false = refl

pub sign_silent : (q : PeerNo) (event : Event) → bytes_of (sign q event) ≡ []
sign_silent q (RoundEnd r) = refl
sign_silent q Shut = refl
sign_silent q other = lost_silent (is_lost q (lost other))

after_length : (q : PeerNo) (o : Outgoing) (event : Event) → said_length (behind_event codec q o event) ≡ said_length o + frames_length (cut_off (is_cut q event) o.gathered) + length (raw_to q event)
after_length q o event =
    said_more (if is_cut q event then cut_out codec o else o).said (map Byte (raw_to q event) ++ sign q event)
    ∙ ap₂ (λ (j k : ℕ). j + k) (cut_length o (is_cut q event))
    (said_silent (map Byte (raw_to q event)) (sign q event) (sign_silent q event)
    ∙ ap (λ (bs : List ℕ). length bs) (bytes_of_bytes (raw_to q event)))

-- ---- an entry

module _ (s : Scene) (q : PeerNo) (o : Outgoing) (e : Entry) where
  abbrev vs : List Rpc
  vs = fitting_to q e.effects.sends

  abbrev full : ℕ
  full = frames_length (let_out o.gathered vs)

  abbrev cut : ℕ
  cut = frames_length (cut_off (is_cut q e.event) (held_after o.gathered vs))

  abbrev raw : ℕ
  raw = length (raw_to q e.event)

  abbrev lane : Lane
  lane = record { to = q; gathered = o.gathered; is_open = true }

  counted : bytes_in (put_out s lane e) ≡ full + (cut + raw)
  counted =
      both_bytes (frames_out s (let_out o.gathered vs)) (end_happenings s (lane_sent lane vs) e.event)
      ∙ ap₂ (λ (j k : ℕ). j + k) (frames_counted s (let_out o.gathered vs))
      (both_bytes (frames_out s (cut_off (is_cut q e.event) (held_after o.gathered vs))) (raw_happenings s q e.event)
      ∙ ap₂ (λ (j k : ℕ). j + k) (frames_counted s (cut_off (is_cut q e.event) (held_after o.gathered vs))) (raws_counted s q e.event))

  said : said_length (behind_entry codec q o (fitting e)) ≡ said_length o + full + cut + raw
  said =
      after_length q (sending_all codec o vs) e.event
      ∙ ap₂ (λ (j k : ℕ). j + k + raw) (gathers vs o)
      (ap (λ (held : Option Rpc). frames_length (cut_off (is_cut q e.event) held)) (held_is vs o))

  joined : (a b c d : ℕ) → a + (b + (c + d)) ≡ a + b + c + d
  joined a b c d = omega arith

  pub entry_said : (n : ℕ) → n ≡ said_length o → n + bytes_in (put_out s lane e) ≡ said_length (behind_entry codec q o (fitting e))
  entry_said n is =
      ap₂ (λ (j k : ℕ). j + k) is counted
      ∙ (joined (said_length o) full cut raw
      ∙ sym said)

-- ---- a trace

step : (p q : PeerNo) (o : Outgoing) (e : Entry) (n : ℕ) (b : Bool) → n ≡ said_length o → n + bytes_in (lane_happenings (of_peer e.at p) (record { to = q; gathered = o.gathered; is_open = b }) e) ≡ said_length (if b then behind_entry codec q o (fitting e) else o)
step p q o e n true is = entry_said (heard_of (of_peer e.at p) q) q o e n is
step p q o e n false is = nothing_more n ∙ is

pub counted_is_said : (p q : PeerNo) (L : Entries) → amount_in (lane_told p q L) BytesSent ≡ length (bytes_of (out codec (map fitting L) q))
counted_is_said p q [] = refl
counted_is_said p q (e ∷ L) =
    both_bytes (lane_told p q L) (lane_happenings (of_peer e.at p) (lane_of L q) e)
    ∙ step p q (outgoing codec (map fitting L) q) e (bytes_in (lane_told p q L)) (up (map fitting L) q) (counted_is_said p q L)

-- ---- what fits

sends_stay : (sends : List (PeerNo × Rpc)) → SendsWritten sends → filter (λ x. codec.fits x.1) sends ≡ sends
sends_stay [] fit = refl
sends_stay (x ∷ sends) fit = by (codec.fits x.1) fit.0.0 (sends_stay sends fit.1)
  where
    by : (b : Bool) → b ≡ true → filter (λ y. codec.fits y.1) sends ≡ sends → (if b then x ∷ filter (λ y. codec.fits y.1) sends else filter (λ y. codec.fits y.1) sends) ≡ x ∷ sends
    by true is rest = ap (λ (xs : List (PeerNo × Rpc)). x ∷ xs) rest
    by false is rest = let wrong : false ≡ true = is in cc

entry_stays : (e : Entry) → SendsWritten e.effects.sends → fitting e ≡ e
entry_stays e fit = ap (λ (sends : List (PeerNo × Rpc)). record e { effects = record e.effects { sends = sends } }) (sends_stay e.effects.sends fit)

all_stay : (L : Entries) → AllWritten L → map fitting L ≡ L
all_stay [] fit = refl
all_stay (e ∷ L) fit = ap₂ (λ (x : Entry) (xs : Entries). x ∷ xs) (entry_stays e fit.0) (all_stay L fit.1)

pub legal_fits : (p : Peer) (L : Entries) → Legal p L → map fitting L ≡ L
legal_fits p L legal = all_stay L (legal_written p L legal)
