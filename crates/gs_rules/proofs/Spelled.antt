-- What a legal trace says to a neighbour are frames, where it puts no other bytes on the link; joined with what is
-- gathered after them, they say what it sends there.
use Rattle.std.proofs.Common.{◌≡◌, ℕ, Bool, true, false, if◌then◌else◌, List, [], ◌∷◌, ◌++◌, length, map, Option, Some, None, refl, sym, ap, ap₂, subst, ◌∙◌, append_assoc, append-nil, arith, inl, ◌≤◌}
use Rattle.std.specs.Prelude.{IfSome, option_to_list}
use Rattle.std.specs.List.{flat_map, AllByRecursion}
use Rattle.std.proofs.lemmas.Bool.Decides.{nat_tests}
use Rattle.std.proofs.lemmas.Grind.{flat_map-append}
use Rattle.gs_base.specs.declared.names.PeerNo.{PeerNo}
use Rattle.gs_base.specs.declared.rpc.Rpc.{Rpc}
use Rattle.gs_base.specs.declared.control.Control.{Control}
use Rattle.gs_base.specs.Names.{same_peer}
use Rattle.gs_wire.specs.declared.frames.End.TheVariants.{Waits}
use Rattle.gs_wire.specs.Messages.{IsControl, IsPrune, body, longest_body}
use Rattle.gs_wire.specs.Codec.{codec}
use Rattle.gs_wire.specs.Joining.{joined_controls, joined_options, joined_rpc, joined_rpcs, joined_to}
use Rattle.gs_wire.specs.Stream.{IsStream}
use Rattle.gs_wire.proofs.FrameLists.{frame_read}
use Rattle.gs_wire.proofs.RoundTrip.{all-append}
use Rattle.gs_rules.specs.declared.event.Event.{Event}
use Rattle.gs_rules.specs.declared.event.Event.TheVariants.{RoundEnd, Shut}
use Rattle.gs_rules.specs.declared.trace.Entry.{Entry}
use Rattle.gs_rules.specs.Peers.{Peer}
use Rattle.gs_rules.specs.Tables.{Entries, is_lost, lost, up}
use Rattle.gs_rules.specs.Modes.{sent_to}
use Rattle.gs_rules.specs.Legal.{Legal}
use Rattle.gs_rules.specs.Saying.{Byte, EndOf, Close, Said, SaysOnlyFrames, Outgoing, bytes_of, behind_entry, cut_out, frames_of, gather, gathered, is_cut, out, outgoing, raw_to, sending, sending_all, sent, sign}
use Rattle.gs_rules.specs.Hearing.{Spell}
use Rattle.gs_rules.proofs.Fitting.{IsWritten, SendsWritten, AllWritten, legal_written, short_body}
use Rattle.gs_rules.proofs.Handled.{spelled_once}
use Rattle.gs_wire.proofs.JoinedRpcs.{onto_push, to_grouping}

-- ---- bytes

pub bytes_of_append : (w v : Said) → bytes_of (w ++ v) ≡ bytes_of w ++ bytes_of v
bytes_of_append [] v = refl
bytes_of_append (Byte b ∷ w) v = ap (λ (bs : List ℕ). b ∷ bs) (bytes_of_append w v)
bytes_of_append (EndOf r ∷ w) v = bytes_of_append w v
bytes_of_append (Close ∷ w) v = bytes_of_append w v

pub bytes_of_bytes : (bytes : List ℕ) → bytes_of (map Byte bytes) ≡ bytes
bytes_of_bytes [] = refl
bytes_of_bytes (b ∷ bytes) = ap (λ (bs : List ℕ). b ∷ bs) (bytes_of_bytes bytes)

lost_silent : (is : Bool) → bytes_of (if is then Close ∷ [] else []) ≡ []
lost_silent true = refl
lost_silent false = refl

sign_silent : (q : PeerNo) (event : Event) → bytes_of (sign q event) ≡ []
sign_silent q (RoundEnd r) = refl
sign_silent q Shut = refl
sign_silent q other = lost_silent (is_lost q (lost other))

-- ---- frames

-- nothing is a stream of nothing
pub no_stream : IsStream longest_body [] [] [] Waits
no_stream = record { front = []; parts = refl; frames = refl; goes_on = inl (omega arith, tt) }

fits_limit : (rpc : Rpc) → IsWritten rpc → length (body rpc) ≤ longest_body
fits_limit rpc h = let fits = h.0 in grind (arith, nat_tests)

-- frames spell their RPCs, and then a stream waits for more
pub frames_spell : (rpcs : List Rpc) → AllByRecursion IsWritten rpcs → IsStream longest_body (flat_map codec.frame rpcs) rpcs [] Waits
frames_spell [] h = no_stream
frames_spell (rpc ∷ rpcs) h = frame_read longest_body rpc (flat_map codec.frame rpcs) rpcs [] Waits h.0.1 (fits_limit rpc h.0) (frames_spell rpcs h.1)

-- ---- what is sent

received_written : (q : PeerNo) (sends : List (PeerNo × Rpc)) → SendsWritten sends → AllByRecursion IsWritten (sent_to q sends)
received_written q [] all = tt
received_written q (x ∷ sends) all = with_first (same_peer x.0 q) (received_written q sends all.1)
  where
    with_first : (goes : Bool) → AllByRecursion IsWritten (sent_to q sends) → AllByRecursion IsWritten (if goes then x.1 ∷ sent_to q sends else sent_to q sends)
    with_first true rest = (all.0, rest)
    with_first false rest = rest

one_more : (rpcs : List Rpc) (v : Rpc) → AllByRecursion IsWritten rpcs → IsWritten v → AllByRecursion IsWritten (rpcs ++ v ∷ [])
one_more rpcs v all one = all-append IsWritten rpcs (v ∷ []) all (one, tt)

controls_in_memory : (c d : Option Control) → IfSome c IsControl → IfSome d IsControl → IfSome (joined_controls c d) IsControl
controls_in_memory None d h k = k
controls_in_memory (Some c) None h k = h
controls_in_memory (Some c) (Some d) h k = all-append IsPrune c.prune d.prune h k

joined_written : (u v : Rpc) → IsWritten u → IsWritten v → codec.fits (joined_rpc u v) ≡ true → IsWritten (joined_rpc u v)
joined_written u v h k fits =
    (fits, record { body = short_body (joined_rpc u v) fits; control = controls_in_memory u.control v.control h.1.control k.1.control })

-- ---- what is said and gathered

-- What is said are frames of RPCs, and joined with the one that is gathered they say what all of these say.
record AreSpelled (said : Said) (held : Option Rpc) (vs : List Rpc) : Type 0 where
  rpcs : List Rpc
  frames : bytes_of said ≡ flat_map codec.frame rpcs
  written : AllByRecursion IsWritten rpcs
  held_written : IfSome held IsWritten
  all : joined_options (joined_rpcs rpcs) held ≡ joined_rpcs vs

abbrev GoesOut : Outgoing → List Rpc → Type 0
GoesOut o vs = AreSpelled o.said o.gathered vs

-- more is said, and it has no bytes
more_said : (said w : Said) (held : Option Rpc) (vs : List Rpc) → bytes_of w ≡ [] → AreSpelled said held vs → AreSpelled (said ++ w) held vs
more_said said w held vs none before = record {
  rpcs = before.rpcs;
  frames = bytes_of_append said w ∙ ap (λ (bytes : List ℕ). bytes_of said ++ bytes) none ∙ append-nil (bytes_of said) ∙ before.frames;
  written = before.written;
  held_written = before.held_written;
  all = before.all;
}

frame_bytes : (rpcs : List Rpc) → bytes_of (frames_of codec rpcs) ≡ flat_map codec.frame rpcs
frame_bytes rpcs = bytes_of_bytes (flat_map codec.frame rpcs)

-- the frame of what is gathered goes out
one_frame : (said : Said) (u : Rpc) (rpcs : List Rpc) → bytes_of said ≡ flat_map codec.frame rpcs → bytes_of (said ++ frames_of codec (u ∷ [])) ≡ flat_map codec.frame (rpcs ++ u ∷ [])
one_frame said u rpcs frames =
    bytes_of_append said (frames_of codec (u ∷ []))
    ∙ ap₂ (λ (xs ys : List ℕ). xs ++ ys) frames (frame_bytes (u ∷ []))
    ∙ sym (flat_map-append codec.frame rpcs (u ∷ []))

-- what the RPCs that are out say, and one more
one_joined : (rpcs vs : List Rpc) (v : Rpc) → joined_rpcs rpcs ≡ joined_rpcs vs → Some (joined_to (joined_rpcs rpcs) v) ≡ joined_rpcs (vs ++ v ∷ [])
one_joined rpcs vs v same = ap (λ (held : Option Rpc). Some (joined_to held v)) same ∙ sym (onto_push None vs v)

abbrev gathered_if : Bool → Rpc → Rpc → List Rpc × Option Rpc
gathered_if fits u v = if fits then ([], Some (joined_rpc u v)) else (u ∷ [], Some v)

sends_one : (said : Said) (held : Option Rpc) (vs : List Rpc) (v : Rpc) → IsWritten v → AreSpelled said held vs → AreSpelled (said ++ frames_of codec (gather codec held v).0) (gather codec held v).1 (vs ++ v ∷ [])
sends_one said None vs v one before = record {
  rpcs = before.rpcs;
  frames = ap bytes_of (append-nil said) ∙ before.frames;
  written = before.written;
  held_written = one;
  all = one_joined before.rpcs vs v before.all;
}
sends_one said (Some u) vs v one before = by (codec.fits (joined_rpc u v)) refl
  where
    by : (fits : Bool) → codec.fits (joined_rpc u v) ≡ fits → AreSpelled (said ++ frames_of codec (gathered_if fits u v).0) (gathered_if fits u v).1 (vs ++ v ∷ [])
    by true fits = record {
      rpcs = before.rpcs;
      frames = ap bytes_of (append-nil said) ∙ before.frames;
      written = before.written;
      held_written = joined_written u v before.held_written one fits;
      all = ap Some (sym (to_grouping (joined_rpcs before.rpcs) u v))
          ∙ ap (λ (held : Option Rpc). Some (joined_to held v)) before.all
          ∙ sym (onto_push None vs v);
    }
    by false fits = record {
      rpcs = before.rpcs ++ u ∷ [];
      frames = one_frame said u before.rpcs before.frames;
      written = one_more before.rpcs u before.written before.held_written;
      held_written = one;
      all = one_joined (before.rpcs ++ u ∷ []) vs v (onto_push None before.rpcs u ∙ before.all);
    }

sends_all : (o : Outgoing) (vs rpcs : List Rpc) → AllByRecursion IsWritten rpcs → GoesOut o vs → GoesOut (sending_all codec o rpcs) (vs ++ rpcs)
sends_all o vs [] all before = subst (GoesOut o) (sym (append-nil vs)) before
sends_all o vs (v ∷ rpcs) all before =
    subst (GoesOut (sending_all codec o (v ∷ rpcs))) (append_assoc vs (v ∷ []) rpcs) (sends_all (sending codec o v) (vs ++ v ∷ []) rpcs all.1 (sends_one o.said o.gathered vs v all.0 before))

cuts : (said : Said) (held : Option Rpc) (vs : List Rpc) → AreSpelled said held vs → AreSpelled (said ++ frames_of codec (option_to_list held)) None vs
cuts said None vs before = more_said said [] None vs refl before
cuts said (Some u) vs before = record {
  rpcs = before.rpcs ++ u ∷ [];
  frames = one_frame said u before.rpcs before.frames;
  written = one_more before.rpcs u before.written before.held_written;
  held_written = tt;
  all = onto_push None before.rpcs u ∙ before.all;
}

cuts_if : (cut : Bool) (o : Outgoing) (vs : List Rpc) → GoesOut o vs → GoesOut (if cut then cut_out codec o else o) vs
cuts_if true o vs before = cuts o.said o.gathered vs before
cuts_if false o vs before = before

signed : (q : PeerNo) (event : Event) → raw_to q event ≡ [] → bytes_of (map Byte (raw_to q event) ++ sign q event) ≡ []
signed q event none =
    bytes_of_append (map Byte (raw_to q event)) (sign q event)
    ∙ ap₂ (λ (xs ys : List ℕ). xs ++ ys) (bytes_of_bytes (raw_to q event) ∙ none) (sign_silent q event)

goes_after : (q : PeerNo) (o : Outgoing) (vs : List Rpc) (e : Entry) → SendsWritten e.effects.sends → raw_to q e.event ≡ [] → GoesOut o vs → GoesOut (behind_entry codec q o e) (vs ++ sent_to q e.effects.sends)
goes_after q o vs e written none before =
    let sent_now : Outgoing = sending_all codec o (sent_to q e.effects.sends) in
    let cut_now : Outgoing = if is_cut q e.event then cut_out codec sent_now else sent_now in
    more_said cut_now.said (map Byte (raw_to q e.event) ++ sign q e.event) cut_now.gathered (vs ++ sent_to q e.effects.sends) (signed q e.event none) (cuts_if (is_cut q e.event) sent_now (vs ++ sent_to q e.effects.sends) (sends_all o vs (sent_to q e.effects.sends) (received_written q e.effects.sends written) before))

goes_out : (L : Entries) (q : PeerNo) → AllWritten L → SaysOnlyFrames q L → GoesOut (outgoing codec L q) (sent L q)
goes_out [] q all alone = record { rpcs = []; frames = refl; written = tt; held_written = tt; all = refl }
goes_out (e ∷ L) q all alone = by (up L q) (goes_out L q all.1 alone.1)
  where
    by : (is_up : Bool) → GoesOut (outgoing codec L q) (sent L q) → GoesOut (if is_up then behind_entry codec q (outgoing codec L q) e else outgoing codec L q) (if is_up then sent L q ++ sent_to q e.effects.sends else sent L q)
    by false before = before
    by true before = goes_after q (outgoing codec L q) (sent L q) e all.0 alone.0 before

-- ---- what is sent is spelled

-- these RPCs are spelled, and joined with what is gathered they are what is sent
pub sent_is_spelled : (p : Peer) (L : Entries) (q : PeerNo) → Legal p L → SaysOnlyFrames q L → (rpcs : List Rpc) × Spell (bytes_of (out codec L q)) rpcs × (joined_options (joined_rpcs rpcs) (gathered codec L q) ≡ joined_rpcs (sent L q))
sent_is_spelled p L q legal alone =
    let goes = goes_out L q (legal_written p L legal) alone in
    let stream : IsStream longest_body (bytes_of (out codec L q)) goes.rpcs [] Waits =
    subst (λ (bytes : List ℕ). IsStream longest_body bytes goes.rpcs [] Waits) (sym goes.frames) (frames_spell goes.rpcs goes.written) in
    (goes.rpcs, ([], Waits, stream), goes.all)

-- whatever RPCs are spelled
pub spelled_joined : (p : Peer) (L : Entries) (q : PeerNo) (vs : List Rpc) → Legal p L → SaysOnlyFrames q L → Spell (bytes_of (out codec L q)) vs → joined_options (joined_rpcs vs) (gathered codec L q) ≡ joined_rpcs (sent L q)
spelled_joined p L q vs legal alone spell =
    let (rpcs, are, all) = sent_is_spelled p L q legal alone in
    ap (λ (us : List Rpc). joined_options (joined_rpcs us) (gathered codec L q)) (spelled_once (bytes_of (out codec L q)) vs rpcs spell are) ∙ all

-- and nothing is left
pub handled_joined : (p : Peer) (L : Entries) (q : PeerNo) (vs : List Rpc) → Legal p L → SaysOnlyFrames q L → Spell (bytes_of (out codec L q)) vs → gathered codec L q ≡ None → joined_rpcs vs ≡ joined_rpcs (sent L q)
handled_joined p L q vs legal alone spell none =
    ap (joined_options (joined_rpcs vs)) (sym none) ∙ spelled_joined p L q vs legal alone spell
