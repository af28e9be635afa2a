-- The frames that go out to a neighbour: they are counted, and what a trace says to it are their bytes.
use Rattle.std.proofs.Common.{◌≡◌, ℕ, Bool, true, false, if◌then◌else◌, List, [], ◌∷◌, ◌++◌, filter, map, Option, None, Some, refl, sym, ap, ap₂, subst, ◌∙◌, append_assoc, append-nil}
use Rattle.std.specs.Prelude.{IfSome, option_to_list}
use Rattle.std.specs.List.{flat_map, AllByRecursion}
use Rattle.std.proofs.lemmas.Grind.{flat_map-append}
use Rattle.gs_base.specs.declared.names.PeerNo.{PeerNo}
use Rattle.gs_base.specs.declared.control.Control.{Control}
use Rattle.gs_base.specs.declared.rpc.Rpc.{Rpc}
use Rattle.gs_base.specs.Names.{same_peer}
use Rattle.gs_wire.specs.declared.frames.End.TheVariants.{Waits}
use Rattle.gs_wire.specs.Codec.{codec}
use Rattle.gs_wire.specs.Joining.{joined_controls, joined_rpc}
use Rattle.gs_wire.specs.Messages.{IsControl, IsPrune, frame, longest_body}
use Rattle.gs_wire.specs.Stream.{IsStream}
use Rattle.gs_wire.proofs.RoundTrip.{all-append}
use Rattle.gs_rules.specs.declared.event.Event.{Event}
use Rattle.gs_rules.specs.declared.trace.Entry.{Entry}
use Rattle.gs_rules.specs.Hearing.{Spell}
use Rattle.gs_rules.specs.Legal.{Legal}
use Rattle.gs_rules.specs.Modes.{sent_to}
use Rattle.gs_rules.specs.Peers.{Peer}
use Rattle.gs_rules.specs.Saying.{Byte, Said, Outgoing, SaysOnlyFrames, behind_entry, behind_event, bytes_of, cut_out, frames_of, gather, is_cut, out, outgoing, raw_to, sending, sending_all, sign}
use Rattle.gs_rules.specs.Tables.{Entries, up}
use Rattle.gs_rules.proofs.Fitting.{AllWritten, IsWritten, SendsWritten, legal_written, short_body}
use Rattle.gs_rules.proofs.Handled.{spelled_once}
use Rattle.gs_rules.proofs.Spelled.{bytes_of_append, bytes_of_bytes, frames_spell}
use Rattle.gs_counts.specs.declared.lane.Lane.{Lane}
use Rattle.gs_counts.specs.Lanes.{cut_off, fitting, fitting_to, held_after, lane_after, lane_behind, lane_of, lane_sent, let_out}
use Rattle.gs_counts.proofs.Lanes.{lane_goes_on}
use Rattle.gs_counts.proofs.SaidBytes.{held_is, legal_fits, sign_silent}

-- the RPCs that an entry puts out over an open lane, each as one frame
abbrev pub frames_by : Lane → Entry → List Rpc
frames_by l e =
    let_out l.gathered (fitting_to l.to e.effects.sends)
    ++ cut_off (is_cut l.to e.event) (held_after l.gathered (fitting_to l.to e.effects.sends))

abbrev pub frames_over : Lane → Entry → List Rpc
frames_over l e = if l.is_open then frames_by l e else []

-- those that a trace puts out to a neighbour, in order
abbrev pub framed : Entries → PeerNo → List Rpc
framed [] q = []
framed (e ∷ L) q = framed L q ++ frames_over (lane_of L q) e

-- ---- their bytes

abbrev bytes : List Rpc → List ℕ
bytes vs = flat_map frame vs

bytes_both : (us vs : List Rpc) → bytes (us ++ vs) ≡ bytes us ++ bytes vs
bytes_both us vs = flat_map-append frame us vs

said_frames : (w : Said) (vs : List Rpc) → bytes_of (w ++ frames_of codec vs) ≡ bytes_of w ++ bytes vs
said_frames w vs =
    bytes_of_append w (frames_of codec vs) ∙ ap (λ (bs : List ℕ). bytes_of w ++ bs) (bytes_of_bytes (flat_map frame vs))

sends_said : (vs : List Rpc) (o : Outgoing) → bytes_of (sending_all codec o vs).said ≡ bytes_of o.said ++ bytes (let_out o.gathered vs)
sends_said [] o = sym (append-nil (bytes_of o.said))
sends_said (v ∷ vs) o =
    let full : List Rpc = (gather codec o.gathered v).0 in
    let later : List Rpc = let_out (gather codec o.gathered v).1 vs in
    sends_said vs (sending codec o v)
    ∙ ap (λ (bs : List ℕ). bs ++ bytes later) (said_frames o.said full)
    ∙ append_assoc (bytes_of o.said) (bytes full) (bytes later)
    ∙ ap (λ (bs : List ℕ). bytes_of o.said ++ bs) (sym (bytes_both full later))

cut_said : (o : Outgoing) (is : Bool) → bytes_of (if is then cut_out codec o else o).said ≡ bytes_of o.said ++ bytes (cut_off is o.gathered)
cut_said o true = said_frames o.said (option_to_list o.gathered)
cut_said o false = sym (append-nil (bytes_of o.said))

silent : (q : PeerNo) (event : Event) → raw_to q event ≡ [] → bytes_of (map Byte (raw_to q event) ++ sign q event) ≡ []
silent q event none =
    bytes_of_append (map Byte (raw_to q event)) (sign q event)
    ∙ ap₂ (λ (bs cs : List ℕ). bs ++ cs) (bytes_of_bytes (raw_to q event) ∙ none) (sign_silent q event)

event_said : (q : PeerNo) (o : Outgoing) (event : Event) → raw_to q event ≡ [] → bytes_of (behind_event codec q o event).said ≡ bytes_of o.said ++ bytes (cut_off (is_cut q event) o.gathered)
event_said q o event none =
    bytes_of_append (if is_cut q event then cut_out codec o else o).said (map Byte (raw_to q event) ++ sign q event)
    ∙ ap₂ (λ (bs cs : List ℕ). bs ++ cs) (cut_said o (is_cut q event)) (silent q event none)
    ∙ append-nil (bytes_of o.said ++ bytes (cut_off (is_cut q event) o.gathered))

entry_said : (q : PeerNo) (o : Outgoing) (e : Entry) → raw_to q e.event ≡ [] → bytes_of (behind_entry codec q o (fitting e)).said ≡ bytes_of o.said ++ bytes (frames_by (record { to = q; gathered = o.gathered; is_open = true }) e)
entry_said q o e none =
    let vs : List Rpc = fitting_to q e.effects.sends in
    let full : List Rpc = let_out o.gathered vs in
    let cut : List Rpc = cut_off (is_cut q e.event) (held_after o.gathered vs) in
    event_said q (sending_all codec o vs) e.event none
    ∙ ap₂ (λ (bs : List ℕ) (held : Option Rpc). bs ++ bytes (cut_off (is_cut q e.event) held)) (sends_said vs o) (held_is vs o)
    ∙ append_assoc (bytes_of o.said) (bytes full) (bytes cut)
    ∙ ap (λ (bs : List ℕ). bytes_of o.said ++ bs) (sym (bytes_both full cut))

framed_said : (L : Entries) (q : PeerNo) → SaysOnlyFrames q L → bytes_of (out codec (map fitting L) q) ≡ bytes (framed L q)
framed_said [] q quiet = refl
framed_said (e ∷ L) q quiet =
    by (up (map fitting L) q)
    ∙ ap (λ (bs : List ℕ). bs ++ bytes (frames_over (lane_of L q) e)) (framed_said L q quiet.1)
    ∙ sym (bytes_both (framed L q) (frames_over (lane_of L q) e))
  where
    o : Outgoing
    o = outgoing codec (map fitting L) q

    by : (b : Bool) → bytes_of (if b then behind_entry codec q o (fitting e) else o).said ≡ bytes_of o.said ++ bytes (frames_over (record { to = q; gathered = o.gathered; is_open = b }) e)
    by true = entry_said q o e quiet.0
    by false = sym (append-nil (bytes_of o.said))

-- ---- they are read back

controls_written : (c d : Option Control) → IfSome c IsControl → IfSome d IsControl → IfSome (joined_controls c d) IsControl
controls_written None d h k = k
controls_written (Some c) None h k = h
controls_written (Some c) (Some d) h k = all-append IsPrune c.prune d.prune h k

joined_written : (u v : Rpc) → IsWritten u → IsWritten v → codec.fits (joined_rpc u v) ≡ true → IsWritten (joined_rpc u v)
joined_written u v h k fits =
    (fits, record { body = short_body (joined_rpc u v) fits; control = controls_written u.control v.control h.1.control k.1.control })

-- these go out, and this is held
abbrev AreWritten : List Rpc → Option Rpc → Type 0
AreWritten vs held = AllByRecursion IsWritten vs × IfSome held IsWritten

abbrev gathered_if : Bool → Rpc → Rpc → List Rpc × Option Rpc
gathered_if fits u v = if fits then ([], Some (joined_rpc u v)) else (u ∷ [], Some v)

gather_written : (held : Option Rpc) (v : Rpc) → IfSome held IsWritten → IsWritten v → AreWritten (gather codec held v).0 (gather codec held v).1
gather_written None v before one = (tt, one)
gather_written (Some u) v before one = by (codec.fits (joined_rpc u v)) refl
  where
    by : (b : Bool) → codec.fits (joined_rpc u v) ≡ b → AreWritten (gathered_if b u v).0 (gathered_if b u v).1
    by true fits = (tt, joined_written u v before one fits)
    by false fits = ((before, tt), one)

sends_written : (held : Option Rpc) (vs : List Rpc) → IfSome held IsWritten → AllByRecursion IsWritten vs → AreWritten (let_out held vs) (held_after held vs)
sends_written held [] before all = (tt, before)
sends_written held (v ∷ vs) before all =
    let one = gather_written held v before all.0 in
    let later = sends_written (gather codec held v).1 vs one.1 all.1 in
    (all-append IsWritten (gather codec held v).0 (let_out (gather codec held v).1 vs) one.0 later.0, later.1)

fitting_written : (q : PeerNo) (sends : List (PeerNo × Rpc)) → SendsWritten sends → AllByRecursion IsWritten (fitting_to q sends)
fitting_written q [] all = tt
fitting_written q (x ∷ sends) all = by (codec.fits x.1) (fitting_written q sends all.1)
  where
    to_q : (b : Bool) → AllByRecursion IsWritten (fitting_to q sends) → AllByRecursion IsWritten (if b then x.1 ∷ fitting_to q sends else fitting_to q sends)
    to_q true later = (all.0, later)
    to_q false later = later

    by : (b : Bool) → AllByRecursion IsWritten (fitting_to q sends) → AllByRecursion IsWritten (sent_to q (if b then x ∷ filter (λ y. codec.fits y.1) sends else filter (λ y. codec.fits y.1) sends))
    by true later = to_q (same_peer x.0 q) later
    by false later = later

cut_written : (is : Bool) (held : Option Rpc) → IfSome held IsWritten → AllByRecursion IsWritten (cut_off is held)
cut_written true None before = tt
cut_written true (Some u) before = (before, tt)
cut_written false held before = tt

kept_written : (is : Bool) (held : Option Rpc) → IfSome held IsWritten → IfSome (if is then None else held) IsWritten
kept_written true held before = tt
kept_written false held before = before

lane_written : (l : Lane) (e : Entry) → SendsWritten e.effects.sends → IfSome l.gathered IsWritten → AreWritten (frames_over l e) (lane_after e l).gathered
lane_written l e all before = by l.is_open (sends_written l.gathered (fitting_to l.to e.effects.sends) before (fitting_written l.to e.effects.sends all))
  where
    vs : List Rpc
    vs = fitting_to l.to e.effects.sends

    by : (b : Bool) → AreWritten (let_out l.gathered vs) (held_after l.gathered vs) → AreWritten (if b then frames_by l e else []) (if b then lane_behind e.event (lane_sent l vs) else l).gathered
    by true now =
        (all-append IsWritten (let_out l.gathered vs) (cut_off (is_cut l.to e.event) (held_after l.gathered vs)) now.0 (cut_written (is_cut l.to e.event) (held_after l.gathered vs) now.1), kept_written (is_cut l.to e.event) (held_after l.gathered vs) now.1)
    by false now = (tt, before)

framed_written : (L : Entries) (q : PeerNo) → AllWritten L → AreWritten (framed L q) (lane_of L q).gathered
framed_written [] q all = (tt, tt)
framed_written (e ∷ L) q all =
    let before = framed_written L q all.1 in
    let now = lane_written (lane_of L q) e all.0 before.1 in
    (all-append IsWritten (framed L q) (frames_over (lane_of L q) e) before.0 now.0, subst (λ (l : Lane). IfSome l.gathered IsWritten) (lane_goes_on L q e) now.1)

-- ---- what is spelled

-- the RPCs that the bytes of a legal trace spell are those that it puts out
pub spelled_are_framed : (p : Peer) (L : Entries) (q : PeerNo) (vs : List Rpc) → Legal p L → SaysOnlyFrames q L → Spell (bytes_of (out codec L q)) vs → vs ≡ framed L q
spelled_are_framed p L q vs legal quiet spell =
    let said : bytes_of (out codec L q) ≡ bytes (framed L q) =
    ap (λ (K : Entries). bytes_of (out codec K q)) (sym (legal_fits p L legal)) ∙ framed_said L q quiet in
    let stream : IsStream longest_body (bytes_of (out codec L q)) (framed L q) [] Waits =
    subst (λ (bs : List ℕ). IsStream longest_body bs (framed L q) [] Waits) (sym said) (frames_spell (framed L q) (framed_written L q (legal_written p L legal)).0) in
    spelled_once (bytes_of (out codec L q)) vs (framed L q) spell ([], Waits, stream)
