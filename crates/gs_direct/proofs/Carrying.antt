-- An outlet goes along with what goes to its neighbour.
use Rattle.std.proofs.Common.{◌≡◌, ℕ, Bool, true, false, if◌then◌else◌, List, [], ◌∷◌, ◌++◌, map, Option, None, Some, refl, sym, ap, ap₂, subst, subst₂, ◌∙◌, append_assoc, append-nil, arith, true≢false}
use Rattle.std.specs.Prelude.{IfSome, option_to_list}
use Rattle.std.specs.List.{flat_map}
use Rattle.std.proofs.lemmas.Bool.Decides.{nat_tests}
use Rattle.std.proofs.lemmas.Option.{none-some, same_Some}
use Rattle.gs_base.specs.declared.names.PeerNo.{PeerNo}
use Rattle.gs_base.specs.declared.rpc.Rpc.{Rpc}
use Rattle.gs_base.specs.declared.control.Control.{Control}
use Rattle.gs_base.specs.Names.{same_peer}
use Rattle.gs_base.specs.Tokens.{Byte, Close, EndOf, Said, bytes_of}
use Rattle.gs_wire.specs.declared.frames.End.{End}
use Rattle.gs_wire.specs.declared.frames.End.TheVariants as ends
use Rattle.gs_wire.specs.Codec.{codec}
use Rattle.gs_wire.specs.Joining.{joined_controls, joined_rpc, joined_to}
use Rattle.gs_wire.specs.Messages.{IsControl, IsPrune, frame, longest_body}
use Rattle.gs_wire.specs.Stream.{HasRead, Holding, IsStream, held_after}
use Rattle.gs_wire.proofs.FrameLists.{frame_read, streams_join}
use Rattle.gs_wire.proofs.Readers.{read_once}
use Rattle.gs_wire.proofs.RoundTrip.{all-append}
use Rattle.gs_rules.specs.declared.event.Event.{Event}
use Rattle.gs_rules.specs.declared.event.Event.TheVariants.{RoundEnd, Shut, Own, Lost}
use Rattle.gs_rules.specs.declared.event.Loss.{Loss}
use Rattle.gs_plan.specs.declared.plan.Act.TheVariants.{Raw, HangUp}
use Rattle.gs_rules.specs.declared.trace.Entry.{Entry}
use Rattle.gs_rules.specs.Modes.{sent_to}
use Rattle.gs_rules.specs.Tables.{cuts_off, up_after}
use Rattle.gs_rules.specs.Saying.{Outgoing, behind_event, cut_out, frames_of, is_cut, raw_to, saying, sending, sending_all, sign}
use Rattle.gs_rules.proofs.Fitting.{short_body}
use Rattle.gs_rules.proofs.Spelled.{bytes_of_append, bytes_of_bytes, no_stream}
use Rattle.gs_direct.specs.declared.outlet.Outlet.{Outlet}
use Rattle.gs_direct.specs.Outlets.{Carries, Closes, Follows, IsWritten, ReadsOn, Says, Tells, reader_of}

-- ---- what is joined is written

controls_written : (c d : Option Control) → IfSome c IsControl → IfSome d IsControl → IfSome (joined_controls c d) IsControl
controls_written None d h k = k
controls_written (Some c) None h k = h
controls_written (Some c) (Some d) h k = all-append IsPrune c.prune d.prune h k

joined_written : (u v : Rpc) → IsWritten u → IsWritten v → codec.fits (joined_rpc u v) ≡ true → IsWritten (joined_rpc u v)
joined_written u v h k fits =
    (fits, record { body = short_body (joined_rpc u v) fits; control = controls_written u.control v.control h.1.control k.1.control })

-- ---- bytes

no_bytes : (w : Said) → bytes_of (w ++ []) ≡ bytes_of w
no_bytes w = ap bytes_of (append-nil w)

frame_bytes : (w : Said) (v : Rpc) → bytes_of (w ++ frames_of codec (v ∷ [])) ≡ bytes_of w ++ frame v
frame_bytes w v =
    bytes_of_append w (frames_of codec (v ∷ []))
    ∙ ap (λ (bytes : List ℕ). bytes_of w ++ bytes) (bytes_of_bytes (flat_map codec.frame (v ∷ [])) ∙ append-nil (frame v))

-- ---- what a reader has read

-- A value is read as its frame is, where nothing is held.
pub value_read : (bytes : List ℕ) (vs : List Rpc) (v : Rpc) → IsWritten v
    → HasRead longest_body bytes (record { limit = longest_body; held = Some [] }) vs
    → HasRead longest_body (bytes ++ frame v) (record { limit = longest_body; held = Some [] }) (vs ++ v ∷ [])
value_read bytes vs v written h = by h.end h.rest h.stream (ap (λ (r : Holding). r.held) h.holds)
  where
    one : IsStream longest_body (frame v) (v ∷ []) [] ends.Waits
    one = subst (λ (text : List ℕ). IsStream longest_body text (v ∷ []) [] ends.Waits) (append-nil (frame v))
        (frame_read longest_body v [] [] [] ends.Waits written.1 (let fits = written.0 in grind (arith, nat_tests)) no_stream)

    by : (end : End) (rest : List ℕ) → IsStream longest_body bytes vs rest end → ◌≡◌ {A = Option (List ℕ)} (Some []) (held_after end rest)
        → HasRead longest_body (bytes ++ frame v) (record { limit = longest_body; held = Some [] }) (vs ++ v ∷ [])
    by ends.Waits rest stream holds =
        let none : [] ≡ rest = same_Some [] rest holds in
        record {
          rest = [];
          end = ends.Waits;
          stream = streams_join longest_body bytes (frame v) [] [] vs (v ∷ []) ends.Waits (subst (λ (r : List ℕ). IsStream longest_body bytes vs r ends.Waits) (sym none) stream) one;
          holds = refl;
        }
    by ends.TooLong rest stream holds = absurd (none-some [] (sym holds))
    by ends.Malformed rest stream holds = absurd (none-some [] (sym holds))

-- ---- what goes to the neighbour, in parts

abbrev with_held : Said → Option Rpc → Outgoing
with_held said held = record { said = said; gathered = held }

-- what is gathered may be read off the outlet
by_held : (f : Outgoing → Outgoing) (old new : Outlet) (goes : Outgoing) (earlier : List Rpc) (c : Carries old goes earlier)
    → (IfSome old.gathered IsWritten → Carries new (f (with_held goes.said old.gathered)) earlier)
    → Carries new (f goes) earlier
by_held f old new goes earlier c core =
    subst (λ (held : Option Rpc). Carries new (f (with_held goes.said held)) earlier) c.gathers (core (subst (λ (held : Option Rpc). IfSome held IsWritten) (sym c.gathers) c.written))

-- ---- one RPC more

abbrev gathered_if : Bool → Rpc → Rpc → List Rpc × Option Rpc
gathered_if fits u v = if fits then ([], Some (joined_rpc u v)) else (u ∷ [], Some v)

fit_core : (o : Outlet) (said : Said) (held : Option Rpc) (v : Rpc) (earlier : List Rpc) → IsWritten v → IfSome held IsWritten
    → codec.fits (joined_to held v) ≡ true
    → HasRead longest_body (bytes_of said) (reader_of o) (earlier ++ o.rpcs.items)
    → Carries (record o { gathered = Some (joined_to held v) }) (sending codec (with_held said held) v) earlier
fit_core o said None v earlier written was fits read = record {
  gathers = refl;
  written = written;
  read = subst (λ (bytes : List ℕ). HasRead longest_body bytes (reader_of o) (earlier ++ o.rpcs.items)) (sym (no_bytes said)) read;
}
fit_core o said (Some u) v earlier written was fits read =
    subst (λ (b : Bool). Carries (record o { gathered = Some (joined_rpc u v) }) (with_held (said ++ frames_of codec (gathered_if b u v).0) (gathered_if b u v).1) earlier) (sym fits) (record {
      gathers = refl;
      written = joined_written u v was written fits;
      read = subst (λ (bytes : List ℕ). HasRead longest_body bytes (reader_of o) (earlier ++ o.rpcs.items)) (sym (no_bytes said)) read;
    })

-- it fits with what is gathered
pub sends_fit : (old : Outlet) (held : Option Rpc) (v : Rpc) → IsWritten v
    → codec.fits (joined_to old.gathered v) ≡ true
    → held ≡ Some (joined_to old.gathered v)
    → Follows (λ goes. sending codec goes v) old (record old { gathered = held })
sends_fit old held v written fits is = subst (λ (h : Option Rpc). Follows (λ goes. sending codec goes v) old (record old { gathered = h })) (sym is) (record {
  to = refl;
  is_over = refl;
  is_open = refl;
  carries = λ goes earlier c. by_held (λ (g : Outgoing). sending codec g v) old (record old { gathered = Some (joined_to old.gathered v) }) goes earlier c
      (λ was. fit_core old goes.said old.gathered v earlier written was fits c.read);
})

out_core : (mid : Outlet) (said : Said) (held : Option Rpc) (v : Rpc) (earlier : List Rpc) → IsWritten v
    → codec.fits (joined_to held v) ≡ false
    → Carries mid (cut_out codec (with_held said held)) earlier
    → Carries (record mid { gathered = Some v }) (sending codec (with_held said held) v) earlier
out_core mid said None v earlier written fits c = absurd (true≢false (sym written.0 ∙ fits))
out_core mid said (Some u) v earlier written fits c =
    subst (λ (b : Bool). Carries (record mid { gathered = Some v }) (with_held (said ++ frames_of codec (gathered_if b u v).0) (gathered_if b u v).1) earlier) (sym fits)
    (record { gathers = refl; written = written; read = c.read })

-- it does not, so what is gathered goes out first
pub sends_out : (old mid : Outlet) (held : Option Rpc) (v : Rpc) → IsWritten v
    → codec.fits (joined_to old.gathered v) ≡ false
    → Follows (cut_out codec) old mid
    → held ≡ Some v
    → Follows (λ goes. sending codec goes v) old (record mid { gathered = held })
sends_out old mid held v written fits cut is = subst (λ (h : Option Rpc). Follows (λ goes. sending codec goes v) old (record mid { gathered = h })) (sym is) (record {
  to = cut.to;
  is_over = cut.is_over;
  is_open = cut.is_open;
  carries = λ goes earlier c. by_held (λ (g : Outgoing). sending codec g v) old (record mid { gathered = Some v }) goes earlier c
      (λ was. out_core mid goes.said old.gathered v earlier written fits
      (subst (λ (h : Option Rpc). Carries mid (cut_out codec (with_held goes.said h)) earlier) (sym c.gathers) (cut.carries goes earlier c)));
})

-- ---- what is gathered goes out

some_written : (held : Option Rpc) (v : Rpc) → held ≡ Some v → IfSome held IsWritten → IsWritten v
some_written held v is written = subst (λ (h : Option Rpc). IfSome h IsWritten) is written

put_bytes : (said : Said) (held : Option Rpc) (v : Rpc) → held ≡ Some v → bytes_of (said ++ frames_of codec (option_to_list held)) ≡ bytes_of said ++ frame v
put_bytes said held v is = ap (λ (h : Option Rpc). bytes_of (said ++ frames_of codec (option_to_list h))) is ∙ frame_bytes said v

-- as a value
pub puts_value : (old new : Outlet) (v : Rpc)
    → old.gathered ≡ Some v
    → reader_of old ≡ record { limit = longest_body; held = Some [] }
    → reader_of new ≡ reader_of old
    → new.to ≡ old.to → new.is_over ≡ old.is_over → new.is_open ≡ old.is_open → new.gathered ≡ None
    → new.rpcs.items ≡ old.rpcs.items ++ v ∷ []
    → Follows (cut_out codec) old new
puts_value old new v is fresh same to over opens none pushed = record {
  to = to;
  is_over = over;
  is_open = opens;
  carries = λ goes earlier c.
      let written : IsWritten v = some_written goes.gathered v (sym c.gathers ∙ is) c.written in
      let read : HasRead longest_body (bytes_of goes.said ++ frame v) (record { limit = longest_body; held = Some [] }) ((earlier ++ old.rpcs.items) ++ v ∷ []) =
      value_read (bytes_of goes.said) (earlier ++ old.rpcs.items) v written (subst (λ (h : Holding). HasRead longest_body (bytes_of goes.said) h (earlier ++ old.rpcs.items)) fresh c.read) in
      record {
        gathers = none;
        written = tt;
        read = subst₂ (λ (bytes : List ℕ) (vs : List Rpc). HasRead longest_body bytes (reader_of new) vs) (sym (put_bytes goes.said goes.gathered v (sym c.gathers ∙ is)))
            (append_assoc earlier old.rpcs.items (v ∷ []) ∙ ap (λ (vs : List Rpc). earlier ++ vs) (sym pushed))
            (subst (λ (h : Holding). HasRead longest_body (bytes_of goes.said ++ frame v) h ((earlier ++ old.rpcs.items) ++ v ∷ [])) (sym (same ∙ fresh)) read);
      };
}

-- bytes are read on
reads_more : (old new : Outlet) (bytes more : List ℕ) (earlier : List Rpc)
    → ReadsOn (reader_of old) more (reader_of new) old.rpcs.items new.rpcs.items
    → HasRead longest_body bytes (reader_of old) (earlier ++ old.rpcs.items)
    → HasRead longest_body (bytes ++ more) (reader_of new) (earlier ++ new.rpcs.items)
reads_more old new bytes more earlier (found, once, is) h =
    subst (λ (vs : List Rpc). HasRead longest_body (bytes ++ more) (reader_of new) vs) (append_assoc earlier old.rpcs.items found ∙ ap (λ (vs : List Rpc). earlier ++ vs) (sym is))
    (read_once longest_body bytes more (reader_of old) (reader_of new) (earlier ++ old.rpcs.items) found h once)

-- as a frame of bytes
pub puts_frame : (old new : Outlet) (v : Rpc)
    → old.gathered ≡ Some v
    → ReadsOn (reader_of old) (frame v) (reader_of new) old.rpcs.items new.rpcs.items
    → new.to ≡ old.to → new.is_over ≡ old.is_over → new.is_open ≡ old.is_open → new.gathered ≡ None
    → Follows (cut_out codec) old new
puts_frame old new v is reads to over opens none = record {
  to = to;
  is_over = over;
  is_open = opens;
  carries = λ goes earlier c. record {
    gathers = none;
    written = tt;
    read = subst (λ (bytes : List ℕ). HasRead longest_body bytes (reader_of new) (earlier ++ new.rpcs.items)) (sym (put_bytes goes.said goes.gathered v (sym c.gathers ∙ is)))
        (reads_more old new (bytes_of goes.said) (frame v) earlier reads c.read);
  };
}

-- ---- bytes as they are

pub reads_bytes : (old new : Outlet) (bytes : List ℕ)
    → ReadsOn (reader_of old) bytes (reader_of new) old.rpcs.items new.rpcs.items
    → new.to ≡ old.to → new.is_over ≡ old.is_over → new.is_open ≡ old.is_open → new.gathered ≡ old.gathered
    → Follows (λ goes. saying goes (map Byte bytes)) old new
reads_bytes old new bytes reads to over opens same = record {
  to = to;
  is_over = over;
  is_open = opens;
  carries = λ goes earlier c. record {
    gathers = same ∙ c.gathers;
    written = c.written;
    read = subst (λ (all : List ℕ). HasRead longest_body all (reader_of new) (earlier ++ new.rpcs.items))
        (sym (bytes_of_append goes.said (map Byte bytes) ∙ ap (λ (more : List ℕ). bytes_of goes.said ++ more) (bytes_of_bytes bytes)))
        (reads_more old new (bytes_of goes.said) bytes earlier reads c.read);
  };
}

pub follows_then : (f g : Outgoing → Outgoing) (old mid new : Outlet) → Follows f old mid → Follows g mid new → Follows (λ goes. g (f goes)) old new
follows_then f g old mid new h k = record {
  to = k.to ∙ h.to;
  is_over = k.is_over ∙ h.is_over;
  is_open = k.is_open ∙ h.is_open;
  carries = λ goes earlier c. k.carries (f goes) earlier (h.carries goes earlier c);
}

pub follows_as : (f g : Outgoing → Outgoing) (old new : Outlet) → ((goes : Outgoing) → f goes ≡ g goes) → Follows f old new → Follows g old new
follows_as f g old new same h = record {
  to = h.to;
  is_over = h.is_over;
  is_open = h.is_open;
  carries = λ goes earlier c. subst (λ (x : Outgoing). Carries new x earlier) (same goes) (h.carries goes earlier c);
}

-- ---- what an event says

-- a word of no byte
carries_silent : (o : Outlet) (goes : Outgoing) (w : Said) (earlier : List Rpc) → bytes_of w ≡ [] → Carries o goes earlier → Carries o (saying goes w) earlier
carries_silent o goes w earlier none c = record {
  gathers = c.gathers;
  written = c.written;
  read = subst (λ (bytes : List ℕ). HasRead longest_body bytes (reader_of o) (earlier ++ o.rpcs.items))
      (sym (bytes_of_append goes.said w ∙ ap (λ (bytes : List ℕ). bytes_of goes.said ++ bytes) none ∙ append-nil (bytes_of goes.said))) c.read;
}

pub round_told : (r : ℕ) (old new : Outlet) → old.is_open ≡ true → Follows (cut_out codec) old new → Tells (RoundEnd r) old new
round_told r old new opens h = record {
  to = h.to;
  is_over = h.is_over;
  is_open = h.is_open ∙ opens;
  carries = λ goes earlier c. carries_silent new (cut_out codec goes) (EndOf r ∷ []) earlier refl (h.carries goes earlier c);
}

pub shut_told : (old new : Outlet) → Closes true old new → Tells Shut old new
shut_told old new h = record { to = h.to; is_over = h.is_over; is_open = h.is_open; carries = h.carries }

pub closed : (old mid : Outlet) → Follows (cut_out codec) old mid → Closes true old (record mid { is_open = false })
closed old mid h = record {
  to = h.to;
  is_over = h.is_over;
  is_open = refl;
  carries = λ goes earlier c.
      let there = h.carries goes earlier c in
      let still : Carries (record mid { is_open = false }) (cut_out codec goes) earlier = record { gathers = there.gathers; written = there.written; read = there.read } in
      carries_silent (record mid { is_open = false }) (cut_out codec goes) (Close ∷ []) earlier refl still;
}

raw_if : (mine : Bool) (bytes : List ℕ) (goes : Outgoing)
    → saying (if mine then cut_out codec goes else goes) (map Byte (if mine then bytes else []) ++ [])
    ≡ (if mine then saying (cut_out codec goes) (map Byte bytes) else goes)
raw_if true bytes goes = ap (saying (cut_out codec goes)) (append-nil (map Byte bytes))
raw_if false bytes goes = ap (λ (w : Said). with_held w goes.gathered) (append-nil goes.said)

pub raw_told : (to : PeerNo) (bytes : List ℕ) (old new : Outlet) → old.is_open ≡ true
    → Follows (λ goes. if same_peer to old.to then saying (cut_out codec goes) (map Byte bytes) else goes) old new
    → Tells (Own (Raw to bytes)) old new
raw_told to bytes old new opens h = record {
  to = h.to;
  is_over = h.is_over;
  is_open = h.is_open ∙ opens;
  carries = λ goes earlier c. subst (λ (x : Outgoing). Carries new x earlier) (sym (raw_if (same_peer to old.to) bytes goes)) (h.carries goes earlier c);
}

close_said : (off : Bool) (goes : Outgoing)
    → saying (if off then cut_out codec goes else goes) (map Byte [] ++ (if off then Close ∷ [] else []))
    ≡ (if off then saying (cut_out codec goes) (Close ∷ []) else goes)
close_said true goes = refl
close_said false goes = ap (λ (w : Said). with_held w goes.gathered) (append-nil goes.said)

-- An event says no more than a close, and that where it loses the neighbour.
record ClosesAtMost (q : PeerNo) (event : Event) (off : Bool) : Type 0 where
  cut : is_cut q event ≡ off
  raw : raw_to q event ≡ []
  signed : sign q event ≡ (if off then Close ∷ [] else [])
  down : cuts_off q event ≡ off

closing_told : (event : Event) (off : Bool) (old new : Outlet) → old.is_open ≡ true → ClosesAtMost old.to event off → Closes off old new → Tells event old new
closing_told event off old new opens most h = record {
  to = h.to;
  is_over = h.is_over;
  is_open = h.is_open ∙ ap₂ (λ (a b : Bool). if a then false else b) (sym most.down) opens;
  carries = λ goes earlier c.
      subst (λ (x : Outgoing). Carries new x earlier)
      (sym (ap (λ (b : Bool). saying (if b then cut_out codec goes else goes) (map Byte (raw_to old.to event) ++ sign old.to event)) most.cut
      ∙ ap₂ (λ (bytes : List ℕ) (w : Said). saying (if off then cut_out codec goes else goes) (map Byte bytes ++ w)) most.raw most.signed
      ∙ close_said off goes))
      (h.carries goes earlier c);
}

-- nothing more is said to a neighbour that is lost
pub lost_told : (peer : PeerNo) (loss : Loss) (old new : Outlet) → old.is_open ≡ true → Closes (same_peer peer old.to) old new → Tells (Lost peer loss) old new
lost_told peer loss old new opens h = closing_told (Lost peer loss) (same_peer peer old.to) old new opens (record { cut = refl; raw = refl; signed = refl; down = refl }) h

-- nor to one that the peer hangs up on
pub hung_up_told : (peer : PeerNo) (old new : Outlet) → old.is_open ≡ true → Closes (same_peer peer old.to) old new → Tells (Own (HangUp peer)) old new
hung_up_told peer old new opens h = closing_told (Own (HangUp peer)) (same_peer peer old.to) old new opens (record { cut = refl; raw = refl; signed = refl; down = refl }) h

-- ---- an entry

pub said_entry : (e : Entry) (old mid new : Outlet) → old.is_open ≡ true
    → Follows (λ goes. sending_all codec goes (sent_to old.to e.effects.sends)) old mid
    → Tells e.event mid new
    → Says e old new
said_entry e old mid new opens sends tells = record {
  to = tells.to ∙ sends.to;
  is_over = tells.is_over ∙ sends.is_over;
  is_open = tells.is_open ∙ ap₂ (λ (q : PeerNo) (b : Bool). up_after q e.event b) sends.to (sym opens);
  carries = λ goes earlier c.
      subst₂ (λ (q : PeerNo) (b : Bool). Carries new (if b then behind_event codec q (sending_all codec goes (sent_to old.to e.effects.sends)) e.event else goes) earlier) sends.to (sym opens)
      (tells.carries (sending_all codec goes (sent_to old.to e.effects.sends)) earlier (sends.carries goes earlier c));
}
