-- What goes out over a lane, entry by entry.
use Rattle.std.proofs.Common.{◌≡◌, ℕ, ◌+◌, ◌<◌, Bool, true, false, if◌then◌else◌, List, [], ◌∷◌, ◌++◌, filter, get_or, length, map, take, Option, None, refl, sym, ap, ap₂, ◌∙◌, append_assoc}
use Rattle.std.specs.List.{flat_map}
use Rattle.std.proofs.lemmas.Grind.{flat_map-append}
use Rattle.std.proofs.lemmas.List.{take_more}
use Rattle.std.proofs.lemmas.List.Elements.{filter-append}
use Rattle.gs_base.specs.declared.names.PeerNo.{PeerNo}
use Rattle.gs_base.specs.declared.rpc.Rpc.{Rpc}
use Rattle.gs_base.specs.Names.{same_peer}
use Rattle.gs_wire.specs.Codec.{codec}
use Rattle.gs_wire.specs.Messages.{frame}
use Rattle.gs_rules.specs.declared.event.Event.{Event}
use Rattle.gs_rules.specs.declared.trace.Entry.{Entry}
use Rattle.gs_rules.specs.Modes.{sent_to}
use Rattle.gs_rules.specs.Saying.{Outgoing, behind_entry, behind_event, cut_out, gather, is_cut, outgoing, sending, sending_all}
use Rattle.gs_rules.specs.Tables.{Entries, cuts_off, up, up_after}
use Rattle.gs_counts.specs.declared.happening.Happening.{Happening}
use Rattle.gs_counts.specs.declared.happening.Scene.{Scene}
use Rattle.gs_counts.specs.declared.lane.Lane.{Lane}
use Rattle.gs_counts.specs.Happenings.{heard_of}
use Rattle.gs_counts.specs.Lanes.{IsSilent, cut_off, end_happenings, fitting, fitting_to, frame_happenings, frames_out, held_after, lane_after, lane_behind, lane_happenings, lane_of, lane_sent, let_out, put_out}

-- ---- sends

sent_both : (q : PeerNo) (xs ys : List (PeerNo × Rpc)) → sent_to q (xs ++ ys) ≡ sent_to q xs ++ sent_to q ys
sent_both q [] ys = refl
sent_both q (x ∷ xs) ys = by (same_peer x.0 q) (sent_both q xs ys)
  where
    by : (b : Bool) → sent_to q (xs ++ ys) ≡ sent_to q xs ++ sent_to q ys → (if b then x.1 ∷ sent_to q (xs ++ ys) else sent_to q (xs ++ ys)) ≡ (if b then x.1 ∷ sent_to q xs else sent_to q xs) ++ sent_to q ys
    by true rest = ap (λ (vs : List Rpc). x.1 ∷ vs) rest
    by false rest = rest

fitting_both : (q : PeerNo) (xs ys : List (PeerNo × Rpc)) → fitting_to q (xs ++ ys) ≡ fitting_to q xs ++ fitting_to q ys
fitting_both q xs ys =
    ap (sent_to q) (filter-append (λ (x : PeerNo × Rpc). codec.fits x.1) xs ys)
    ∙ sent_both q (filter (λ (x : PeerNo × Rpc). codec.fits x.1) xs) (filter (λ (x : PeerNo × Rpc). codec.fits x.1) ys)

let_out_both : (held : Option Rpc) (vs ws : List Rpc) → let_out held (vs ++ ws) ≡ let_out held vs ++ let_out (held_after held vs) ws
let_out_both held [] ws = refl
let_out_both held (v ∷ vs) ws =
    ap (λ (us : List Rpc). (gather codec held v).0 ++ us) (let_out_both (gather codec held v).1 vs ws)
    ∙ sym (append_assoc (gather codec held v).0 (let_out (gather codec held v).1 vs) (let_out (held_after (gather codec held v).1 vs) ws))

held_both : (held : Option Rpc) (vs ws : List Rpc) → held_after held (vs ++ ws) ≡ held_after (held_after held vs) ws
held_both held [] ws = refl
held_both held (v ∷ vs) ws = held_both (gather codec held v).1 vs ws

frames_both : (s : Scene) (vs ws : List Rpc) → frames_out s (vs ++ ws) ≡ frames_out s vs ++ frames_out s ws
frames_both s vs ws = flat_map-append (λ (v : Rpc). frame_happenings s (length (frame v))) vs ws

-- what went out by the sends so far, and the lane after them
abbrev pub so_far : Scene → Lane → List Happening → List (PeerNo × Rpc) → List Happening
so_far s first listed sends = listed ++ frames_out s (let_out first.gathered (fitting_to first.to sends))

module _ (s : Scene) (first : Lane) (listed : List Happening) (sends : List (PeerNo × Rpc)) (i : ℕ) (x : PeerNo × Rpc) (below : i < length sends) (is : x ≡ get_or sends i x) where
  abbrev pub done : List (PeerNo × Rpc)
  done = take i sends

  parts : take (i + 1) sends ≡ done ++ x ∷ []
  parts = take_more sends i x below ∙ ap (λ (y : PeerNo × Rpc). done ++ y ∷ []) (sym is)

  both : fitting_to first.to (take (i + 1) sends) ≡ fitting_to first.to done ++ fitting_to first.to (x ∷ [])
  both = ap (fitting_to first.to) parts ∙ fitting_both first.to done (x ∷ [])

  pub lane_more : (before after : Lane) → before ≡ lane_sent first (fitting_to first.to done) → after ≡ lane_sent before (fitting_to before.to (x ∷ [])) → after ≡ lane_sent first (fitting_to first.to (take (i + 1) sends))
  lane_more before after was more =
      more
      ∙ ap (λ (l : Lane). lane_sent l (fitting_to l.to (x ∷ []))) was
      ∙ ap (λ (held : Option Rpc). record first { gathered = held }) (sym (held_both first.gathered (fitting_to first.to done) (fitting_to first.to (x ∷ []))))
      ∙ ap (λ (vs : List Rpc). lane_sent first vs) (sym both)

  pub list_more : (before : Lane) (list new : List Happening) → before ≡ lane_sent first (fitting_to first.to done) → list ≡ so_far s first listed done → new ≡ list ++ frames_out s (let_out before.gathered (fitting_to before.to (x ∷ []))) → new ≡ so_far s first listed (take (i + 1) sends)
  list_more before list new was had more =
      more
      ∙ ap₂ (λ (hs : List Happening) (l : Lane). hs ++ frames_out s (let_out l.gathered (fitting_to l.to (x ∷ [])))) had was
      ∙ append_assoc listed (frames_out s (let_out first.gathered (fitting_to first.to done))) (frames_out s (let_out (held_after first.gathered (fitting_to first.to done)) (fitting_to first.to (x ∷ []))))
      ∙ ap (λ (hs : List Happening). listed ++ hs)
      (sym (frames_both s (let_out first.gathered (fitting_to first.to done)) (let_out (held_after first.gathered (fitting_to first.to done)) (fitting_to first.to (x ∷ []))))
      ∙ ap (frames_out s) (sym (let_out_both first.gathered (fitting_to first.to done) (fitting_to first.to (x ∷ []))))
      ∙ ap (λ (vs : List Rpc). frames_out s (let_out first.gathered vs)) (sym both))

-- ---- the lane after a trace

sends_all : (o : Outgoing) (vs : List Rpc) → (sending_all codec o vs).gathered ≡ held_after o.gathered vs
sends_all o [] = refl
sends_all o (v ∷ vs) = sends_all (sending codec o v) vs

behind : (q : PeerNo) (o : Outgoing) (event : Event) → (behind_event codec q o event).gathered ≡ (if is_cut q event then None else o.gathered)
behind q o event = by (is_cut q event)
  where
    by : (b : Bool) → (if b then cut_out codec o else o).gathered ≡ (if b then None else o.gathered)
    by true = refl
    by false = refl

stays_down : (q : PeerNo) (event : Event) → up_after q event false ≡ false
stays_down q event = by (cuts_off q event)
  where
    by : (b : Bool) → (if b then false else false) ≡ false
    by true = refl
    by false = refl

pub lane_goes_on : (L : Entries) (q : PeerNo) (e : Entry) → lane_after e (lane_of L q) ≡ lane_of (e ∷ L) q
lane_goes_on L q e = by (up (map fitting L) q)
  where
    o : Outgoing
    o = outgoing codec (map fitting L) q

    lane : Option Rpc → Bool → Lane
    lane held is_open = record { to = q; gathered = held; is_open = is_open }

    vs : List Rpc
    vs = fitting_to q e.effects.sends

    by : (b : Bool) → lane_after e (lane o.gathered b) ≡ lane (if b then behind_entry codec q o (fitting e) else o).gathered (up_after q e.event b)
    by true =
        ap (λ (held : Option Rpc). lane (if is_cut q e.event then None else held) (up_after q e.event true)) (sym (sends_all o vs))
        ∙ ap (λ (held : Option Rpc). lane held (up_after q e.event true)) (sym (behind q (sending_all codec o vs) e.event))
    by false = ap (λ (b : Bool). lane o.gathered b) (sym (stays_down q e.event))

-- ---- silent entries

module _ (s : Scene) (e : Entry) (silent : IsSilent e) where
  none_sent : (q : PeerNo) → fitting_to q e.effects.sends ≡ []
  none_sent q = ap (fitting_to q) silent.sends

  silent_out : (l : Lane) → lane_happenings s l e ≡ []
  silent_out l = by l.is_open
    where
      by : (b : Bool) → (if b then put_out (heard_of s l.to) l e else []) ≡ []
      by true =
          ap (λ (vs : List Rpc). frames_out (heard_of s l.to) (let_out l.gathered vs) ++ end_happenings (heard_of s l.to) (lane_sent l vs) e.event) (none_sent l.to)
          ∙ ap₂ (λ (b : Bool) (hs : List Happening). frames_out (heard_of s l.to) (cut_off b l.gathered) ++ hs) (silent.cuts l.to) (silent.raw (heard_of s l.to) l.to)
      by false = refl

  silent_lane : (l : Lane) → lane_after e l ≡ l
  silent_lane l = by l.is_open refl
    where
      by : (b : Bool) → l.is_open ≡ b → (if b then lane_behind e.event (lane_sent l (fitting_to l.to e.effects.sends)) else l) ≡ l
      by true is =
          ap (λ (vs : List Rpc). lane_behind e.event (lane_sent l vs)) (none_sent l.to)
          ∙ ap₂ (λ (c d : Bool). record { to = l.to; gathered = if c then None else l.gathered; is_open = d }) (silent.cuts l.to) (silent.stays l.to l.is_open)
      by false is = refl

  pub all_silent : (ls : List Lane) → flat_map (λ lane. lane_happenings s lane e) ls ≡ []
  all_silent [] = refl
  all_silent (l ∷ ls) = ap₂ (λ (hs gs : List Happening). hs ++ gs) (silent_out l) (all_silent ls)

  pub lanes_stay : (ls : List Lane) → map (lane_after e) ls ≡ ls
  lanes_stay [] = refl
  lanes_stay (l ∷ ls) = ap₂ (λ (lane : Lane) (lanes : List Lane). lane ∷ lanes) (silent_lane l) (lanes_stay ls)
