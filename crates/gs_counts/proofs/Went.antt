-- The frames that a trace puts out to a neighbour are those that are counted over the link to it.
use Rattle.std.proofs.Common.{◌≡◌, ℕ, suc, ◌+◌, Bool, true, false, if◌then◌else◌, List, [], ◌∷◌, length, refl, sym, ap, ap₂, subst, ◌∙◌, length-append, arith}
use Rattle.std.specs.Prelude.{◌&&◌}
use Rattle.std.specs.List.{flat_map, sum_by}
use Rattle.std.proofs.lemmas.List.Sums.{sum_by-append}
use Rattle.gs_base.specs.declared.names.Millis.{Millis}
use Rattle.gs_base.specs.declared.names.PeerNo.{PeerNo}
use Rattle.gs_base.specs.declared.mark.Mark.{Mark}
use Rattle.gs_base.specs.declared.rpc.Message.{Message}
use Rattle.gs_base.specs.declared.rpc.Rpc.{Rpc}
use Rattle.gs_base.specs.Names.{same_peer}
use Rattle.gs_plan.specs.declared.plan.Plan.{Plan}
use Rattle.gs_wire.specs.Messages.{frame}
use Rattle.gs_rules.specs.declared.event.Event.{Event}
use Rattle.gs_rules.specs.declared.event.Event.TheVariants.{Heard, Late, Part, BeatBegin, Step, Own, Lost, Decay, RoundEnd, Shut}
use Rattle.gs_rules.specs.declared.fallen.Fallen.{Fallen}
use Rattle.gs_rules.specs.declared.fallen.Fallen.TheVariants.{Graylisted}
use Rattle.gs_rules.specs.declared.trace.Entry.{Entry}
use Rattle.gs_rules.specs.FellAway.{fell_away}
use Rattle.gs_rules.specs.Peers.{Peer}
use Rattle.gs_rules.specs.Saying.{is_cut}
use Rattle.gs_rules.specs.Scoring.{is_graylisted}
use Rattle.gs_rules.specs.Tables.{Entries}
use Rattle.gs_rules.proofs.Handled.{StandsOnce}
use Rattle.gs_report.specs.declared.finished.Finished.{Finished}
use Rattle.gs_seats.specs.Rounds.{neighbours, peer_in}
use Rattle.gs_seats.proofs.Truths.{is_same, same_self}
use Rattle.gs_counts.specs.declared.fate.Fate.{Fate}
use Rattle.gs_counts.specs.declared.happening.Happening.{Happening}
use Rattle.gs_counts.specs.declared.happening.Scene.{Scene}
use Rattle.gs_counts.specs.declared.kind.Kind.TheVariants.{RpcsSent}
use Rattle.gs_counts.specs.declared.lane.Lane.{Lane}
use Rattle.gs_counts.specs.Changes.{refusal_happenings}
use Rattle.gs_counts.specs.Fates.{fate_after}
use Rattle.gs_counts.specs.Happenings.{heard_of, of_peer, on_none}
use Rattle.gs_counts.specs.Heard.{event_happenings, fallen_happenings, loss_happenings, part_happenings}
use Rattle.gs_counts.specs.Lanes.{cut_off, end_happenings, fitting_to, frame_happenings, frames_out, held_after, lane_happenings, lane_of, lane_sent, let_out, links_happenings, put_out, raw_happenings}
use Rattle.gs_counts.specs.Rows.{amount_in}
use Rattle.gs_counts.specs.Runs.{done_happenings, entry_happenings, peer_happenings, trace_happenings}
use Rattle.gs_counts.specs.Said.{lane_told}
use Rattle.gs_counts.specs.Standing.{goes_over, link_of}
use Rattle.gs_counts.proofs.Adding.{adds, amount_is, and_nothing, both_if, no_sum, none_if, nothing_and, same_sum, sum_of_each}
use Rattle.gs_counts.proofs.Framed.{framed, frames_by, frames_over}
use Rattle.gs_counts.proofs.OnePeer.{sum_once}
use Rattle.gs_counts.proofs.OtherKinds.{AreOther, fallen_by_part, fallen_by_time, loss_other, no_other, none_sent, part_other, raws_other, refusals_other, sum_of_done}

-- ---- a lane

one_frame : (is : Bool) (n : ℕ) → ((0 + (if is then 1 else 0)) + 0) + (if is then n else 0) ≡ (if is then suc n else 0)
one_frame true n = omega arith
one_frame false n = refl

module _ (stands : Happening → Bool) where
  abbrev sends : Happening → ℕ
  sends h = adds stands RpcsSent h

  -- whether a frame stands there
  abbrev counts : Scene → Bool
  counts s = stands (on_none s RpcsSent 1)

  none_other : (hs : List Happening) → AreOther hs → sum_by sends hs ≡ 0
  none_other hs other = no_other sends (none_sent stands) hs other

  frames_sent : (s : Scene) (vs : List Rpc) → sum_by sends (frames_out s vs) ≡ (if counts s then length vs else 0)
  frames_sent s [] = none_if (counts s)
  frames_sent s (v ∷ vs) =
      sum_by-append sends (frame_happenings s (length (frame v))) (frames_out s vs)
      ∙ ap (λ (n : ℕ). ((0 + (if counts s then 1 else 0)) + 0) + n) (frames_sent s vs)
      ∙ one_frame (counts s) (length vs)

  put_sent : (s : Scene) (l : Lane) (e : Entry) → sum_by sends (put_out s l e) ≡ (if counts s then length (frames_by l e) else 0)
  put_sent s l e =
      let vs : List Rpc = fitting_to l.to e.effects.sends in
      let full : List Rpc = let_out l.gathered vs in
      let cut : List Rpc = cut_off (is_cut l.to e.event) (held_after l.gathered vs) in
      let raw : List Happening = raw_happenings s l.to e.event in
      sum_by-append sends (frames_out s full) (end_happenings s (lane_sent l vs) e.event)
      ∙ ap₂ (λ (m n : ℕ). m + n) (frames_sent s full)
      (sum_by-append sends (frames_out s cut) raw
      ∙ ap₂ (λ (m n : ℕ). m + n) (frames_sent s cut) (none_other raw (raws_other s l.to e.event))
      ∙ and_nothing (if counts s then length cut else 0))
      ∙ both_if (counts s) (length full) (length cut)
      ∙ ap (λ (n : ℕ). if counts s then n else 0) (sym (length-append full cut))

  pub lane_sends : (s : Scene) (l : Lane) (e : Entry) → sum_by sends (lane_happenings s l e) ≡ (if counts (heard_of s l.to) then length (frames_over l e) else 0)
  lane_sends s l e = by l.is_open
    where
      by : (b : Bool) → sum_by sends (if b then put_out (heard_of s l.to) l e else []) ≡ (if counts (heard_of s l.to) then length (if b then frames_by l e else []) else 0)
      by true = put_sent (heard_of s l.to) l e
      by false = none_if (counts (heard_of s l.to))

-- ---- one neighbour

told_sends : (p q : PeerNo) (L : Entries) → sum_by (adds (λ (h : Happening). true) RpcsSent) (lane_told p q L) ≡ length (framed L q)
told_sends p q [] = refl
told_sends p q (e ∷ L) =
    sum_by-append (adds (λ (h : Happening). true) RpcsSent) (lane_told p q L) (lane_happenings (of_peer e.at p) (lane_of L q) e)
    ∙ ap₂ (λ (m n : ℕ). m + n) (told_sends p q L) (lane_sends (λ (h : Happening). true) (of_peer e.at p) (lane_of L q) e)
    ∙ sym (length-append (framed L q) (frames_over (lane_of L q) e))

pub told_are_framed : (p q : PeerNo) (L : Entries) → amount_in (lane_told p q L) RpcsSent ≡ length (framed L q)
told_are_framed p q L = amount_is RpcsSent (lane_told p q L) ∙ told_sends p q L

-- ---- all neighbours

-- what one adds to the RPCs that went out from one peer to another
abbrev pub went : PeerNo → PeerNo → Happening → ℕ
went from to h = adds (λ x. goes_over from to (link_of x)) RpcsSent h

module _ (from to : PeerNo) where
  none_go : (hs : List Happening) → AreOther hs → sum_by (went from to) hs ≡ 0
  none_go hs other = no_other (went from to) (none_sent (λ x. goes_over from to (link_of x))) hs other

  -- what a peer puts out to its neighbours
  module _ (p : PeerNo) (L : Entries) (e : Entry) where
    abbrev over : Bool → PeerNo → ℕ
    over is q = if is && same_peer q to then length (frames_over (lane_of L q) e) else 0

    links_go : (qs : List PeerNo) → sum_by (went from to) (links_happenings qs (of_peer e.at p) L e) ≡ sum_by (over (same_peer p from)) qs
    links_go qs =
        sum_of_each (went from to) (λ (q : PeerNo). lane_happenings (of_peer e.at p) (lane_of L q) e) qs
        ∙ same_sum (λ (q : PeerNo). sum_by (went from to) (lane_happenings (of_peer e.at p) (lane_of L q) e)) (over (same_peer p from)) qs (λ q. lane_sends (λ x. goes_over from to (link_of x)) (of_peer e.at p) (lane_of L q) e)

    links_of_one : (qs : List PeerNo) (is : Bool) → (is ≡ true → StandsOnce to qs) → sum_by (over is) qs ≡ (if is then length (frames_over (lane_of L to) e) else 0)
    links_of_one qs true once =
        sum_once (over true) to qs (λ q apart. ap (λ (b : Bool). if b then length (frames_over (lane_of L q) e) else 0) apart) (once refl)
        ∙ ap (λ (b : Bool). if b then length (frames_over (lane_of L to) e) else 0) (same_self to)
    links_of_one qs false once = no_sum (over false) qs (λ q. refl)

  -- ---- an event

  module _ (p : Peer) (L : Entries) (at : Millis) (fate : Message → List Mark → Fate) (s : Scene) where
    abbrev both : List Fallen → Event → List Mark → ℕ
    both fs event shown = sum_by (went from to) (flat_map (fallen_happenings s) fs) + sum_by (went from to) (event_happenings fate s fs event shown)

    event_quiet : (event : Event) (shown : List Mark) → both (fell_away p L at event) event shown ≡ 0
    event_quiet (Heard q rpc) shown = by (is_graylisted p L at.0 q)
      where
        by : (b : Bool) → both (if b then Graylisted q ∷ [] else []) (Heard q rpc) shown ≡ 0
        by true = refl
        by false = refl
    event_quiet (Part q part) shown =
        ap₂ (λ (m n : ℕ). m + n)
        (none_go (flat_map (fallen_happenings s) (fell_away p L at (Part q part))) (fallen_by_part s p L at.0 q part))
        (none_go (part_happenings fate (heard_of s q) part shown) (part_other fate (heard_of s q) part shown))
    event_quiet BeatBegin shown =
        ap (λ (n : ℕ). n + 0) (none_go (flat_map (fallen_happenings s) (fell_away p L at BeatBegin)) (fallen_by_time s p L at.0))
    event_quiet (Lost q loss) shown =
        ap (λ (n : ℕ). 0 + n) (none_go (loss_happenings (heard_of s q) loss) (loss_other (heard_of s q) loss))
    event_quiet (Late q rpc) shown = refl
    event_quiet (Step step) shown = refl
    event_quiet (Own act) shown = refl
    event_quiet Decay shown = refl
    event_quiet (RoundEnd r) shown = refl
    event_quiet Shut shown = refl

  -- ---- a trace

  module _ (plan : Plan) (once : StandsOnce to (neighbours plan from)) (p : PeerNo) where
    once_of : same_peer p from ≡ true → StandsOnce to (neighbours plan p)
    once_of is = subst (λ (q : PeerNo). StandsOnce to (neighbours plan q)) (sym (is_same p from is)) once

    entry_went : (L : Entries) (e : Entry) → sum_by (went from to) (entry_happenings plan p L e) ≡ (if same_peer p from then length (frames_over (lane_of L to) e) else 0)
    entry_went L e =
        let fs : List Fallen = fell_away (peer_in plan p) L e.at e.event in
        let s : Scene = of_peer e.at p in
        let all : ℕ = if same_peer p from then length (frames_over (lane_of L to) e) else 0 in
        sum_by-append (went from to) (done_happenings (fate_after L) s fs e) (links_happenings (neighbours plan p) s L e)
        ∙ ap₂ (λ (m n : ℕ). m + n)
        (sum_of_done (went from to) (none_sent (λ x. goes_over from to (link_of x))) (fate_after L) s fs e
        ∙ event_quiet (peer_in plan p) L e.at (fate_after L) s e.event e.effects.marks)
        (links_go p L e (neighbours plan p) ∙ links_of_one p L e (neighbours plan p) (same_peer p from) once_of)
        ∙ sym (nothing_and all)

    trace_went : (L : Entries) → sum_by (went from to) (trace_happenings plan p L) ≡ (if same_peer p from then length (framed L to) else 0)
    trace_went [] = none_if (same_peer p from)
    trace_went (e ∷ L) =
        sum_by-append (went from to) (trace_happenings plan p L) (entry_happenings plan p L e)
        ∙ ap₂ (λ (m n : ℕ). m + n) (trace_went L) (entry_went L e)
        ∙ both_if (same_peer p from) (length (framed L to)) (length (frames_over (lane_of L to) e))
        ∙ ap (λ (n : ℕ). if same_peer p from then n else 0) (sym (length-append (framed L to) (frames_over (lane_of L to) e)))

  pub peer_went : (plan : Plan) → StandsOnce to (neighbours plan from) → (x : PeerNo × Finished) → sum_by (went from to) (peer_happenings plan x) ≡ (if same_peer x.0 from then length (framed x.1.trace to) else 0)
  peer_went plan once x =
      let lines : List Happening = flat_map (refusal_happenings x.0) x.1.refused in
      sum_by-append (went from to) (trace_happenings plan x.0 x.1.trace) lines
      ∙ ap₂ (λ (m n : ℕ). m + n) (trace_went plan once x.0 x.1.trace) (none_go lines (refusals_other x.0 x.1.refused))
      ∙ and_nothing (if same_peer x.0 from then length (framed x.1.trace to) else 0)
