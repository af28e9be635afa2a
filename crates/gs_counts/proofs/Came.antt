-- The RPCs of a neighbour that a trace has handled are those that are counted as heard, as graylisted and as late.
use Rattle.std.proofs.Common.{◌≡◌, ℕ, ◌+◌, Bool, true, false, if◌then◌else◌, List, [], ◌∷◌, length, refl, sym, ap, ap₂, ◌∙◌, length-append, arith}
use Rattle.std.specs.Prelude.{◌&&◌}
use Rattle.std.specs.List.{flat_map, sum_by}
use Rattle.std.proofs.lemmas.List.Sums.{sum_by-append}
use Rattle.gs_base.specs.declared.names.Millis.{Millis}
use Rattle.gs_base.specs.declared.names.PeerNo.{PeerNo}
use Rattle.gs_base.specs.declared.mark.Mark.{Mark}
use Rattle.gs_base.specs.declared.rpc.Message.{Message}
use Rattle.gs_base.specs.declared.rpc.Rpc.{Rpc}
use Rattle.gs_base.specs.Names.{same_peer}
use Rattle.gs_plan.specs.declared.plan.Plan.{Plan}
use Rattle.gs_wire.specs.Messages.{frame}
use Rattle.gs_rules.specs.declared.event.Event.{Event}
use Rattle.gs_rules.specs.declared.event.Event.TheVariants.{Heard, Late, Part, BeatBegin, Step, Own, Lost, Decay, RoundEnd, Shut}
use Rattle.gs_rules.specs.declared.fallen.Fallen.{Fallen}
use Rattle.gs_rules.specs.declared.fallen.Fallen.TheVariants.{Graylisted}
use Rattle.gs_rules.specs.declared.trace.Entry.{Entry}
use Rattle.gs_rules.specs.FellAway.{fell_away}
use Rattle.gs_rules.specs.Peers.{Peer}
use Rattle.gs_rules.specs.Saying.{handled, handled_by, is_cut}
use Rattle.gs_rules.specs.Scoring.{is_graylisted}
use Rattle.gs_rules.specs.Tables.{Entries}
use Rattle.gs_report.specs.declared.finished.Finished.{Finished}
use Rattle.gs_seats.specs.Rounds.{neighbours, peer_in}
use Rattle.gs_counts.specs.declared.fate.Fate.{Fate}
use Rattle.gs_counts.specs.declared.happening.Happening.{Happening}
use Rattle.gs_counts.specs.declared.happening.Scene.{Scene}
use Rattle.gs_counts.specs.declared.lane.Lane.{Lane}
use Rattle.gs_counts.specs.Changes.{refusal_happenings}
use Rattle.gs_counts.specs.Fates.{fate_after}
use Rattle.gs_counts.specs.Happenings.{heard_of, of_peer}
use Rattle.gs_counts.specs.Heard.{event_happenings, fallen_happenings, loss_happenings, part_happenings}
use Rattle.gs_counts.specs.Lanes.{cut_off, end_happenings, fitting_to, frame_happenings, frames_out, held_after, lane_happenings, lane_of, lane_sent, let_out, links_happenings, put_out, raw_happenings}
use Rattle.gs_counts.specs.Runs.{done_happenings, entry_happenings, peer_happenings, trace_happenings}
use Rattle.gs_counts.specs.Standing.{goes_over, link_of}
use Rattle.gs_counts.proofs.Adding.{and_nothing, both_if, comes, no_sum, none_if, sum_of_each}
use Rattle.gs_counts.proofs.OtherKinds.{AreOther, fallen_by_part, fallen_by_time, loss_other, no_other, none_come, part_other, raws_other, refusals_other, sum_of_done}

-- what one adds to the RPCs that came from one peer to another
abbrev pub came : PeerNo → PeerNo → Happening → ℕ
came from to h = comes (λ x. goes_over from to (link_of x)) h

-- ---- numbers

graylisted : (n : ℕ) → (0 + (0 + n + 0)) + 0 ≡ n
graylisted n = omega arith

heard : (n : ℕ) → 0 + (0 + (n + 0 + 0)) ≡ n
heard n = omega arith

late : (n : ℕ) → (0 + (0 + 0 + n)) + 0 ≡ n
late n = omega arith

once : (from to : Bool) (rpc : Rpc) → ◌≡◌ {A = ℕ} (if from && to then 1 else 0) (if to then length (if from then rpc ∷ [] else []) else 0)
once true true rpc = refl
once true false rpc = refl
once false true rpc = refl
once false false rpc = refl

module _ (from to : PeerNo) where
  neither : (hs gs : List Happening) → AreOther hs → AreOther gs → (is : Bool) → sum_by (came from to) hs + sum_by (came from to) gs ≡ (if is then 0 else 0)
  neither hs gs h k is =
      ap₂ (λ (m n : ℕ). m + n) (none hs h) (none gs k) ∙ none_if is
    where
      none : (xs : List Happening) → AreOther xs → sum_by (came from to) xs ≡ 0
      none xs other = no_other (came from to) (none_come (λ x. goes_over from to (link_of x))) xs other

  -- ---- an event

  module _ (p : Peer) (L : Entries) (at : Millis) (fate : Message → List Mark → Fate) (s : Scene) where
    abbrev both : List Fallen → Event → List Mark → ℕ
    both fs event shown = sum_by (came from to) (flat_map (fallen_happenings s) fs) + sum_by (came from to) (event_happenings fate s fs event shown)

    event_came : (event : Event) (shown : List Mark) → both (fell_away p L at event) event shown ≡ (if same_peer s.peer to then length (handled_by from event) else 0)
    event_came (Heard q rpc) shown = by (is_graylisted p L at.0 q)
      where
        by : (b : Bool) → both (if b then Graylisted q ∷ [] else []) (Heard q rpc) shown ≡ (if same_peer s.peer to then length (if same_peer q from then rpc ∷ [] else []) else 0)
        by true = graylisted (if same_peer q from && same_peer s.peer to then 1 else 0) ∙ once (same_peer q from) (same_peer s.peer to) rpc
        by false = heard (if same_peer q from && same_peer s.peer to then 1 else 0) ∙ once (same_peer q from) (same_peer s.peer to) rpc
    event_came (Late q rpc) shown =
        late (if same_peer q from && same_peer s.peer to then 1 else 0) ∙ once (same_peer q from) (same_peer s.peer to) rpc
    event_came (Part q part) shown =
        neither (flat_map (fallen_happenings s) (fell_away p L at (Part q part))) (part_happenings fate (heard_of s q) part shown)
        (fallen_by_part s p L at.0 q part) (part_other fate (heard_of s q) part shown) (same_peer s.peer to)
    event_came BeatBegin shown =
        neither (flat_map (fallen_happenings s) (fell_away p L at BeatBegin)) [] (fallen_by_time s p L at.0) tt (same_peer s.peer to)
    event_came (Lost q loss) shown =
        neither [] (loss_happenings (heard_of s q) loss) tt (loss_other (heard_of s q) loss) (same_peer s.peer to)
    event_came (Step step) shown = none_if (same_peer s.peer to)
    event_came (Own act) shown = none_if (same_peer s.peer to)
    event_came Decay shown = none_if (same_peer s.peer to)
    event_came (RoundEnd r) shown = none_if (same_peer s.peer to)
    event_came Shut shown = none_if (same_peer s.peer to)

  -- ---- what goes out

  frames_none : (s : Scene) (vs : List Rpc) → sum_by (came from to) (frames_out s vs) ≡ 0
  frames_none s [] = refl
  frames_none s (v ∷ vs) =
      sum_by-append (came from to) (frame_happenings s (length (frame v))) (frames_out s vs)
      ∙ ap (λ (n : ℕ). 0 + n) (frames_none s vs)

  put_none : (s : Scene) (l : Lane) (e : Entry) → sum_by (came from to) (put_out s l e) ≡ 0
  put_none s l e =
      let vs : List Rpc = fitting_to l.to e.effects.sends in
      let cut : List Rpc = cut_off (is_cut l.to e.event) (held_after l.gathered vs) in
      let raw : List Happening = raw_happenings s l.to e.event in
      sum_by-append (came from to) (frames_out s (let_out l.gathered vs)) (end_happenings s (lane_sent l vs) e.event)
      ∙ ap₂ (λ (m n : ℕ). m + n) (frames_none s (let_out l.gathered vs))
      (sum_by-append (came from to) (frames_out s cut) raw
      ∙ ap₂ (λ (m n : ℕ). m + n) (frames_none s cut)
      (no_other (came from to) (none_come (λ x. goes_over from to (link_of x))) raw (raws_other s l.to e.event)))

  lane_none : (s : Scene) (l : Lane) (e : Entry) → sum_by (came from to) (lane_happenings s l e) ≡ 0
  lane_none s l e = by l.is_open
    where
      by : (b : Bool) → sum_by (came from to) (if b then put_out (heard_of s l.to) l e else []) ≡ 0
      by true = put_none (heard_of s l.to) l e
      by false = refl

  links_none : (qs : List PeerNo) (s : Scene) (L : Entries) (e : Entry) → sum_by (came from to) (links_happenings qs s L e) ≡ 0
  links_none qs s L e =
      sum_of_each (came from to) (λ (q : PeerNo). lane_happenings s (lane_of L q) e) qs
      ∙ no_sum (λ (q : PeerNo). sum_by (came from to) (lane_happenings s (lane_of L q) e)) qs (λ q. lane_none s (lane_of L q) e)

  -- ---- a trace

  module _ (plan : Plan) (p : PeerNo) where
    entry_came : (L : Entries) (e : Entry) → sum_by (came from to) (entry_happenings plan p L e) ≡ (if same_peer p to then length (handled_by from e.event) else 0)
    entry_came L e =
        let fs : List Fallen = fell_away (peer_in plan p) L e.at e.event in
        let s : Scene = of_peer e.at p in
        let done : List Happening = done_happenings (fate_after L) s fs e in
        sum_by-append (came from to) done (links_happenings (neighbours plan p) s L e)
        ∙ ap₂ (λ (m n : ℕ). m + n)
        (sum_of_done (came from to) (none_come (λ x. goes_over from to (link_of x))) (fate_after L) s fs e
        ∙ event_came (peer_in plan p) L e.at (fate_after L) s e.event e.effects.marks)
        (links_none (neighbours plan p) s L e)
        ∙ and_nothing (if same_peer p to then length (handled_by from e.event) else 0)

    pub trace_came : (L : Entries) → sum_by (came from to) (trace_happenings plan p L) ≡ (if same_peer p to then length (handled L from) else 0)
    trace_came [] = none_if (same_peer p to)
    trace_came (e ∷ L) =
        sum_by-append (came from to) (trace_happenings plan p L) (entry_happenings plan p L e)
        ∙ ap₂ (λ (m n : ℕ). m + n) (trace_came L) (entry_came L e)
        ∙ both_if (same_peer p to) (length (handled L from)) (length (handled_by from e.event))
        ∙ ap (λ (n : ℕ). if same_peer p to then n else 0) (sym (length-append (handled L from) (handled_by from e.event)))

  pub peer_came : (plan : Plan) (x : PeerNo × Finished) → sum_by (came from to) (peer_happenings plan x) ≡ (if same_peer x.0 to then length (handled x.1.trace from) else 0)
  peer_came plan x =
      let lines : List Happening = flat_map (refusal_happenings x.0) x.1.refused in
      sum_by-append (came from to) (trace_happenings plan x.0 x.1.trace) lines
      ∙ ap₂ (λ (m n : ℕ). m + n) (trace_came plan x.0 x.1.trace)
      (no_other (came from to) (none_come (λ y. goes_over from to (link_of y))) lines (refusals_other x.0 x.1.refused))
      ∙ and_nothing (if same_peer x.0 to then length (handled x.1.trace from) else 0)
