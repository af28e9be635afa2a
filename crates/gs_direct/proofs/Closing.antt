-- After the last round all shut down, and hear what is late: that is a run.
use Rattle.std.proofs.Common.{◌≡◌, ◌<◌, ◌*◌, ℕ, suc, Bool, true, false, if◌then◌else◌, List, [], ◌∷◌, ◌++◌, length, map, Option, None, Some, inl, inr, refl, sym, ap, ap₂, subst, subst₂, ◌∙◌, append-nil, arith}
use Rattle.std.specs.Prelude.{option_map, unwrap_or, slice_get, option_to_list, Vec}
use Rattle.std.specs.List.{flat_map, AllByRecursion, AllZip}
use Rattle.std.specs.declared.alloc.Global.{Global}
use Rattle.std.proofs.lemmas.Bool.{cases_lt}
use Rattle.std.proofs.lemmas.Option.{same_Some, slice_get-map}
use Rattle.gs_base.specs.declared.names.PeerNo.{PeerNo}
use Rattle.gs_base.specs.declared.names.Millis.{Millis}
use Rattle.gs_base.specs.declared.rpc.Rpc.{Rpc}
use Rattle.gs_base.specs.Tokens.{Byte, Close, Said, bytes_of}
use Rattle.gs_params.specs.Seeding.{seeded_after, seeded_word}
use Rattle.gs_plan.specs.declared.plan.Plan.{Plan}
use Rattle.gs_wire.specs.Codec.{codec}
use Rattle.gs_rules.specs.declared.event.Event.{Event}
use Rattle.gs_rules.specs.declared.event.Event.TheVariants.{Shut}
use Rattle.gs_rules.specs.declared.trace.Entry.{Entry}
use Rattle.gs_rules.specs.Peers.{Peer as RulesPeer}
use Rattle.gs_rules.specs.Tables.{Entries, up, up_after}
use Rattle.gs_rules.specs.Results.{scores_of}
use Rattle.gs_rules.specs.Rules.{rule_of}
use Rattle.gs_rules.specs.Modes.{Follows, exact, free}
use Rattle.gs_rules.specs.Legal.{Comes, Legal, LegalOn}
use Rattle.gs_rules.specs.Saying.{Outgoing, behind_entry, behind_event, gathered, out, outgoing, sending_all}
use Rattle.gs_rules.specs.Hearing.{ComesAfter, Inbound, IsBetween, after, bytes_before, closes}
use Rattle.gs_rules.specs.Rounds.{AfterRounds, Closing, Does, Hear, KeepsRounds, Seat, Stop, Todo, ending, hears, hears_of, moment_of}
use Rattle.gs_rules.proofs.Deliveries.{legal_before}
use Rattle.gs_rules.proofs.Each.{each_weaker}
use Rattle.gs_rules.proofs.Gathered.{gathered_after_rounds}
use Rattle.gs_rules.proofs.Handled.{GoesOn, does_on}
use Rattle.gs_rules.proofs.Legality.{legal_newest}
use Rattle.gs_rules.proofs.Spelled.{bytes_of_append}
use Rattle.gs_report.specs.declared.finished.Finished.{Finished}
use Rattle.gs_router.specs.Following.{AreInOrder}
use Rattle.gs_router.specs.Log.{this_round}
use Rattle.gs_seats.specs.ListsByPeer.{list_at}
use Rattle.gs_seats.specs.Rounds.{IsRun, first_words, neighbours, peer_in, peer_no, said_to, seat_in, trace_of}
use Rattle.gs_seats.specs.Played.{IsPlayedLife}
use Rattle.gs_seats.proofs.ByNumber.{as_many, at_number, each_by_number, zip_by_number}
use Rattle.gs_seats.proofs.Joined.{IsJoined, joined_back, neighbours_joined, of_joined}
use Rattle.gs_seats.proofs.Lives.{played_is_run}
use Rattle.gs_seats.proofs.NeighbourLists.{links_in}
use Rattle.gs_seats.proofs.Ordered.{legal_in_order}
use Rattle.gs_player.specs.Words.{StandsAfter}
use Rattle.gs_player.proofs.Growing.{rounds_stay}
use Rattle.gs_player.proofs.Growing as growing
use Rattle.gs_player.proofs.RoundWords.{bytes_are}
use Rattle.gs_player.proofs.Runs.{legal_more}
use Rattle.gs_player.proofs.Since.{down_stays, out_no_more}
use Rattle.gs_player.proofs.Spoken.{told_more}
use Rattle.gs_player.proofs.Words.{bytes_stay, whole_before}
use Rattle.gs_direct.specs.declared.letter.Letter.{Letter}
use Rattle.gs_direct.specs.declared.peer.Peer.{Peer}
use Rattle.gs_direct.specs.Letters.{all_heard}
use Rattle.gs_direct.specs.Peers.{Closes, left_of}
use Rattle.gs_direct.specs.Observing.{HaveGrown}
use Rattle.gs_direct.specs.Runs.{AreAt, Delivers, HaveClosed, IsAt, IsReady, said_so_far, trace_at}
use Rattle.gs_direct.proofs.Arriving.{AreHeard, IsHeard, all_arrive}
use Rattle.gs_direct.proofs.Rounds.{Alike, alike_append, alike_does, alike_same, less_ending, more_ending}
use Rattle.gs_direct.proofs.Rounding.{close_adds, rounds_end}
use Rattle.gs_direct.proofs.Turning.{nobody, of_tos, trace_is}

-- ---- what a peer says at the end

-- a shutting peer sends nothing, so no byte is said
shut_says : (p : RulesPeer) (at : Millis) (K M : Entries) (q : PeerNo) → Legal p M → gathered codec K q ≡ None → Comes p at (Some Shut) K M → bytes_of (out codec M q) ≡ bytes_of (out codec K q)
shut_says p at K M q legal none opens =
    let begun = opens.begun in
    let e : Entry = begun.first in
    let down : up (e ∷ K) q ≡ false = ap (λ (event : Event). up_after q event (up K q)) begun.opened in
    let legally : Legal p (e ∷ K) = legal_before p begun.paid (e ∷ K) (subst (Legal p) begun.entries legal) in
    let effects : Follows free (rule_of p K at Shut) tt e.effects tt =
    subst₂ (λ (now : Millis) (event : Event). Follows free (rule_of p K now event) tt e.effects tt) begun.moment begun.opened (legal_newest p e K legally).effects in
    let o : Outgoing = outgoing codec K q in
    let alike : behind_entry codec q o e ≡ behind_event codec q o Shut =
    ap₂ (λ (rpcs : List Rpc) (event : Event). behind_event codec q (sending_all codec o rpcs) event) (effects.0.sends q) begun.opened in
    let closing : (behind_event codec q o Shut).said ≡ o.said ++ Close ∷ [] =
    ap (λ (held : Option Rpc). (o.said ++ map Byte (flat_map codec.frame (option_to_list held))) ++ Close ∷ []) none ∙ ap (λ (w : Said). w ++ Close ∷ []) (append-nil o.said) in
    let after_one : bytes_of (out codec (e ∷ K) q) ≡ bytes_of (out codec K q) = by (up K q) o (ap (λ (g : Outgoing). g.said) alike ∙ closing) in
    ap (λ (N : Entries). bytes_of (out codec N q)) begun.entries
    ∙ ap (λ (g : Outgoing). bytes_of g.said) (out_no_more (e ∷ K) q begun.paid down)
    ∙ after_one
  where
    by : (b : Bool) (o : Outgoing) → (behind_entry codec q o opens.begun.first).said ≡ o.said ++ Close ∷ [] → bytes_of (if b then behind_entry codec q o opens.begun.first else o).said ≡ bytes_of o.said
    by true o is = ap bytes_of is ∙ bytes_of_append o.said (Close ∷ []) ∙ append-nil (bytes_of o.said)
    by false o is = refl

-- ---- what comes late

-- What a neighbour said in the last round is heard late, where it says no byte since.
one_late : (seat : Seat) (said : PeerNo → Said) (N : Entries) (q : PeerNo) (w more : Said) (is_open : Bool) (letters : List Letter)
    → said q ≡ w ++ more
    → bytes_of (said q) ≡ bytes_of w
    → StandsAfter (suc seat.rounds) w is_open
    → up N q ≡ false
    → Delivers seat.rounds w q letters
    → IsHeard (λ s x. ComesAfter seat.rounds (said s) x) N q letters
one_late seat said N q w more is_open letters is silent stands down d =
    let late : Inbound = record d.inbound { closes = closes (after seat.rounds (said q)) } in
    let before : bytes_before seat.rounds (said q) ≡ bytes_before seat.rounds w = ap (bytes_before seat.rounds) is ∙ bytes_stay seat.rounds w more (whole_before seat.rounds w stands.ended) in
    let all : bytes_of (said q) ≡ bytes_before (suc seat.rounds) w = silent ∙ bytes_are (suc seat.rounds) w is_open stands in
    let between : IsBetween (bytes_before seat.rounds w) (bytes_before (suc seat.rounds) w) d.inbound = d.comes.0 in
    let moved : IsBetween (bytes_before seat.rounds (said q)) (bytes_of (said q)) d.inbound =
    subst₂ (λ (xs ys : List ℕ). IsBetween xs ys d.inbound) (sym before) (sym all) between in
    let rpcs : List Todo = map (Hear q) d.inbound.rpcs in
    record {
      inbound = late;
      was_said = (record { earlier = moved.earlier; spell_before = moved.spell_before; stream = moved.stream }, refl);
      alike = elim d.heard [
        | inl heard ↦ subst (λ (todos : List Todo). Alike N todos (hears_of q late)) (sym heard)
            (alike_append N rpcs rpcs (ending q d.inbound) (ending q late) (alike_same N rpcs) (less_ending N q d.inbound (ending q late) down (more_ending N q late down)))
        | inr (only, ended) ↦ subst (λ (todos : List Todo). Alike N todos (hears_of q late)) (sym (only ∙ sym (append-nil rpcs)))
            (alike_append N rpcs rpcs [] (ending q late) (alike_same N rpcs) (more_ending N q late down))
      ];
      fit = d.fit;
    }

-- ---- the end of all

module _ {T : Type 0} (plan : Plan) (olds news : List (Peer T)) (mail : List (Vec Letter Global))
    (at_end : AreAt plan (suc plan.rounds) olds mail)
    (closed : HaveClosed (moment_of (seat_in plan (peer_no 0)) Closing) olds mail (length plan.peers) news) where
  abbrev now : Millis
  now = moment_of (seat_in plan (peer_no 0)) Closing

  abbrev lives : List Finished
  lives = map (left_of now) news

  -- A peer before and after it has shut down.
  record Ended (p : PeerNo) : Type 0 where
    old : Peer T
    new : Peer T
    was : slice_get olds p.0 ≡ Some old
    is : slice_get news p.0 ≡ Some new
    at : IsAt plan (suc plan.rounds) olds p old
    closes_so : Closes now (list_at mail p.0) old new

  ended : (p : PeerNo) → p.0 < length plan.peers → Ended p
  ended p below =
      let (old, was, at) = at_number (IsAt plan (suc plan.rounds) olds) plan p olds below at_end.each in
      let one = closed.done p.0 below in
      let same : one.old ≡ old = same_Some one.old old (sym one.was ∙ was) in
      record {
        old = old;
        new = one.new;
        was = was;
        is = one.is;
        at = at;
        closes_so = subst (λ (x : Peer T). Closes now (list_at mail p.0) x one.new) same one.closes_so;
      }

  trace_left : (q : PeerNo) (new : Peer T) → slice_get news q.0 ≡ Some new → trace_of lives q ≡ new.router.trace
  trace_left q new is =
      ap (λ (found : Option Finished). unwrap_or (option_map (λ (life : Finished). life.trace) found) []) (slice_get-map (left_of now) news q.0 ∙ ap (option_map (left_of now)) is)

  module _ (q : PeerNo) (m : Ended q) where
    abbrev K : Entries
    K = m.old.router.trace

    abbrev M : Entries
    M = m.new.router.trace

    legal : LegalOn (exact seeded_word seeded_after) (peer_in plan q) (first_words plan q) [] M m.new.words
    legal = legal_more (peer_in plan q) m.old.router.peer (first_words plan q) m.old.words m.new.words K M m.at.router m.at.legal m.closes_so.runs.appended

    freely : Legal (peer_in plan q) M
    freely = subst (λ (x : RulesPeer). Legal x M) (m.closes_so.runs.peer ∙ m.at.router) m.closes_so.runs.runs_on.legal

    goes_on : GoesOn K M
    goes_on = does_on m.old.router.peer now (Stop ∷ all_heard (list_at mail q.0)) K M [] m.closes_so.runs.does

    -- it shuts down first
    record Shuts : Type 0 where
      there : Entries
      shuts : Comes (peer_in plan q) now (Some Shut) K there
      hears_late : Does (peer_in plan q) now (all_heard (list_at mail q.0)) there M []
      on : GoesOn there M
      down : (s : PeerNo) → up there s ≡ false

    shuts : Shuts
    shuts =
        let did = subst (λ (x : RulesPeer). Does x now (Stop ∷ all_heard (list_at mail q.0)) K M []) m.at.router m.closes_so.runs.does in
        let (N, later, comes, rest, is) = did in
        record {
          there = N;
          shuts = comes;
          hears_late = subst (Does (peer_in plan q) now (all_heard (list_at mail q.0)) N M) (sym is) rest;
          on = does_on (peer_in plan q) now (all_heard (list_at mail q.0)) N M later rest;
          down = λ s. ap (λ (J : Entries). up J s) comes.begun.entries ∙ down_stays (comes.begun.first ∷ K) s comes.begun.paid (ap (λ (event : Event). up_after s event (up K s)) comes.begun.opened);
        }

    -- and says no byte
    silent : (p : PeerNo) → bytes_of (out codec M p) ≡ bytes_of (out codec K p)
    silent p =
        let s = shuts in
        let legally : Legal (peer_in plan q) s.there = legal_before (peer_in plan q) s.on.0 s.there (subst (Legal (peer_in plan q)) s.on.1 freely) in
        ap (λ (J : Entries). bytes_of (out codec J p)) s.on.1
        ∙ ap (λ (g : Outgoing). bytes_of g.said) (out_no_more s.there p s.on.0 (s.down p))
        ∙ shut_says (peer_in plan q) now K s.there p legally (gathered_after_rounds codec (seat_in plan q) (said_so_far olds q) (suc plan.rounds) K m.old.refused.items p m.at.played) s.shuts

  grows : (p q : PeerNo) → q.0 < length plan.peers → (more : Said) × (said_to lives p q ≡ said_so_far olds p q ++ more)
  grows p q below =
      let m = ended q below in
      let on = goes_on q m in
      let (more, is) = told_more p (K q m) on.0 in (
        more,
        ap (λ (J : Entries). out codec J p) (trace_left q m.new m.is ∙ on.1) ∙ is
            ∙ ap (λ (J : Entries). out codec J p ++ more) (sym (trace_is olds q m.old m.was)),
      )

  all_silent : (p q : PeerNo) → q.0 < length plan.peers → bytes_of (said_to lives p q) ≡ bytes_of (said_so_far olds p q)
  all_silent p q below =
      let m = ended q below in
      ap (λ (J : Entries). bytes_of (out codec J p)) (trace_left q m.new m.is)
      ∙ silent q m p
      ∙ ap (λ (J : Entries). bytes_of (out codec J p)) (sym (trace_is olds q m.old m.was))

  -- how what q said to p stands after the last round
  record Stood (p q : PeerNo) : Type 0 where
    is_open : Bool
    stands : StandsAfter (suc plan.rounds) (said_so_far olds p q) is_open

  stood : (p q : PeerNo) → p.0 < length plan.peers → IsJoined plan p q → Stood p q
  stood p q below joined =
      let m = ended q joined.0 in
      let each : AllByRecursion (λ (s : PeerNo). (b : Bool) × StandsAfter (suc plan.rounds) (out codec (K q m) s) b) (neighbours plan q) =
      subst (AllByRecursion (λ (s : PeerNo). (b : Bool) × StandsAfter (suc plan.rounds) (out codec (K q m) s) b)) m.at.links
      (of_tos (IsReady (suc plan.rounds) (K q m)) (λ (s : PeerNo). (b : Bool) × StandsAfter (suc plan.rounds) (out codec (K q m) s) b) (λ o ready. (o.is_open, ready.stands)) m.old.outlets.items m.at.ready) in
      let (b, there) = of_joined (λ (s : PeerNo). (b : Bool) × StandsAfter (suc plan.rounds) (out codec (K q m) s) b) plan q p (joined_back plan p q below joined) each in
      record { is_open = b; stands = subst (λ (J : Entries). StandsAfter (suc plan.rounds) (out codec J p) b) (sym (trace_is olds q m.old m.was)) there }

  one_life : (p : PeerNo) (new : Peer T) → p.0 < length plan.peers → slice_get news p.0 ≡ Some new → IsPlayedLife plan lives p (left_of now new)
  one_life p new below is =
      let m = ended p below in
      subst (λ (x : Peer T). IsPlayedLife plan lives p (left_of now x)) (same_Some m.new new (sym m.is ∙ is)) (record {
        chosen = (m.new.words, legal p m);
        keeps = keeps m;
        meshes = refl;
        scores = ap (λ (x : RulesPeer). scores_of x (M p m) (plan.rounds * plan.round_ms)) (m.closes_so.runs.peer ∙ m.at.router);
      })
    where
      seat : Seat
      seat = seat_in plan p

      said : PeerNo → Said
      said = said_to lives p

      played : (m : Ended p) → AfterRounds seat said (suc plan.rounds) (K p m) m.old.refused.items
      played m =
          rounds_stay seat (suc plan.rounds) (said_so_far olds p) said (K p m) m.old.refused.items
          (subst (AllByRecursion (growing.GoesOn plan.rounds (said_so_far olds p) said)) (sym (links_in plan p))
          (each_weaker (IsJoined plan p) (growing.GoesOn plan.rounds (said_so_far olds p) said) (λ q joined. (whole_before plan.rounds (said_so_far olds p q) (stood p q below joined).stands.ended, (grows p q joined.0).0, (grows p q joined.0).1)) (neighbours plan p) (neighbours_joined plan p)))
          m.at.played

      late : (m : Ended p) → AreHeard (λ q x. ComesAfter plan.rounds (said q) x) (shuts p m).there (neighbours plan p) (list_at mail p.0)
      late m =
          all_arrive plan.dials plan.rounds olds p (λ q x. ComesAfter plan.rounds (said q) x) (shuts p m).there (length plan.peers) (length plan.peers) (list_at mail p.0) (omega arith)
          (λ q last within joined d.
          one_late seat said (shuts p m).there q (said_so_far olds p q) (grows p q within).0 (stood p q below (within, joined)).is_open last (grows p q within).1 (all_silent p q within) (stood p q below (within, joined)).stands ((shuts p m).down q) d)
          (at_end.letters p below)

      keeps : (m : Ended p) → KeepsRounds seat said (M p m) m.new.refused.items
      keeps m =
          let s = shuts p m in
          let h = late m in
          let does : Does (peer_in plan p) now (hears (neighbours plan p) h.inbound) s.there (M p m) [] =
          alike_does (peer_in plan p) now s.there (all_heard (list_at mail p.0)) (hears (neighbours plan p) h.inbound) s.there (M p m) [] h.alike ([], refl) s.hears_late in
          record {
            last = K p m;
            played = subst (AfterRounds seat said (suc plan.rounds) (K p m)) (sym (ap (λ (x : Peer T). x.refused.items) m.closes_so.rest)) (played m);
            closed = record {
              inbound = h.inbound;
              was_said = subst (λ (qs : List PeerNo). AllZip (λ q x. ComesAfter plan.rounds (said q) x) qs h.inbound) (sym (links_in plan p)) h.was_said;
              does = (s.there, [], s.shuts, subst (λ (qs : List PeerNo). Does (peer_in plan p) now (hears qs h.inbound) s.there (M p m) []) (sym (links_in plan p)) does, refl);
            };
          }

  -- each peer is there, and its trace is in order
  pub ended_in_order : (p : PeerNo) → p.0 < length plan.peers → (new : Peer T) × (slice_get news p.0 ≡ Some new) × AreInOrder new.router.trace
  ended_in_order p below =
      let m = ended p below in
      (m.new, m.is, legal_in_order (exact seeded_word seeded_after) (peer_in plan p) (first_words plan p) m.new.router.trace m.new.words (legal p m))

  -- each trace has grown by what came after the last round
  pub grown : HaveGrown (trace_at olds) (trace_at news)
  grown p = elim (cases_lt p.0 (length plan.peers)) [
    | inl below ↦
        let m = ended p below in
        let now_is : trace_at news p ≡ M p m = trace_is news p m.new m.is in
        let does = subst (λ (x : RulesPeer). Does x now (Stop ∷ all_heard (list_at mail p.0)) (K p m) (M p m) []) m.at.router m.closes_so.runs.does in
        now_is
        ∙ close_adds (peer_in plan p) now (list_at mail p.0) (K p m) (M p m) [] (freely p m) does (rounds_end (seat_in plan p) (said_so_far olds p) (suc plan.rounds) (K p m) m.old.refused.items m.at.played)
        ∙ ap₂ (λ (I J : Entries). this_round I ++ J) (sym now_is) (sym (trace_is olds p m.old m.was))
    | inr above ↦ let many = as_many (IsAt plan (suc plan.rounds) olds) plan olds at_end.each in nobody olds news p (omega (arith, above, many)) (omega (arith, above, many, closed.many))
  ]

  pub ended_run : IsRun plan lives
  ended_run =
      let many : length news ≡ length plan.peers = closed.many ∙ as_many (IsAt plan (suc plan.rounds) olds) plan olds at_end.each in
      played_is_run plan lives (each_by_number (λ p new. IsPlayedLife plan lives p (left_of now new)) (IsPlayedLife plan lives) (left_of now) plan news (λ p new below is life. life)
      (zip_by_number (λ p new. IsPlayedLife plan lives p (left_of now new)) plan news many (λ p new below is. one_life p new below is)))
