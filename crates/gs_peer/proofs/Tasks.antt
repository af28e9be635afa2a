-- What a running task keeps, when its player has played a round.
use Rattle.std.proofs.Common.{◌≡◌, ◌≤◌, ◌<◌, ◌+◌, ◌*◌, ℕ, suc, List, [], ◌∷◌, ◌++◌, length, map, refl, sym, ap, ap₂, subst, subst₂, ◌∙◌, ◌^◌, true, append_assoc, length-append, arith}
use Rattle.std.specs.List.{AllByRecursion}
use Rattle.gs_base.specs.declared.names.PeerNo.{PeerNo}
use Rattle.gs_base.specs.Tokens.{Said}
use Rattle.gs_plan.specs.declared.plan.Line.{Line}
use Rattle.gs_params.specs.Seeding.{SeededState, seeded_after, seeded_word}
use Rattle.gs_rules.specs.declared.trace.Entry.{Entry}
use Rattle.gs_rules.specs.declared.refusal.RefusedLine.{RefusedLine}
use Rattle.gs_rules.specs.Peers.{Peer, links_of}
use Rattle.gs_rules.specs.Tables.{Entries}
use Rattle.gs_rules.specs.Modes.{exact}
use Rattle.gs_rules.specs.Rounds.{Seat, Stop, moment_of, clock_of}
use Rattle.gs_rules.specs.Rounds as rounds
use Rattle.gs_router.specs.Router.{RouterView}
use Rattle.gs_ends.specs.Ends.{has}
use Rattle.gs_ends.specs.declared.ends.Ends.{Ghosts as EndsOf}
use Rattle.gs_peer.specs.declared.assignment.Assignment.{Assignment}
use Rattle.gs_peer.specs.declared.outboxes.Outboxes.{Outboxes}
use Rattle.gs_peer.specs.declared.phase.Phase.{Phase}
use Rattle.gs_peer.specs.declared.phase.Phase.TheVariants.{Playing, Closing}
use Rattle.gs_peer.specs.declared.player.Player.{Player}
use Rattle.gs_peer.specs.declared.running.Running.{Running}
use Rattle.gs_peer.specs.Inboxes.{InboxView, all_heard, in_next_phase}
use Rattle.gs_peer.specs.Kept.{Kept}
use Rattle.gs_peer.specs.Life.{words_of}
use Rattle.gs_peer.specs.Phases.{phase_of}
use Rattle.gs_peer.specs.Players.{PlaysRound}
use Rattle.gs_player.specs.Playing.{Runs, behind_heard}
use Rattle.gs_peer.specs.Running.{AllFull, Goes, IsKept, TellsSince, seat_of, seat_with}
use Rattle.gs_peer.proofs.Played.{kept_closed, kept_turned, own_rest}

-- ---- in a phase

pub at_round : (seat : Seat) (said sent : PeerNo → Said) (phase : Phase) (r : ℕ) (xs : List InboxView) (boxes : Outboxes) (v : RouterView) (refused : List RefusedLine) (first words : SeededState)
    → phase ≡ Playing r
    → Kept seat said sent (phase_of phase) xs boxes v refused first words
    → Kept seat said sent (rounds.Playing r) xs boxes v refused first words
at_round seat said sent phase r xs boxes v refused first words is k = subst (λ (p : Phase). Kept seat said sent (phase_of p) xs boxes v refused first words) is k

-- a round that is played is one of the seat's
pub in_time : (seat : Seat) (said sent : PeerNo → Said) (phase : Phase) (r : ℕ) (xs : List InboxView) (boxes : Outboxes) (v : RouterView) (refused : List RefusedLine) (first words : SeededState)
    → phase ≡ Playing r
    → Kept seat said sent (phase_of phase) xs boxes v refused first words
    → r ≤ seat.rounds
in_time seat said sent phase r xs boxes v refused first words is k = (at_round seat said sent phase r xs boxes v refused first words is k).begun.0

-- the trace has grown
grown : (told : ℕ) (K L : Entries) (es : List _) → told ≡ length K → L ≡ es ++ K → told ≤ length L
grown told K L es is added = omega (arith, is, ap length added, length-append es K)

added : (K L M : Entries) (es fs : List Entry) → L ≡ es ++ K → M ≡ fs ++ L → M ≡ (fs ++ es) ++ K
added K L M es fs first last = last ∙ ap (λ (N : Entries). fs ++ N) first ∙ sym (append_assoc fs es K)

pub told_before : (m : _) (now : _) (todos : List _) (v w : RouterView) (s t : _) (refused : List RefusedLine) (told : ℕ) → Runs m now todos v s w t refused → told ≡ length v.trace → told ≤ length w.trace
told_before m now todos v w s t refused told runs is = grown told v.trace w.trace runs.appended.entries is runs.appended.are

pub told_twice : (m : _) (now : _) (todos more : List _) (v w y : RouterView) (s t u : _) (refused later : List RefusedLine) (told : ℕ) → Runs m now todos v s w t refused → Runs m now more w t y u later → told ≡ length v.trace → told ≤ length y.trace
told_twice m now todos more v w y s t u refused later told runs behind is =
    grown told v.trace y.trace (behind.appended.entries ++ runs.appended.entries) is (added v.trace w.trace y.trace runs.appended.entries behind.appended.entries runs.appended.are behind.appended.are)

module _ (seat : Seat) (said sent : PeerNo → Said) (phase : Phase) (r told : ℕ) (lines : List (ℕ × Line)) (a b : Player) (old new : Outboxes) (first : SeededState)
    (k : Kept seat said sent (phase_of phase) a.inboxes.items old a.router a.refused.items first a.words)
    (is : phase ≡ Playing r)
    (full : AllFull a.inboxes.items)
    (own : lines ≡ seat.lines)
    (plays : PlaysRound r (moment_of seat (rounds.Playing r)) (clock_of seat r) lines a b)
    (count : told ≡ length a.router.trace) where
  here : Kept seat said sent (rounds.Playing r) a.inboxes.items old a.router a.refused.items first a.words
  here = at_round seat said sent phase r a.inboxes.items old a.router a.refused.items first a.words is k

  mine : PlaysRound r (moment_of seat (rounds.Playing r)) (clock_of seat r) seat.lines a b
  mine = subst (λ (ls : List (ℕ × Line)). PlaysRound r (moment_of seat (rounds.Playing r)) (clock_of seat r) ls a b) own plays

  -- by the seat's parameters
  runs : Runs (exact seeded_word seeded_after) (moment_of seat (rounds.Playing r)) (all_heard a.inboxes.items ++ own_rest seat r) a.router a.words b.router b.words mine.more
  runs = subst (λ (p : Peer). Runs (exact seeded_word seeded_after) (moment_of seat (rounds.Playing r)) (all_heard a.inboxes.items ++ behind_heard p r (clock_of seat r) seat.lines) a.router a.words b.router b.words mine.more) here.peer mine.runs

  -- the next round begins
  pub plays_on : r < seat.rounds
      → TellsSince told b.router.trace old new
      → Kept seat said sent (rounds.Playing (r + 1)) b.inboxes.items new b.router b.refused.items first b.words
  plays_on low tells =
      let more = runs in
      let next : suc r ≡ r + 1 = omega arith in
      let one = kept_turned seat said sent old first r a.inboxes.items a.router b.router a.words b.words a.refused.items mine.more here full more new (omega (arith, low))
      (tells a.router.trace sent (links_of seat.peer) (sym count) (more.appended.entries, more.appended.are) k.says) in
      subst (λ (n : ℕ). Kept seat said sent (rounds.Playing n) b.inboxes.items new b.router b.refused.items first b.words) next
      (subst (λ (ys : List InboxView). Kept seat said sent (rounds.Playing (suc r)) ys new b.router b.refused.items first b.words) (sym mine.turns)
      (subst (λ (ls : List RefusedLine). Kept seat said sent (rounds.Playing (suc r)) (map in_next_phase a.inboxes.items) new b.router ls first b.words) (sym mine.refused) one))

  -- or the peer shuts down
  pub plays_last : (c : Player)
      → (r < seat.rounds → ⊥)
      → Runs (exact seeded_word seeded_after) (moment_of seat (rounds.Playing r)) (Stop ∷ []) b.router b.words c.router c.words []
      → c.refused ≡ b.refused
      → c.inboxes ≡ b.inboxes
      → TellsSince told c.router.trace old new
      → Kept seat said sent rounds.Closing c.inboxes.items new c.router c.refused.items first c.words
  plays_last c high stops same_refused same_inboxes tells =
      let low : r ≤ seat.rounds = here.begun.0 in
      let last : r ≡ seat.rounds = omega (arith, low, high) in
      let more = runs in
      let both : c.router.trace ≡ (stops.appended.entries ++ more.appended.entries) ++ a.router.trace = added a.router.trace b.router.trace c.router.trace more.appended.entries stops.appended.entries more.appended.are stops.appended.are in
      let one = kept_closed seat said sent old new first a.inboxes.items a.router b.router c.router a.words b.words c.words a.refused.items mine.more
      (subst (λ (n : ℕ). Kept seat said sent (rounds.Playing n) a.inboxes.items old a.router a.refused.items first a.words) last here) full
      (subst (λ (n : ℕ). Runs (exact seeded_word seeded_after) (moment_of seat (rounds.Playing n)) (all_heard a.inboxes.items ++ own_rest seat n) a.router a.words b.router b.words mine.more) last more)
      (subst (λ (n : ℕ). Runs (exact seeded_word seeded_after) (moment_of seat (rounds.Playing n)) (Stop ∷ []) b.router b.words c.router c.words []) last stops)
      (tells a.router.trace sent (links_of seat.peer) (sym count) (stops.appended.entries ++ more.appended.entries, both) k.says) in
      subst (λ (ys : List InboxView). Kept seat said sent rounds.Closing ys new c.router c.refused.items first c.words) (sym (ap (λ (x : _). x.items) same_inboxes ∙ mine.turns))
      (subst (λ (ls : List RefusedLine). Kept seat said sent rounds.Closing (map in_next_phase a.inboxes.items) new c.router ls first c.words) (sym (ap (λ (x : _). x.items) same_refused ∙ mine.refused)) one)

-- ---- a task

module _ {G S : Type 0} (seen : EndsOf S) where
  -- where ends and what was given stay
  pub goes_by : (t u : Running G S)
      → u.assignment ≡ t.assignment
      → u.first ≡ t.first
      → u.ends ≡ t.ends
      → u.player.router.peer ≡ t.player.router.peer
      → IsKept seen t
      → Kept (seat_of t) (words_of (seen.taken t.ends)) (words_of (seen.accepted t.ends)) (phase_of u.phase) u.player.inboxes.items u.outboxes u.player.router u.player.refused.items t.first.value u.player.words
      → Goes seen t u
  goes_by t u given first ends peer k kept =
      let seat : seat_of u ≡ seat_of t = ap₂ seat_with given peer in
      record {
        kept = record {
          small = subst (λ (a : Assignment). a.rounds * a.round_ms + a.phase_ms < 2 ^ 64) (sym given) k.small;
          known = subst₂ (λ (e : S) (p : Peer). AllByRecursion (λ q. has (seen.joints e) q ≡ true) (links_of p)) (sym ends) (sym peer) k.known;
          kept = subst₂ (λ (s : Seat) (e : S). Kept s (words_of (seen.taken e)) (words_of (seen.accepted e)) (phase_of u.phase) u.player.inboxes.items u.outboxes u.player.router u.player.refused.items u.first.value u.player.words) (sym seat) (sym ends)
              (subst (λ (f : _). Kept (seat_of t) (words_of (seen.taken t.ends)) (words_of (seen.accepted t.ends)) (phase_of u.phase) u.player.inboxes.items u.outboxes u.player.router u.player.refused.items f.value u.player.words) (sym first) kept);
        };
        seat = seat;
        first = ap (λ (f : _). f.value) first;
        same_ends = ap seen.joints ends;
      }

  -- one step after the other
  pub goes_then : (t u w : Running G S) → Goes seen t u → Goes seen u w → Goes seen t w
  goes_then t u w a b = record { kept = b.kept; seat = b.seat ∙ a.seat; first = b.first ∙ a.first; same_ends = b.same_ends ∙ a.same_ends }

  pub goes_nowhere : (t : Running G S) → IsKept seen t → Goes seen t t
  goes_nowhere t k = record { kept = k; seat = refl; first = refl; same_ends = refl }

-- after the last round
pub at_close : (seat : Seat) (said sent : PeerNo → Said) (phase : Phase) (xs : List InboxView) (boxes : Outboxes) (v : RouterView) (refused : List RefusedLine) (first words : SeededState)
    → phase ≡ Closing
    → Kept seat said sent (phase_of phase) xs boxes v refused first words
    → Kept seat said sent rounds.Closing xs boxes v refused first words
at_close seat said sent phase xs boxes v refused first words is k = subst (λ (p : Phase). Kept seat said sent (phase_of p) xs boxes v refused first words) is k
