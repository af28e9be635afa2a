-- What a task keeps is kept when a round is played, and at the end it is a life.
use Rattle.std.proofs.Common.{◌≡◌, ◌≤◌, ℕ, suc, true, false, List, [], ◌∷◌, ◌++◌, map, Some, None, refl, sym, ap, subst, ◌∙◌, append-nil, arith}
use Rattle.std.specs.List.{AllByRecursion, AllZip}
use Rattle.std.proofs.Math.Nat.{suc-mul}
use Rattle.gs_base.specs.declared.names.PeerNo.{PeerNo}
use Rattle.gs_base.specs.declared.names.Millis.{Millis}
use Rattle.gs_base.specs.Tokens.{Said, bytes_of}
use Rattle.gs_params.specs.Seeding.{SeededState, seeded_after, seeded_word}
use Rattle.gs_wire.specs.Codec.{codec}
use Rattle.gs_link.specs.declared.item.Slot.{Slot}
use Rattle.gs_link.specs.Flat.{flat}
use Rattle.gs_rules.specs.declared.event.Event.{Event}
use Rattle.gs_rules.specs.declared.event.Event.TheVariants.{Shut}
use Rattle.gs_rules.specs.declared.refusal.RefusedLine.{RefusedLine}
use Rattle.gs_rules.specs.Peers.{Peer, links_of}
use Rattle.gs_rules.specs.Tables.{Entries, up, up_after}
use Rattle.gs_rules.specs.Modes.{exact, free}
use Rattle.gs_rules.specs.Legal.{Comes, Legal, LegalOn}
use Rattle.gs_rules.specs.Saying.{Outgoing, gathered, handled, out}
use Rattle.gs_rules.specs.Hearing.{Spell, closes}
use Rattle.gs_rules.specs.Rounds.{Seat, Phase, Playing, Closing, AfterRounds, ComesAt, Does, KeepsRounds, Stop, Todo, agenda, hears, moment_of, clock_of}
use Rattle.gs_rules.proofs.Gathered.{gathered_down}
use Rattle.gs_rules.proofs.Handled.{does_handle, said_is_handled}
use Rattle.gs_rules.proofs.Legality.{exact_is_free, legal_weakly}
use Rattle.gs_router.specs.Router.{RouterView}
use Rattle.gs_peer.specs.declared.outboxes.Outboxes.{Outboxes}
use Rattle.gs_peer.specs.Inboxes.{InboxView, all_heard, in_next_phase, peers_of}
use Rattle.gs_peer.specs.Kept.{BoxKept, InboxKept, Kept}
use Rattle.gs_peer.specs.Outboxes.{waiting}
use Rattle.gs_player.specs.Playing.{IsRunning, Runs, behind_heard}
use Rattle.gs_peer.specs.Running.{AllFull, AllSilent}
use Rattle.gs_peer.proofs.Inbound.{all_come}
use Rattle.gs_peer.proofs.Turning.{inboxes_close, inboxes_turn, peers_in_next_phase}
use Rattle.gs_player.proofs.Runs.{legal_more}
use Rattle.gs_player.proofs.Since.{down_stays, out_no_more}

-- ---- what is done in a phase

-- what a seat has to do in a round after what was heard
abbrev pub own_rest : Seat → ℕ → List Todo
own_rest seat r = behind_heard seat.peer r (clock_of seat r) seat.lines

module _ (seat : Seat) (said sent : PeerNo → Said) (boxes : Outboxes) (first : SeededState) (r : ℕ) (xs : List InboxView)
    (v w : RouterView) (s t : SeededState) (refused more : List RefusedLine)
    (k : Kept seat said sent (Playing r) xs boxes v refused first s)
    (full : AllFull xs)
    (runs : Runs (exact seeded_word seeded_after) (moment_of seat (Playing r)) (all_heard xs ++ own_rest seat r) v s w t more) where
  -- the round is played
  pub round_played : AfterRounds seat said (suc r) w.trace (refused ++ more)
  round_played =
      let now = moment_of seat (Playing r) in
      let come = all_come seat (Playing r) v.trace said xs k.hears in
      let was_said : AllZip (λ q x. ComesAt seat (Playing r) (said q) x) (links_of seat.peer) come.inbound = subst (λ (qs : List PeerNo). AllZip (λ q x. ComesAt seat (Playing r) (said q) x) qs come.inbound) k.names come.was_said in
      let todos : all_heard xs ++ own_rest seat r ≡ agenda seat (Playing r) come.inbound =
      ap (λ (ts : List Todo). ts ++ own_rest seat r) (come.heard ∙ ap (λ (qs : List PeerNo). hears qs come.inbound) k.names) in
      let does : Does seat.peer now (agenda seat (Playing r) come.inbound) v.trace w.trace more =
      subst (λ (ts : List Todo). Does seat.peer now ts v.trace w.trace more) todos (subst (λ (p : Peer). Does p now (all_heard xs ++ own_rest seat r) v.trace w.trace more) k.peer runs.does) in
      (v.trace, refused, more, k.begun.1, record { inbound = come.inbound; was_said = was_said; does = does }, refl)

  pub peer_stays : w.peer ≡ seat.peer
  peer_stays = runs.peer ∙ k.peer

  pub round_legal : LegalOn (exact seeded_word seeded_after) seat.peer first [] w.trace t
  round_legal = legal_more seat.peer v.peer first s t v.trace w.trace k.peer k.legal runs.appended

  round_free : Legal seat.peer w.trace
  round_free = subst (λ (p : Peer). Legal p w.trace) peer_stays runs.runs_on.legal

  -- what a task keeps where the next round begins
  pub kept_turned : (boxes' : Outboxes)
      → suc r ≤ seat.rounds
      → AllByRecursion (λ q. BoxKept w.trace (sent q) boxes' q) (links_of seat.peer)
      → Kept seat said sent (Playing (suc r)) (map in_next_phase xs) boxes' w (refused ++ more) first t
  kept_turned boxes' low says = record {
    peer = peer_stays;
    names = peers_in_next_phase xs ∙ k.names;
    ascending = k.ascending;
    running = runs.runs_on.running;
    time = (let before = runs.runs_on.time in let product = suc-mul r seat.round_ms in omega (arith, before, product));
    legal = round_legal;
    begun = (low, round_played);
    hears = inboxes_turn seat r v.trace w.trace said (refused ++ more) xs k.names k.ascending k.hears full round_played round_free;
    says = says;
  }

-- the trace where a peer has shut down
stopped : (seat : Seat) (now : Millis) (p : Peer) (K L : Entries) → p ≡ seat.peer → Does p now (Stop ∷ []) K L [] → Comes seat.peer now (Some Shut) K L
stopped seat now p K L same (M, later, comes, (is, none), rest) =
    subst (λ (q : Peer). Comes q now (Some Shut) K L) same (subst (λ (N : Entries). Comes p now (Some Shut) K N) (sym is) comes)

-- OR THE PEER SHUTS DOWN
pub kept_closed : (seat : Seat) (said sent : PeerNo → Said) (boxes boxes' : Outboxes) (first : SeededState) (xs : List InboxView) (v w y : RouterView) (s t u : SeededState) (refused more : List RefusedLine)
    (k : Kept seat said sent (Playing seat.rounds) xs boxes v refused first s)
    → AllFull xs
    → Runs (exact seeded_word seeded_after) (moment_of seat (Playing seat.rounds)) (all_heard xs ++ own_rest seat seat.rounds) v s w t more
    → Runs (exact seeded_word seeded_after) (moment_of seat (Playing seat.rounds)) (Stop ∷ []) w t y u []
    → AllByRecursion (λ q. BoxKept y.trace (sent q) boxes' q) (links_of seat.peer)
    → Kept seat said sent Closing (map in_next_phase xs) boxes' y (refused ++ more) first u
kept_closed seat said sent boxes boxes' first xs v w y s t u refused more k full runs stops says =
    let now = moment_of seat Closing in
    let played = round_played seat said sent boxes first seat.rounds xs v w s t refused more k full runs in
    let same = peer_stays seat said sent boxes first seat.rounds xs v w s t refused more k full runs in
    let free : Legal seat.peer w.trace = subst (λ (p : Peer). Legal p w.trace) same runs.runs_on.legal in
    let free_then : Legal w.peer y.trace = subst (λ (p : Peer). Legal p y.trace) stops.peer stops.runs_on.legal in
    record {
      peer = stops.peer ∙ same;
      names = peers_in_next_phase xs ∙ k.names;
      ascending = k.ascending;
      running = stops.runs_on.running;
      time = stops.runs_on.time;
      legal = legal_more seat.peer w.peer first t u w.trace y.trace same (round_legal seat said sent boxes first seat.rounds xs v w s t refused more k full runs) stops.appended;
      begun = (w.trace, played, stopped seat now w.peer w.trace y.trace same stops.does);
      hears = inboxes_close seat v.trace w.trace y.trace said (refused ++ more) xs k.names k.ascending k.hears full played free
          (λ q. does_handle w.peer q now (Stop ∷ []) w.trace y.trace [] stops.does free_then ∙ append-nil (handled w.trace q));
      says = says;
    }

-- ---- the end

pub shut_is_down : (seat : Seat) (K L : Entries) (q : PeerNo) → Comes seat.peer (moment_of seat Closing) (Some Shut) K L → up L q ≡ false
shut_is_down seat K L q opens =
    let b = opens.begun in
    ap (λ (M : Entries). up M q) b.entries ∙ down_stays (b.first ∷ K) q b.paid (ap (λ (event : Event). up_after q event (up K q)) b.opened)

-- all that is said is accepted
all_said : (seat : Seat) (K L M : Entries) (sent : PeerNo → Said) (boxes : Outboxes) (more : List _) (qs : List PeerNo)
    → Comes seat.peer (moment_of seat Closing) (Some Shut) K L
    → M ≡ more ++ L
    → AllByRecursion (λ q. waiting boxes q ≡ []) qs
    → AllByRecursion (λ q. BoxKept L (sent q) boxes q) qs
    → AllByRecursion (λ q. sent q ≡ out codec M q) qs
all_said seat K L M sent boxes more [] stops is silent k = tt
all_said seat K L M sent boxes more (q ∷ qs) stops is silent k = (
  sym (append-nil (sent q)) ∙ ap (λ (xs : List Slot). sent q ++ flat xs) (sym silent.0) ∙ k.0.says
      ∙ sym (ap (λ (N : Entries). out codec N q) is ∙ ap (λ (o : Outgoing). o.said) (out_no_more L q more (shut_is_down seat K L q stops))),
  all_said seat K L M sent boxes more qs stops is silent.1 k.1,
)

-- nothing is gathered that did not go out
all_out : (seat : Seat) (K L M : Entries) (more : List _) (qs : List PeerNo)
    → Comes seat.peer (moment_of seat Closing) (Some Shut) K L
    → M ≡ more ++ L
    → AllByRecursion (λ q. gathered codec M q ≡ None) qs
all_out seat K L M more [] stops is = tt
all_out seat K L M more (q ∷ qs) stops is = (
  gathered_down codec M q (ap (λ (N : Entries). up N q) is ∙ down_stays L q more (shut_is_down seat K L q stops)),
  all_out seat K L M more qs stops is,
)

silent_links : (boxes : Outboxes) (xs : List InboxView) → AllSilent boxes xs → AllByRecursion (λ q. waiting boxes q ≡ []) (peers_of xs)
silent_links boxes [] h = tt
silent_links boxes (x ∷ xs) h = (h.0, silent_links boxes xs h.1)

all_closed : (seat : Seat) (L : Entries) (said : PeerNo → Said) (xs : List InboxView)
    → AllByRecursion (λ (x : InboxView). InboxKept seat Closing L (said x.peer) x) xs
    → AllFull xs
    → AllByRecursion (λ q. closes (said q) ≡ true) (peers_of xs)
all_closed seat L said [] k full = tt
all_closed seat L said (x ∷ xs) k full = (k.0.full ∙ full.0, all_closed seat L said xs k.1 full.1)

-- What is known of a life, where this was said to it and this was accepted of what it said.
pub record WholeLife (seat : Seat) (said sent : PeerNo → Said) (first : SeededState) (L : Entries) (refused : List RefusedLine) : Type 0 where
  pub legal : (last : SeededState) × LegalOn (exact seeded_word seeded_after) seat.peer first [] L last
  pub keeps : KeepsRounds seat said L refused
  pub handles : AllByRecursion (λ q. Spell (bytes_of (said q)) (handled L q)) (links_of seat.peer)
  pub says : AllByRecursion (λ q. sent q ≡ out codec L q) (links_of seat.peer)
  pub none_gathered : AllByRecursion (λ q. gathered codec L q ≡ None) (links_of seat.peer)
  pub closed : AllByRecursion (λ q. closes (said q) ≡ true) (links_of seat.peer)

pub life : (seat : Seat) (said sent : PeerNo → Said) (boxes : Outboxes) (first : SeededState) (xs : List InboxView) (v w : RouterView) (s t : SeededState) (refused : List RefusedLine)
    → Kept seat said sent Closing xs boxes v refused first s
    → AllFull xs
    → AllSilent boxes xs
    → Runs (exact seeded_word seeded_after) (moment_of seat Closing) (all_heard xs) v s w t []
    → WholeLife seat said sent first w.trace refused
life seat said sent boxes first xs v w s t refused k full silent runs =
    let now = moment_of seat Closing in
    let (K, played, stops) = k.begun in
    let come = all_come seat Closing v.trace said xs k.hears in
    let was_said : AllZip (λ q x. ComesAt seat Closing (said q) x) (links_of seat.peer) come.inbound = subst (λ (qs : List PeerNo). AllZip (λ q x. ComesAt seat Closing (said q) x) qs come.inbound) k.names come.was_said in
    let heard : all_heard xs ≡ hears (links_of seat.peer) come.inbound = come.heard ∙ ap (λ (qs : List PeerNo). hears qs come.inbound) k.names in
    let does : Does seat.peer now (hears (links_of seat.peer) come.inbound) v.trace w.trace [] =
    subst (λ (ts : List Todo). Does seat.peer now ts v.trace w.trace []) heard (subst (λ (p : Peer). Does p now (all_heard xs) v.trace w.trace []) k.peer runs.does) in
    let keeps : KeepsRounds seat said w.trace refused = record {
      last = K;
      played = played;
      closed = record { inbound = come.inbound; was_said = was_said; does = (v.trace, [], stops, does, refl) };
    } in
    let free : Legal seat.peer w.trace = subst (λ (p : Peer). Legal p w.trace) (runs.peer ∙ k.peer) runs.runs_on.legal in
    record {
      legal = (t, legal_more seat.peer v.peer first s t v.trace w.trace k.peer k.legal runs.appended);
      keeps = keeps;
      handles = said_is_handled seat said w.trace refused k.ascending free keeps;
      says = all_said seat K v.trace w.trace sent boxes runs.appended.entries (links_of seat.peer) stops runs.appended.are
          (subst (AllByRecursion (λ q. waiting boxes q ≡ [])) k.names (silent_links boxes xs silent)) k.says;
      none_gathered = all_out seat K v.trace w.trace runs.appended.entries (links_of seat.peer) stops runs.appended.are;
      closed = subst (AllByRecursion (λ q. closes (said q) ≡ true)) k.names (all_closed seat v.trace said xs k.hears full);
    }

-- ---- a router that may be called

pub runs_at : (seat : Seat) (said sent : PeerNo → Said) (phase : Phase) (xs : List InboxView) (boxes : Outboxes) (v : RouterView) (refused : List RefusedLine) (first words : SeededState)
    → Kept seat said sent phase xs boxes v refused first words
    → IsRunning (moment_of seat phase) v
runs_at seat said sent phase xs boxes v refused first words k = record {
  running = k.running;
  time = k.time;
  legal = subst (λ (p : Peer). Legal p v.trace) (sym k.peer) (legal_weakly (exact seeded_word seeded_after) free (λ u. tt) (exact_is_free seeded_word seeded_after) seat.peer first words [] v.trace k.legal);
}
