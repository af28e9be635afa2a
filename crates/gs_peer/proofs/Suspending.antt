-- What a task keeps says what it has done so far.
use Rattle.std.proofs.Common.{◌≡◌, List, [], ◌∷◌, ◌++◌, None, refl, sym, subst, ◌∙◌, append-nil, true}
use Rattle.std.specs.List.{AllByRecursion, AllZip}
use Rattle.gs_base.specs.declared.names.PeerNo.{PeerNo}
use Rattle.gs_base.specs.Tokens.{Said, bytes_of}
use Rattle.gs_params.specs.Seeding.{SeededState}
use Rattle.gs_wire.specs.Codec.{codec}
use Rattle.gs_link.specs.Flat.{flat}
use Rattle.gs_rules.specs.declared.refusal.RefusedLine.{RefusedLine}
use Rattle.gs_rules.specs.Peers.{links_of}
use Rattle.gs_rules.specs.Tables.{Entries}
use Rattle.gs_rules.specs.Saying.{gathered, handled, out}
use Rattle.gs_rules.specs.Hearing.{Spell, bytes_before}
use Rattle.gs_rules.specs.Rounds.{Seat, Phase, Playing, Closing, ComesAt, KeepsSoFar, Stop, Todo, agenda, hears}
use Rattle.gs_rules.proofs.Gathered.{gathered_after_rounds, gathered_down}
use Rattle.gs_router.specs.Router.{RouterView}
use Rattle.gs_ends.specs.declared.ends.Ends.{Ghosts as EndsOf}
use Rattle.gs_peer.specs.declared.outboxes.Outboxes.{Outboxes}
use Rattle.gs_peer.specs.declared.running.Running.{Running}
use Rattle.gs_player.specs.Ended.{whole}
use Rattle.gs_peer.specs.Inboxes.{InboxView, peers_of}
use Rattle.gs_peer.specs.Kept.{Begun, BoxKept, InboxKept, Kept}
use Rattle.gs_peer.specs.Life.{words_of}
use Rattle.gs_peer.specs.Outboxes.{gathered_in, waiting}
use Rattle.gs_peer.specs.Phases.{phase_of, rounds_ended}
use Rattle.gs_peer.specs.Running.{IsKept, seat_of}
use Rattle.gs_peer.specs.Task.{SoFar}
use Rattle.gs_peer.proofs.Inbound.{all_come}
use Rattle.gs_peer.proofs.Played.{shut_is_down}

keeps_so_far : (seat : Seat) (said sent : PeerNo → Said) (phase : Phase) (xs : List InboxView) (boxes : Outboxes) (v : RouterView) (refused : List RefusedLine) (first words : SeededState)
    → Kept seat said sent phase xs boxes v refused first words
    → (left : List Todo) × KeepsSoFar seat said phase left v.trace refused
keeps_so_far seat said sent (Playing r) xs boxes v refused first words k =
    let come = all_come seat (Playing r) v.trace said xs k.hears in
    let was_said : AllZip (λ q x. ComesAt seat (Playing r) (said q) x) (links_of seat.peer) come.inbound = subst (λ (qs : List PeerNo). AllZip (λ q x. ComesAt seat (Playing r) (said q) x) qs come.inbound) k.names come.was_said in (
      agenda seat (Playing r) come.inbound,
      record {
        phase_is = k.begun.0;
        start = v.trace;
        earlier = refused;
        more = [];
        begun = k.begun.1;
        part = record { inbound = come.inbound; was_said = was_said; done = []; split = refl; does = (refl, refl) };
        all_refused = sym (append-nil refused);
      },
    )
keeps_so_far seat said sent Closing xs boxes v refused first words k =
    let come = all_come seat Closing v.trace said xs k.hears in
    let was_said : AllZip (λ q x. ComesAt seat Closing (said q) x) (links_of seat.peer) come.inbound = subst (λ (qs : List PeerNo). AllZip (λ q x. ComesAt seat Closing (said q) x) qs come.inbound) k.names come.was_said in (
      hears (links_of seat.peer) come.inbound,
      record {
        phase_is = tt;
        start = k.begun.0;
        earlier = refused;
        more = [];
        begun = k.begun.1;
        part = record { inbound = come.inbound; was_said = was_said; done = Stop ∷ []; split = refl; does = (v.trace, [], k.begun.2, (refl, refl), refl) };
        all_refused = sym (append-nil refused);
      },
    )

each_staged : (seat : Seat) (phase : Phase) (L : Entries) (said : PeerNo → Said) (xs : List InboxView)
    → AllByRecursion (λ (x : InboxView). InboxKept seat phase L (said x.peer) x) xs
    → AllByRecursion (λ (x : InboxView). Spell (bytes_of (said x.peer)) (handled L x.peer ++ x.stage)) xs
each_staged seat phase L said [] k = tt
each_staged seat phase L said (x ∷ xs) k = ((k.0.read.rest, k.0.read.end, k.0.read.stream), each_staged seat phase L said xs k.1)

each_heard : (seat : Seat) (phase : Phase) (L : Entries) (said : PeerNo → Said) (xs : List InboxView)
    → AllByRecursion (λ (x : InboxView). InboxKept seat phase L (said x.peer) x) xs
    → AllByRecursion (λ q. Spell (bytes_before (rounds_ended seat phase) (said q)) (handled L q)) (peers_of xs)
each_heard seat phase L said [] k = tt
each_heard seat phase L said (x ∷ xs) k = (k.0.earlier, each_heard seat phase L said xs k.1)

each_ended : (seat : Seat) (phase : Phase) (L : Entries) (said : PeerNo → Said) (xs : List InboxView)
    → AllByRecursion (λ (x : InboxView). InboxKept seat phase L (said x.peer) x) xs
    → AllByRecursion (λ q. whole (rounds_ended seat phase) (said q) ≡ true) (peers_of xs)
each_ended seat phase L said [] k = tt
each_ended seat phase L said (x ∷ xs) k = (k.0.stable, each_ended seat phase L said xs k.1)

each_said : (L : Entries) (sent : PeerNo → Said) (boxes : Outboxes) (qs : List PeerNo)
    → AllByRecursion (λ q. BoxKept L (sent q) boxes q) qs
    → AllByRecursion (λ q. sent q ++ flat (waiting boxes q) ≡ out codec L q) qs
each_said L sent boxes [] k = tt
each_said L sent boxes (q ∷ qs) k = (k.0.says, each_said L sent boxes qs k.1)

-- rounds are played whole, and after the last one all neighbours are down
none_by_trace : (seat : Seat) (said : PeerNo → Said) (phase : Phase) (L : Entries) (refused : List RefusedLine) (q : PeerNo)
    → Begun seat said phase L refused
    → gathered codec L q ≡ None
none_by_trace seat said (Playing r) L refused q begun = gathered_after_rounds codec seat said r L refused q begun.1
none_by_trace seat said Closing L refused q begun = gathered_down codec L q (shut_is_down seat begun.0 L q begun.2)

each_out : (L : Entries) (sent : PeerNo → Said) (boxes : Outboxes) (qs : List PeerNo)
    → ((q : PeerNo) → gathered codec L q ≡ None)
    → AllByRecursion (λ q. BoxKept L (sent q) boxes q) qs
    → AllByRecursion (λ q. (gathered_in boxes q ≡ None) × (gathered codec L q ≡ None)) qs
each_out L sent boxes [] none k = tt
each_out L sent boxes (q ∷ qs) none k = ((k.0.gathers ∙ none q, none q), each_out L sent boxes qs none k.1)

module _ {G S : Type 0} (seen : EndsOf S) where
  pub suspended : (t : Running G S) → IsKept seen t → SoFar seen t
  suspended t k =
      let seat = seat_of t in
      let said = words_of (seen.taken t.ends) in
      let sent = words_of (seen.accepted t.ends) in
      let phase = phase_of t.phase in
      record {
        legal = k.kept.legal;
        keeps = keeps_so_far seat said sent phase t.player.inboxes.items t.outboxes t.player.router t.player.refused.items t.first.value t.player.words k.kept;
        names = k.kept.names;
        hears = each_staged seat phase t.player.router.trace said t.player.inboxes.items k.kept.hears;
        says = each_said t.player.router.trace sent t.outboxes (links_of seat.peer) k.kept.says;
        none_gathered = each_out t.player.router.trace sent t.outboxes (links_of seat.peer)
            (λ q. none_by_trace seat said phase t.player.router.trace t.player.refused.items q k.kept.begun) k.kept.says;
        ended = subst (AllByRecursion (λ q. whole (rounds_ended seat phase) (said q) ≡ true)) k.kept.names
            (each_ended seat phase t.player.router.trace said t.player.inboxes.items k.kept.hears);
        rounds = subst (AllByRecursion (λ q. Spell (bytes_before (rounds_ended seat phase) (said q)) (handled t.player.router.trace q))) k.kept.names
            (each_heard seat phase t.player.router.trace said t.player.inboxes.items k.kept.hears);
      }
