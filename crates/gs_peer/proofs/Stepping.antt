-- What moves at a step, and what has moved after many.
use Rattle.std.proofs.Common.{◌≡◌, inl, inr, ◌<◌, ◌≤◌, ◌+◌, ◌^◌, ◌-◌, ℕ, zero, suc, min, Bool, true, false, not, if◌then◌else◌, List, [], ◌∷◌, ◌++◌, length, length-append, get_or, Option, Some, None, refl, sym, ap, ap₂, subst, ◌∙◌, true≢false, arith}
use Rattle.std.specs.Prelude.{◌&&◌, ◌||◌, option_map}
use Rattle.std.proofs.lemmas.Option.{slice_get_past, slice_get_read}
use Rattle.std.proofs.lemmas.List.{append_cancel_left}
use Rattle.gs_base.specs.declared.names.PeerNo.{PeerNo}
use Rattle.gs_link.specs.declared.item.Slot.{Slot}
use Rattle.gs_link.specs.Flat.{flat}
use Rattle.gs_ends.specs.Ends.{OthersStay}
use Rattle.gs_ends.specs.declared.ends.Ends.{Ghosts as EndsOf}
use Rattle.gs_rules.specs.Rounds.{Phase}
use Rattle.gs_peer.specs.declared.outboxes.Outboxes.{Outboxes}
use Rattle.gs_peer.specs.declared.running.Running.{Running}
use Rattle.gs_peer.specs.Inboxes.{InboxView, Listens}
use Rattle.gs_peer.specs.Moved.{AllStay, GrewAt, GrewIf, MovesAt, MovesIf}
use Rattle.gs_peer.specs.Moves.{are_full, has_more_at, is_closing, is_due, is_full_at, peer_at, phase_after, turn_after, whose_turn}
use Rattle.gs_peer.specs.Outboxes.{waiting}
use Rattle.gs_peer.specs.Stepping.{OnlyListens, OnlyLooks, Moves, OnlyOffers, PlaysDue, Polls, Steps, StepsTo, Still}
use Rattle.gs_peer.proofs.Fullness.{all_there, right_true}
use Rattle.gs_peer.proofs.Grows.{all_stay, same_or}

-- ---- whose turn it is

peer_past : (xs : List InboxView) (k : ℕ) → length xs ≤ k → peer_at xs k ≡ None
peer_past xs k past = ap (λ (o : Option InboxView). option_map (λ (x : InboxView). x.peer) o) (slice_get_past xs k past)

peer_there : (xs : List InboxView) (k : ℕ) (x : InboxView) → k < length xs → x ≡ get_or xs k x → peer_at xs k ≡ Some x.peer
peer_there xs k x low is = ap (λ (o : Option InboxView). option_map (λ (y : InboxView). y.peer) o) (slice_get_read xs (length xs) k x refl low is)

-- ---- a slot is taken

module _ (xs : List InboxView) (k : ℕ) (before after : PeerNo → List Slot) where
  pub grew_past : (moved : Bool) → length xs ≤ k → moved ≡ false → AllStay before after → GrewAt (peer_at xs k) moved before after
  grew_past moved past none same = subst (λ (o : Option PeerNo). GrewAt o moved before after) (sym (peer_past xs k past)) (none, same)

  pub grew_there : (moved : Bool) (x : InboxView) → k < length xs → x ≡ get_or xs k x → GrewIf moved (before x.peer) (after x.peer) → OthersStay x.peer before after → GrewAt (peer_at xs k) moved before after
  grew_there moved x low is grew others = subst (λ (o : Option PeerNo). GrewAt o moved before after) (sym (peer_there xs k x low is)) (grew, others)

-- nothing grew
grew_nowhere : (who : Option PeerNo) (before after : PeerNo → List Slot) → GrewAt who false before after → AllStay before after
grew_nowhere (Some p) before after h = all_stay p before after h.0 h.1
grew_nowhere None before after h = h.1

one_more : (before : List Slot) (slot : Slot) → before ≡ before ++ slot ∷ [] → ⊥
one_more before slot is = let lengths = ap length is in absurd (omega (arith, lengths, length-append before (slot ∷ [])))

-- where nothing was taken the inbox stays
pub listened_not : (phase : Phase) (before after : List Slot) (old new : InboxView) (moved : Bool) → Listens phase before after old new → GrewIf moved before after → moved ≡ false → new ≡ old
listened_not phase before after old new true h grew none = absurd (true≢false none)
listened_not phase before after old new false (inl h) grew none = h.1
listened_not phase before after old new false (inr h) grew none = absurd (one_more before h.0 (sym grew ∙ h.1))

-- ---- a slot is accepted

module _ (xs : List InboxView) (k : ℕ) (before after waited waits : PeerNo → List Slot) where
  pub moves_past : (moved : Bool) → length xs ≤ k → moved ≡ false → AllStay before after → AllStay waited waits → MovesAt (peer_at xs k) moved before after waited waits
  moves_past moved past none same silent = subst (λ (o : Option PeerNo). MovesAt o moved before after waited waits) (sym (peer_past xs k past)) (none, same, silent)

  pub moves_there : (moved : Bool) (x : InboxView) → k < length xs → x ≡ get_or xs k x → MovesIf moved (before x.peer) (after x.peer) (waited x.peer) (waits x.peer) → OthersStay x.peer before after → OthersStay x.peer waited waits → MovesAt (peer_at xs k) moved before after waited waits
  moves_there moved x low is moves others rest = subst (λ (o : Option PeerNo). MovesAt o moved before after waited waits) (sym (peer_there xs k x low is)) (moves, others, rest)

moves_nowhere : (who : Option PeerNo) (before after waited waits : PeerNo → List Slot) → MovesAt who false before after waited waits → AllStay before after
moves_nowhere (Some p) before after waited waits h = all_stay p before after h.0.0 h.1
moves_nowhere None before after waited waits h = h.1

-- where nothing was accepted, what waits says what it said
pub says_still : (p : PeerNo) (moved : Bool) (before after waited waits : PeerNo → List Slot)
    → MovesIf moved (before p) (after p) (waited p) (waits p)
    → flat (after p) ++ flat (waits p) ≡ flat (before p) ++ flat (waited p)
    → OthersStay p waited waits
    → moved ≡ false
    → (q : PeerNo) → flat (waits q) ≡ flat (waited q)
says_still p true before after waited waits moves says rest none = absurd (true≢false none)
says_still p false before after waited waits moves says rest none = λ q. elim (same_or p q) [
  | inl y ↦ subst (λ (n : PeerNo). flat (waits n) ≡ flat (waited n)) y.1 mine
  | inr n ↦ ap flat (rest q n.1)
]
  where
    mine : flat (waits p) ≡ flat (waited p)
    mine = append_cancel_left (flat (before p)) (flat (waits p)) (flat (waited p)) (ap (λ (slots : List Slot). flat slots ++ flat (waits p)) (sym moves.0) ∙ says)

-- ---- a step

first_false : (a b c : Bool) → ((a || b) || c) ≡ false → a ≡ false
first_false true b c h = h
first_false false b c h = refl

second_false : (a b c : Bool) → ((a || b) || c) ≡ false → b ≡ false
second_false true b c h = absurd (true≢false h)
second_false false true c h = h
second_false false false c h = refl

third_false : (a b c : Bool) → ((a || b) || c) ≡ false → c ≡ false
third_false true b c h = absurd (true≢false h)
third_false false true c h = absurd (true≢false h)
third_false false false c h = h

module _ {G S : Type 0} (seen : EndsOf S) (t u v w : Running G S) (listened played offered : Bool)
    (hears : GrewAt (whose_turn t) listened (seen.taken t.ends) (seen.taken u.ends))
    (full : is_full_at t.player.inboxes.items t.turn ≡ true → listened ≡ false)
    (quiet : listened ≡ false → u.player.inboxes.items ≡ t.player.inboxes.items)
    (listens : OnlyListens t u)
    (unsent : (q : PeerNo) → seen.accepted u.ends q ≡ seen.accepted t.ends q)
    (due : played ≡ is_due u)
    (looks : played ≡ false → OnlyLooks u v)
    (next : played ≡ true → v.phase ≡ phase_after u.assignment.rounds u.phase)
    (ends : v.ends ≡ u.ends)
    (turn : v.turn ≡ u.turn)
    (moves : MovesAt (whose_turn v) offered (seen.accepted v.ends) (seen.accepted w.ends) (waiting v.outboxes) (waiting w.outboxes))
    (says : offered ≡ false → (q : PeerNo) → flat (waiting w.outboxes q) ≡ flat (waiting v.outboxes q))
    (offers : OnlyOffers v w)
    (untaken : (q : PeerNo) → seen.taken w.ends q ≡ seen.taken v.ends q) where
  -- what was taken and accepted in all
  taken_there : (q : PeerNo) → seen.taken w.ends q ≡ seen.taken u.ends q
  taken_there q = untaken q ∙ ap (λ (e : S). seen.taken e q) ends

  accepted_before : (q : PeerNo) → seen.accepted v.ends q ≡ seen.accepted t.ends q
  accepted_before q = ap (λ (e : S). seen.accepted e q) ends ∙ unsent q

  -- nothing was taken
  due_still : listened ≡ false → is_due u ≡ is_due t
  due_still none = ap₂ (λ (p : _) (xs : List InboxView). not (is_closing p) && are_full xs) (ap (λ (r : Running G S). r.phase) listens) (quiet none)

  -- and no round was played
  inboxes_looked : listened ≡ false → played ≡ false → v.player.inboxes.items ≡ t.player.inboxes.items
  inboxes_looked a b = ap (λ (r : Running G S). r.player.inboxes.items) (looks b) ∙ quiet a

  router_looked : played ≡ false → v.player.router ≡ t.player.router
  router_looked none = ap (λ (r : Running G S). r.player.router) (looks none) ∙ ap (λ (r : Running G S). r.player.router) listens

  phase_looked : played ≡ false → v.phase ≡ t.phase
  phase_looked none = ap (λ (r : Running G S). r.phase) (looks none) ∙ ap (λ (r : Running G S). r.phase) listens

  outboxes_looked : played ≡ false → v.outboxes ≡ t.outboxes
  outboxes_looked none = ap (λ (r : Running G S). r.outboxes) (looks none) ∙ ap (λ (r : Running G S). r.outboxes) listens

  still_by : listened ≡ false → played ≡ false → offered ≡ false → Still seen t w
  still_by a b c = record {
    taken = λ q. taken_there q ∙ grew_nowhere (whose_turn t) (seen.taken t.ends) (seen.taken u.ends) (subst (λ (m : Bool). GrewAt (whose_turn t) m (seen.taken t.ends) (seen.taken u.ends)) a hears) q;
    accepted = λ q. moves_nowhere (whose_turn v) (seen.accepted v.ends) (seen.accepted w.ends) (waiting v.outboxes) (waiting w.outboxes) (subst (λ (m : Bool). MovesAt (whose_turn v) m (seen.accepted v.ends) (seen.accepted w.ends) (waiting v.outboxes) (waiting w.outboxes)) c moves) q ∙ accepted_before q;
    says = λ q. says c q ∙ ap (λ (o : Outboxes). flat (waiting o q)) (outboxes_looked b);
    phase = ap (λ (r : Running G S). r.phase) offers ∙ phase_looked b;
    router = ap (λ (r : Running G S). r.player.router) offers ∙ router_looked b;
    inboxes = ap (λ (r : Running G S). r.player.inboxes.items) offers ∙ inboxes_looked a b;
  }

  -- none is due where none was played
  due_looked : played ≡ false → is_due w ≡ false
  due_looked none = ap (λ (r : Running G S). is_due r) offers ∙ ap (λ (r : Running G S). is_due r) (looks none) ∙ sym due ∙ none

  -- or the round was played
  played_on : played ≡ true → w.phase ≡ phase_after t.assignment.rounds t.phase
  played_on some = ap (λ (r : Running G S). r.phase) offers ∙ next some ∙ ap (λ (r : Running G S). phase_after r.assignment.rounds r.phase) listens

  plays_by : listened ≡ false → is_due t ≡ true → PlaysDue seen t w
  plays_by none is = (is, played_on (due ∙ due_still none ∙ is))

  -- a round that is due after the step is not the one before it
  due_after : (b : Bool) → played ≡ b → is_due w ≡ true → w.phase ≡ phase_after t.assignment.rounds t.phase
  due_after true pb is = played_on pb
  due_after false pb is = absurd (true≢false (sym is ∙ due_looked pb))

  -- a neighbour of which all is taken is asked for nothing
  listens_not : is_due t ≡ true → listened ≡ false
  listens_not is = full (all_there t.player.inboxes.items t.turn (right_true (not (is_closing t.phase)) (are_full t.player.inboxes.items) is))

  moves_by : (a b c : Bool) → listened ≡ a → played ≡ b → offered ≡ c → ((a || b) || c) ≡ true → Moves seen t w
  moves_by true b c la pb oc h = inl (grew_on (whose_turn t) (subst (λ (m : Bool). GrewAt (whose_turn t) m (seen.taken t.ends) (seen.taken u.ends)) la hears))
    where
      grew_on : (who : Option PeerNo) → GrewAt who true (seen.taken t.ends) (seen.taken u.ends) → GrewAt who true (seen.taken t.ends) (seen.taken w.ends)
      grew_on (Some p) g = ((g.0.0, taken_there p ∙ g.0.1), λ q other. taken_there q ∙ g.1 q other)
      grew_on None g = (g.0, λ q. taken_there q ∙ g.1 q)
  moves_by false true c la pb oc h = inr (inl (plays_by la (sym (due_still la) ∙ sym due ∙ pb)))
  moves_by false false true la pb oc h = inr (inr (moved_on (whose_turn t) here))
    where
      same : whose_turn v ≡ whose_turn t
      same = ap₂ (λ (xs : List InboxView) (k : ℕ). peer_at xs k) (inboxes_looked la pb) (turn ∙ ap (λ (r : Running G S). r.turn) listens)

      here : MovesAt (whose_turn t) true (seen.accepted v.ends) (seen.accepted w.ends) (waiting t.outboxes) (waiting w.outboxes)
      here = subst (λ (o : Outboxes). MovesAt (whose_turn t) true (seen.accepted v.ends) (seen.accepted w.ends) (waiting o) (waiting w.outboxes)) (outboxes_looked pb)
          (subst (λ (who : Option PeerNo). MovesAt who true (seen.accepted v.ends) (seen.accepted w.ends) (waiting v.outboxes) (waiting w.outboxes)) same
          (subst (λ (m : Bool). MovesAt (whose_turn v) m (seen.accepted v.ends) (seen.accepted w.ends) (waiting v.outboxes) (waiting w.outboxes)) oc moves))

      moved_on : (who : Option PeerNo) → MovesAt who true (seen.accepted v.ends) (seen.accepted w.ends) (waiting t.outboxes) (waiting w.outboxes) → MovesAt who true (seen.accepted t.ends) (seen.accepted w.ends) (waiting t.outboxes) (waiting w.outboxes)
      moved_on (Some p) m = (subst (λ (slots : List Slot). MovesIf true slots (seen.accepted w.ends p) (waiting t.outboxes p) (waiting w.outboxes p)) (accepted_before p) m.0, λ q other. m.1 q other ∙ accepted_before q, m.2)
      moved_on None m = (m.0, λ q. m.1 q ∙ accepted_before q, m.2)
  moves_by false false false la pb oc h = absurd (true≢false (sym h))

  pub steps_to : (moved more : Bool) (turned : ℕ)
      → moved ≡ ((listened || played) || offered)
      → more ≡ has_more_at w w.turn
      → turned ≡ turn_after w.turn (length w.player.inboxes.items) (moved && more)
      → StepsTo seen moved t (record w { turn = turned })
  steps_to moved more turned any has is =
      let there : w.turn ≡ t.turn = ap (λ (r : Running G S). r.turn) offers ∙ turn ∙ ap (λ (r : Running G S). r.turn) listens in
      record {
        still = λ none.
            let h = sym any ∙ none in
            let s = still_by (first_false listened played offered h) (second_false listened played offered h) (third_false listened played offered h) in
            record { taken = s.taken; accepted = s.accepted; says = s.says; phase = s.phase; router = s.router; inboxes = s.inboxes };
        moves = λ some. moves_by listened played offered refl refl refl (sym any ∙ some);
        plays = λ h. plays_by (listens_not h) h;
        at_once = λ h. due_after played refl h;
        none_due = λ none. due_looked (second_false listened played offered (sym any ∙ none));
        turn = is ∙ ap (λ (b : Bool). turn_after w.turn (length w.player.inboxes.items) (moved && b)) has
            ∙ ap (λ (k : ℕ). turn_after k (length w.player.inboxes.items) (moved && has_more_at w k)) there;
      }

-- ---- many steps

module _ {G S : Type 0} (seen : EndsOf S) where
  idle_within : (k idle : ℕ) (old new : Running G S) → Steps seen k idle old new → idle ≤ k
  idle_within zero idle old new h = let none = h.0 in omega (arith, none)
  idle_within (suc k) idle old new (mid, before, moved, earlier, step, is) = by moved is (idle_within k before old mid earlier)
    where
      by : (m : Bool) → idle ≡ (if m then 0 else suc before) → before ≤ k → idle ≤ suc k
      by true e low = omega (arith, e)
      by false e low = omega (arith, e, low)

  -- after an idle step no round is due
  pub rests : (k idle n : ℕ) (old new : Running G S) → Steps seen k idle old new → n < idle → is_due new ≡ false
  rests zero idle n old new h low = let none = h.0 in absurd (omega (arith, none, low))
  rests (suc k) idle n old new (mid, before, moved, earlier, step, is) low = by moved step is
    where
      by : (m : Bool) → StepsTo seen m mid new → idle ≡ (if m then 0 else suc before) → is_due new ≡ false
      by true s e = absurd (omega (arith, e, low))
      by false s e = s.none_due refl

  pub one_step_more : (k idle : ℕ) (old mid new : Running G S) (moved : Bool) (after : ℕ)
      → k < 64
      → Steps seen k idle old mid
      → StepsTo seen moved mid new
      → after ≡ (if moved then 0 else min (idle + 1) (2 ^ 64 - 1))
      → Steps seen (k + 1) after old new
  one_step_more k idle old mid new moved after low earlier step is =
      let next : suc k ≡ k + 1 = omega arith in
      let steps : Steps seen (suc k) after old new = (mid, idle, moved, earlier, step, is ∙ by moved) in
      subst (λ (n : ℕ). Steps seen n after old new) next steps
    where
      by : (m : Bool) → (if m then 0 else min (idle + 1) (2 ^ 64 - 1)) ≡ (if m then 0 else suc idle)
      by true = refl
      by false = let within = idle_within k idle old mid earlier in omega (arith, low, within)

  pub polls_idle : (most k idle : ℕ) (old new : Running G S) → k ≤ most → Steps seen k idle old new → length new.player.inboxes.items < idle → Polls seen most old new
  polls_idle most k idle old new within steps idles = record {
    count = k;
    bounded = within;
    idle = idle;
    steps = steps;
    ends = inr idles;
    none_due = inr (rests k idle (length new.player.inboxes.items) old new steps idles);
  }

  pub polls_all : (most k idle : ℕ) (old new : Running G S) → Steps seen k idle old new → k ≡ most → Polls seen most old new
  polls_all most k idle old new steps all = record { count = k; bounded = omega (arith, all); idle = idle; steps = steps; ends = inl all; none_due = inl all }
