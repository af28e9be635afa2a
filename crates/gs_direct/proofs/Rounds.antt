-- Whoever has ended is not up after the round in which that is heard, and is heard no more.
use Rattle.std.proofs.Common.{◌≡◌, ◌≤◌, ◌⊎◌, ℕ, zero, suc, Bool, true, false, if◌then◌else◌, List, [], ◌∷◌, ◌++◌, map, Option, None, Some, inl, inr, refl, sym, ap, subst, ◌∙◌, append_assoc, append-nil, arith, true≢false, eq-eqb, eq-or-lt_of_le, le_of_suc-le-suc}
use Rattle.std.specs.List.{AllZip}
use Rattle.gs_base.specs.declared.names.PeerNo.{PeerNo}
use Rattle.gs_base.specs.declared.names.Millis.{Millis}
use Rattle.gs_base.specs.Names.{same_peer}
use Rattle.gs_base.specs.Tokens.{Said}
use Rattle.gs_rules.specs.declared.event.Event.{Event}
use Rattle.gs_rules.specs.declared.event.Event.TheVariants.{Lost}
use Rattle.gs_rules.specs.declared.event.Loss.TheVariants.{Fault, Gone}
use Rattle.gs_rules.specs.declared.refusal.RefusedLine.{RefusedLine}
use Rattle.gs_rules.specs.Peers.{Peer, links_of}
use Rattle.gs_rules.specs.Tables.{Entries, up, up_after}
use Rattle.gs_rules.specs.Legal.{Comes, Opens, losing}
use Rattle.gs_rules.specs.Hearing.{ComesIn, Inbound}
use Rattle.gs_rules.specs.Rounds.{AfterRounds, Does, Hear, HearFault, HearGone, Playing, Plays, Seat, Todo, agenda, beats_in, decays_in, EndRound, ending, hears, hears_of, is_broken, lines_at, moment_of, noted, clock_of}
use Rattle.gs_rules.proofs.Handled.{GoesOn, does_on}
use Rattle.gs_rules.proofs.RoundEnds.{does_parts}
use Rattle.gs_player.specs.Ended.{whole}
use Rattle.gs_player.proofs.Since.{down_stays}
use Rattle.gs_player.proofs.Words.{comes_stays, whole_before}
use Rattle.gs_direct.specs.Runs.{HasEnded}
use Rattle.gs_direct.proofs.Alone.{comes_alone}

-- ---- what has ended stays so

whole_at : (r k : ℕ) (w : Said) → k ≤ r → whole r w ≡ true → whole k w ≡ true
whole_at zero k w few h = let none : zero ≡ k = omega (arith, few) in subst (λ (n : ℕ). whole n w ≡ true) none h
whole_at (suc r) k w few h = elim (eq-or-lt_of_le few) [
  | inl same ↦ subst (λ (n : ℕ). whole n w ≡ true) (sym same) h
  | inr less ↦ whole_at r k w (le_of_suc-le-suc less) (whole_before r w h)
]

pub ended_stays : (r : ℕ) (w more : Said) → whole r w ≡ true → HasEnded r w → HasEnded r (w ++ more)
ended_stays r w more all h = record {
  round = h.round;
  early = h.early;
  inbound = h.inbound;
  comes = comes_stays h.round w more h.inbound (whole_at r h.round w h.early all) h.comes;
  ends = h.ends;
}

-- ---- whoever ends is lost

same_self : (q : PeerNo) → same_peer q q ≡ true
same_self q = eq-eqb q.0 q.0 refl

-- by whatever event it is lost
lost_is_down : (p : Peer) (at : Millis) (q : PeerNo) (event : Event) (K M : Entries) → up_after q event (up K q) ≡ false → Comes p at (losing K q event) K M → up M q ≡ false
lost_is_down p at q event K M loses comes = by (up K q) refl (subst (λ (o : Option Event). Comes p at o K M) refl comes)
  where
    by : (b : Bool) → up K q ≡ b → Comes p at (losing K q event) K M → up M q ≡ false
    by false down c =
        ap (λ (L : Entries). up L q) (subst (λ (b : Bool). Comes p at (if b then Some event else None) K M) down c) ∙ down
    by true still c =
        let opens : Opens p at event K M = subst (λ (b : Bool). Comes p at (if b then Some event else None) K M) still c in
        let b = opens.begun in
        ap (λ (L : Entries). up L q) b.entries
        ∙ down_stays (b.first ∷ K) q b.paid (ap (λ (e : Event). up_after q e (up K q)) b.opened ∙ loses)

cuts_self : (b : Bool) (q : PeerNo) → (if same_peer q q then false else b) ≡ false
cuts_self b q = ap (λ (s : Bool). if s then false else b) (same_self q)

-- hearing that it ends
ending_is_down : (p : Peer) (at : Millis) (q : PeerNo) (x : Inbound) (K M : Entries) (refused : List RefusedLine)
    → (is_broken x ≡ true) ⊎ (x.closes ≡ true) → Does p at (ending q x) K M refused → up M q ≡ false
ending_is_down p at q x K M refused ends does = by (is_broken x) x.closes refl refl does
  where
    fault : Does p at (HearFault q ∷ []) K M refused → up M q ≡ false
    fault (N, later, comes, none, is) = ap (λ (L : Entries). up L q) none.0 ∙ lost_is_down p at q (Lost q Fault) K N (cuts_self (up K q) q) comes

    gone : Does p at (HearGone q ∷ []) K M refused → up M q ≡ false
    gone (N, later, comes, none, is) = ap (λ (L : Entries). up L q) none.0 ∙ lost_is_down p at q (Lost q Gone) K N (cuts_self (up K q) q) comes

    by : (broken closed : Bool) → is_broken x ≡ broken → x.closes ≡ closed
        → Does p at (if broken then HearFault q ∷ [] else if closed then HearGone q ∷ [] else []) K M refused → up M q ≡ false
    by true closed b c d = fault d
    by false true b c d = gone d
    by false false b c d = elim ends [
      | inl it ↦ absurd (true≢false (sym it ∙ b))
      | inr it ↦ absurd (true≢false (sym it ∙ c))
    ]

-- a peer stands in a list
abbrev pub IsAmongPeers : PeerNo → List PeerNo → Type 0
IsAmongPeers q [] = ⊥
IsAmongPeers q (s ∷ qs) = (s ≡ q) ⊎ IsAmongPeers q qs

-- among all that is heard
hears_are_down : (p : Peer) (at : Millis) (R : PeerNo → Inbound → Type 0) (q : PeerNo) (x : Inbound) (qs : List PeerNo) (xs : List Inbound) (rest : List Todo) (K L : Entries) (refused : List RefusedLine)
    → ((y : Inbound) → R q y → y ≡ x)
    → (is_broken x ≡ true) ⊎ (x.closes ≡ true)
    → IsAmongPeers q qs
    → AllZip R qs xs
    → Does p at (hears qs xs ++ rest) K L refused
    → up L q ≡ false
hears_are_down p at R q x [] xs rest K L refused one ends among said does = absurd among
hears_are_down p at R q x (s ∷ qs) [] rest K L refused one ends among said does = absurd said
hears_are_down p at R q x (s ∷ qs) (y ∷ xs) rest K L refused one ends among said does =
    let parted : Does p at (hears_of s y ++ (hears qs xs ++ rest)) K L refused =
    subst (λ (todos : List Todo). Does p at todos K L refused) (append_assoc (hears_of s y) (hears qs xs) rest) does in
    let (M, first, more, mine, others) = does_parts p at (hears_of s y) (hears qs xs ++ rest) K L refused parted in
    let on = does_on p at (hears qs xs ++ rest) M L more others in
    elim among [
      | inl same ↦
          let (N, a, b, rpcs, ended) = does_parts p at (map (Hear s) y.rpcs) (ending s y) K M first mine in
          let y_is : y ≡ x = one y (subst (λ (z : PeerNo). R z y) same said.0) in
          let ended_so : Does p at (ending q x) N M b = subst (λ (z : PeerNo). Does p at (ending z x) N M b) same (subst (λ (z : Inbound). Does p at (ending s z) N M b) y_is ended) in
          ap (λ (J : Entries). up J q) on.1 ∙ down_stays M q on.0 (ending_is_down p at q x N M b ends ended_so)
      | inr later ↦ hears_are_down p at R q x qs xs rest M L more one ends later said.1 others
    ]

-- in the round in which that is heard
ended_now : (seat : Seat) (said : PeerNo → Said) (q : PeerNo) (r : ℕ) (K L : Entries) (refused : List RefusedLine) (ended : HasEnded r (said q))
    → IsAmongPeers q (links_of seat.peer)
    → ended.round ≡ r
    → Plays seat said (Playing r) K L refused
    → up L q ≡ false
ended_now seat said q r K L refused ended among same plays =
    let comes : ComesIn r (said q) ended.inbound = subst (λ (n : ℕ). ComesIn n (said q) ended.inbound) same ended.comes in
    hears_are_down seat.peer (moment_of seat (Playing r)) (λ s x. ComesIn r (said s) x) q ended.inbound (links_of seat.peer) plays.inbound
    (lines_at seat r ++ (decays_in seat.peer r (clock_of seat r) ++ (beats_in seat.peer r (clock_of seat r) ++ EndRound r ∷ [])))
    K L refused (λ y theirs. comes_alone r (said q) y ended.inbound theirs comes) ended.ends among plays.was_said plays.does

-- in which round it is heard that a neighbour ends, it is not up after that
pub ended_is_down : (seat : Seat) (said : PeerNo → Said) (q : PeerNo) (r : ℕ) (L : Entries) (refused : List RefusedLine)
    → IsAmongPeers q (links_of seat.peer)
    → HasEnded r (said q)
    → AfterRounds seat said (suc r) L refused
    → up L q ≡ false
ended_is_down seat said q zero L refused among ended (K, earlier, more, before, plays, is) =
    ended_now seat said q zero K L more ended among (let early = ended.early in omega (arith, early)) plays
ended_is_down seat said q (suc n) L refused among ended (K, earlier, more, before, plays, is) = elim (eq-or-lt_of_le ended.early) [
  | inl same ↦ ended_now seat said q (suc n) K L more ended among same plays
  | inr less ↦
      let on : GoesOn K L = does_on seat.peer (moment_of seat (Playing (suc n))) (agenda seat (Playing (suc n)) plays.inbound) K L more plays.does in
      let sooner : HasEnded n (said q) = record { round = ended.round; early = le_of_suc-le-suc less; inbound = ended.inbound; comes = ended.comes; ends = ended.ends } in
      ap (λ (J : Entries). up J q) on.1 ∙ down_stays K q on.0 (ended_is_down seat said q n K earlier among sooner before)
]

-- ---- what may be left out

-- Two lists of what there is to do are alike but for neighbours that end who are not up: nothing comes of that.
pub data Alike (K : Entries) : List Todo → List Todo → Type 0 where
  Empty : Alike K [] []
  Next : (todo : Todo) (xs ys : List Todo) → Alike K xs ys → Alike K (todo ∷ xs) (todo ∷ ys)
  MoreFault : (q : PeerNo) (xs ys : List Todo) → up K q ≡ false → Alike K xs ys → Alike K xs (HearFault q ∷ ys)
  MoreGone : (q : PeerNo) (xs ys : List Todo) → up K q ≡ false → Alike K xs ys → Alike K xs (HearGone q ∷ ys)
  LessFault : (q : PeerNo) (xs ys : List Todo) → up K q ≡ false → Alike K xs ys → Alike K (HearFault q ∷ xs) ys
  LessGone : (q : PeerNo) (xs ys : List Todo) → up K q ≡ false → Alike K xs ys → Alike K (HearGone q ∷ xs) ys

pub alike_same : (K : Entries) (todos : List Todo) → Alike K todos todos
alike_same K [] = Empty
alike_same K (todo ∷ todos) = Next todo todos todos (alike_same K todos)

pub alike_append : (K : Entries) (xs ys vs ws : List Todo) → Alike K xs ys → Alike K vs ws → Alike K (xs ++ vs) (ys ++ ws)
alike_append K xs ys vs ws Empty h = h
alike_append K xs ys vs ws (Next todo a b more) h = Next todo (a ++ vs) (b ++ ws) (alike_append K a b vs ws more h)
alike_append K xs ys vs ws (MoreFault q a b down more) h = MoreFault q (a ++ vs) (b ++ ws) down (alike_append K a b vs ws more h)
alike_append K xs ys vs ws (MoreGone q a b down more) h = MoreGone q (a ++ vs) (b ++ ws) down (alike_append K a b vs ws more h)
alike_append K xs ys vs ws (LessFault q a b down more) h = LessFault q (a ++ vs) (b ++ ws) down (alike_append K a b vs ws more h)
alike_append K xs ys vs ws (LessGone q a b down more) h = LessGone q (a ++ vs) (b ++ ws) down (alike_append K a b vs ws more h)

nothing_of : (p : Peer) (at : Millis) (q : PeerNo) (event : Event) (M : Entries) → up M q ≡ false → Comes p at (losing M q event) M M
nothing_of p at q event M down = subst (λ (b : Bool). Comes p at (if b then Some event else None) M M) (sym down) refl

-- and it is all that may come
nothing_but : (p : Peer) (at : Millis) (q : PeerNo) (event : Event) (M N : Entries) → up M q ≡ false → Comes p at (losing M q event) M N → N ≡ M
nothing_but p at q event M N down comes = subst (λ (b : Bool). Comes p at (if b then Some event else None) M N) down comes

still_down : (K M : Entries) (q : PeerNo) → GoesOn K M → up K q ≡ false → up M q ≡ false
still_down K M q on down = ap (λ (J : Entries). up J q) on.1 ∙ down_stays K q on.0 down

-- whoever does the one list does the other
pub alike_does : (p : Peer) (at : Millis) (K : Entries) (xs ys : List Todo) (M L : Entries) (refused : List RefusedLine)
    → Alike K xs ys → GoesOn K M → Does p at xs M L refused → Does p at ys M L refused
alike_does p at K xs ys M L refused Empty on does = does
alike_does p at K xs ys M L refused (Next todo a b more) on (N, later, comes, rest, is) =
    let step = does_on p at (todo ∷ []) M N (noted p M at todo) (N, [], comes, (refl, refl), sym (append-nil (noted p M at todo))) in
    (N, later, comes, alike_does p at K a b N L later more (step.0 ++ on.0, step.1 ∙ ap (λ (J : Entries). step.0 ++ J) on.1 ∙ sym (append_assoc step.0 on.0 K)) rest, is)
alike_does p at K xs ys M L refused (MoreFault q a b down more) on does =
    (M, refused, nothing_of p at q (Lost q Fault) M (still_down K M q on down), alike_does p at K a b M L refused more on does, refl)
alike_does p at K xs ys M L refused (MoreGone q a b down more) on does =
    (M, refused, nothing_of p at q (Lost q Gone) M (still_down K M q on down), alike_does p at K a b M L refused more on does, refl)
alike_does p at K xs ys M L refused (LessFault q a b down more) on (N, later, comes, rest, is) =
    let same : N ≡ M = nothing_but p at q (Lost q Fault) M N (still_down K M q on down) comes in
    subst (Does p at ys M L) (sym is) (alike_does p at K a b M L later more on (subst (λ (J : Entries). Does p at a J L later) same rest))
alike_does p at K xs ys M L refused (LessGone q a b down more) on (N, later, comes, rest, is) =
    let same : N ≡ M = nothing_but p at q (Lost q Gone) M N (still_down K M q on down) comes in
    subst (Does p at ys M L) (sym is) (alike_does p at K a b M L later more on (subst (λ (J : Entries). Does p at a J L later) same rest))

-- ---- how a neighbour ends that is not up

pub more_ending : (K : Entries) (q : PeerNo) (x : Inbound) → up K q ≡ false → Alike K [] (ending q x)
more_ending K q x down = by (is_broken x) x.closes
  where
    by : (broken closed : Bool) → Alike K [] (if broken then HearFault q ∷ [] else if closed then HearGone q ∷ [] else [])
    by true closed = MoreFault q [] [] down Empty
    by false true = MoreGone q [] [] down Empty
    by false false = Empty

pub less_ending : (K : Entries) (q : PeerNo) (x : Inbound) (ys : List Todo) → up K q ≡ false → Alike K [] ys → Alike K (ending q x) ys
less_ending K q x ys down more = by (is_broken x) x.closes
  where
    by : (broken closed : Bool) → Alike K (if broken then HearFault q ∷ [] else if closed then HearGone q ∷ [] else []) ys
    by true closed = LessFault q [] ys down more
    by false true = LessGone q [] ys down more
    by false false = more
