-- An entry that delivers a message finds that it was not seen lately, and marks it as seen. What is delivered about a part
-- of an RPC is so, or there is nothing.
use Rattle.std.proofs.Common.{◌≡◌, refl, sym, ap, ◌∙◌, ℕ, zero, suc, ◌+◌, ◌-◌, arith, Bool, true, false, List, [], ◌∷◌, ◌++◌, length, Option, Some, None}
use Rattle.std.specs.List.{AllByRecursion, IsAmong, list_any}
use Rattle.std.specs.Prelude.{IsPermutation}
use Rattle.std.proofs.lemmas.Cmp.{nat_list_eq_equiv}
use Rattle.std.proofs.lemmas.List.Elements.{All-from_recursion, recursion_from_All}
use Rattle.std.proofs.lemmas.List.Sorted.{All-permutation, list_any-IsPermutation}
use Rattle.gs_base.specs.declared.names.PeerNo.{PeerNo}
use Rattle.gs_base.specs.declared.names.Topic.{Topic}
use Rattle.gs_base.specs.declared.names.MsgId.{MsgId}
use Rattle.gs_base.specs.declared.rpc.Message.{Message}
use Rattle.gs_base.specs.declared.control.IHave.{IHave}
use Rattle.gs_base.specs.declared.control.IWant.{IWant}
use Rattle.gs_base.specs.declared.verdict.Verdict.{Verdict}
use Rattle.gs_base.specs.declared.verdict.Verdict.TheVariants.{Accept, Reject, Ignore}
use Rattle.gs_base.specs.declared.mark.Mark.{Mark}
use Rattle.gs_base.specs.declared.mark.Mark.TheVariants.{Seen, Cached}
use Rattle.gs_rules.specs.declared.trace.Entry.{Entry}
use Rattle.gs_rules.specs.declared.trace.Effects.{Effects}
use Rattle.gs_base.specs.Names.{message_id, topic_of, payload_of}
use Rattle.gs_rules.specs.Tables.{Entries, Sighting, after_marks, sighting_after, seen}
use Rattle.gs_rules.specs.Peers.{Peer, seen_ttl}
use Rattle.gs_mesh.specs.Peers.{is_among}
use Rattle.gs_rules.specs.Meshes.{mesh}
use Rattle.gs_rules.specs.Rules.{asking, counted, explicit_listeners, have_rule, want_rule, wanted, no_effects}
use Rattle.gs_rules.specs.declared.outcome.Outcome.{Outcome}
use Rattle.gs_rules.specs.declared.outcome.Outcome.TheVariants.{Accepted, Ignored, Invalid, Near, Rejected}
use Rattle.gs_rules.specs.Outcomes.{found_to_be, message_effects, message_rule, near_of}
use Rattle.gs_rules.specs.Modes.{SaysTheSame, Follows, free}
use Rattle.gs_rules.specs.Legal.{Delivers}
use Rattle.gs_rules.proofs.Judged.{of_a_message, of_a_request}
use Rattle.gs_rules.proofs.Offers.{what_is_offered}

-- a message was not seen lately, and is marked as seen now
pub record IsFresh (p : Peer) (L : Entries) (e : Entry) (id : MsgId) : Type 0 where
  pub unseen : seen (seen_ttl p) L id e.at.0 ≡ None
  pub marked : (before : Option Sighting) → after_marks (sighting_after id e.at.0) e.effects.marks before ≡ Some (record { at = e.at.0; verdict = Accept })

-- what is among none, and among one
nothing_among : {X : Type 0} (xs : List X) (x : X) → xs ≡ [] → IsAmong xs x → ⊥
nothing_among xs x e among = omega (arith, among.1.0, ap length e)

only_among : {X : Type 0} (y x : X) → IsAmong (y ∷ []) x → x ≡ y
only_among y x (zero, (here, is)) = is
only_among y x (suc i, (far, is)) = absurd (omega arith)

-- ---- marks in any order

-- a mark that says that this message was seen, or one that says of no message when it was seen
abbrev pub SaysSeen : MsgId → Mark → Type 0
SaysSeen id (Seen other verdict) = (other ≡ id) × (verdict ≡ Accept)
SaysSeen id other = Unit {0}

-- a mark that says of a message when it was seen
abbrev is_sight : Mark → Bool
is_sight (Seen id verdict) = true
is_sight other = false

-- seen at this moment, and found to be well
abbrev accepted : ℕ → Option Sighting
accepted at = Some (record { at = at; verdict = Accept })

-- a message is found by its own identifier
found_itself : (id other : MsgId) (verdict : Verdict) (at : ℕ) (before : Option Sighting) → other ≡ id → verdict ≡ Accept → sighting_after id at (Seen other verdict) before ≡ accepted at
found_itself id other verdict at before this well = rw (this, well, nat_list_eq_equiv.refl id.0) refl

-- after one such mark all others leave what it says
stays_seen : (id : MsgId) (at : ℕ) (marks : List Mark) → AllByRecursion (SaysSeen id) marks → after_marks (sighting_after id at) marks (accepted at) ≡ accepted at
stays_seen id at [] all = refl
stays_seen id at (Seen other verdict ∷ marks) all =
    ap (λ (before : Option Sighting). after_marks (sighting_after id at) marks before) (found_itself id other verdict at (accepted at) all.0.0 all.0.1) ∙ stays_seen id at marks all.1
stays_seen id at (other ∷ marks) all = stays_seen id at marks all.1

-- where one mark says that the message was seen, and no other says otherwise, it was seen at this moment
gets_seen : (id : MsgId) (at : ℕ) (marks : List Mark) (before : Option Sighting) → AllByRecursion (SaysSeen id) marks → list_any is_sight marks ≡ true → after_marks (sighting_after id at) marks before ≡ accepted at
gets_seen id at [] before all some = absurd cc
gets_seen id at (Seen other verdict ∷ marks) before all some =
    ap (λ (seen : Option Sighting). after_marks (sighting_after id at) marks seen) (found_itself id other verdict at before all.0.0 all.0.1) ∙ stays_seen id at marks all.1
gets_seen id at (other ∷ marks) before all some = gets_seen id at marks before all.1 some

-- an accepted message is marked as seen, among others and in any order
accepts : (id : MsgId) (at : ℕ) (list marks : List Mark) → AllByRecursion (SaysSeen id) list → list_any is_sight list ≡ true → IsPermutation list marks → (before : Option Sighting) → after_marks (sighting_after id at) marks before ≡ accepted at
accepts id at list marks all some same before =
    gets_seen id at marks before
    (recursion_from_All (SaysSeen id) marks (All-permutation (SaysSeen id) list marks same (All-from_recursion (SaysSeen id) list all)))
    (sym (list_any-IsPermutation is_sight list marks same) ∙ some)

-- an entry is fresh where its rule gives one message that was not seen lately, and marks it
pub delivers_one : (p : Peer) (L : Entries) (e : Entry) (x : Effects) (y : Topic × List ℕ) (id : MsgId) → SaysTheSame e.effects x → x.delivered ≡ y ∷ [] → AllByRecursion (SaysSeen (message_id y.1)) x.marks → list_any is_sight x.marks ≡ true → seen (seen_ttl p) L (message_id y.1) e.at.0 ≡ None → Delivers e id → IsFresh p L e id
delivers_one p L e x y id same delivered all some unseen (z, among, is) =
    let this : z ≡ y = only_among y z (rw (same.delivered, delivered) at among) in
    let known : message_id y.1 ≡ id = ap (λ w. message_id w.1) (sym this) ∙ is in
    record {
      unseen = rw (← known) unseen;
      marked = λ before. rw (← known) (accepts (message_id y.1) e.at.0 x.marks e.effects.marks all some same.marks before);
    }

-- where its rule gives no message, it delivers none
pub delivers_none : (p : Peer) (L : Entries) (e : Entry) (x : Effects) (id : MsgId) → SaysTheSame e.effects x → x.delivered ≡ [] → Delivers e id → IsFresh p L e id
delivers_none p L e x id same delivered (z, among, is) = absurd (nothing_among e.effects.delivered z (same.delivered ∙ delivered) among)

-- a message that came
pub heard : (p : Peer) (L : Entries) (q : PeerNo) (m : Message) (e : Entry) (id : MsgId) → SaysTheSame e.effects (message_rule p L e.at q m) → Delivers e id → IsFresh p L e id
heard p L q m e id same delivers =
    of_a_message (λ (x : Effects). SaysTheSame e.effects x → IsFresh p L e id) p L e.at q m
    (λ says. delivers_none p L e no_effects id says refl delivers)
    (λ says. delivers_none p L e (becomes Invalid) id says refl delivers)
    (λ says. delivers_none p L e (becomes (Near (message_id (payload_of m)))) id says refl delivers)
    new
    same
  where
    becomes : Outcome → Effects
    becomes found = message_effects (mesh L (topic_of m)) (explicit_listeners p L (topic_of m)) q m found

    near_says : (near : Bool) (rest : List Mark) → AllByRecursion (SaysSeen (message_id (payload_of m))) rest → AllByRecursion (SaysSeen (message_id (payload_of m))) (near_of near q (topic_of m) (message_id (payload_of m)) ++ rest)
    near_says true rest all = (tt, all)
    near_says false rest all = all

    new : seen (seen_ttl p) L (message_id (payload_of m)) e.at.0 ≡ None → (v : Verdict) → SaysTheSame e.effects (becomes (found_to_be (message_id (payload_of m)) v)) → IsFresh p L e id
    new unseen Accept says =
        delivers_one p L e (becomes (Accepted (message_id (payload_of m)))) (topic_of m, payload_of m) id says refl
        ((refl, refl), (tt, near_says (is_among (mesh L (topic_of m)) q) (Cached (message_id (payload_of m)) (topic_of m) ∷ []) (tt, tt))) refl unseen delivers
    new unseen Reject says = delivers_none p L e (becomes (Rejected (message_id (payload_of m)))) id says refl delivers
    new unseen Ignore says = delivers_none p L e (becomes (Ignored (message_id (payload_of m)))) id says refl delivers

-- an offer delivers nothing, whatever is chosen
pub offered : (p : Peer) (L : Entries) (q : PeerNo) (offer : IHave) (e : Entry) (id : MsgId) → Follows free (have_rule p L e.at q offer) tt e.effects tt → Delivers e id → IsFresh p L e id
offered p L q offer e id effects delivers =
    what_is_offered (λ (e : Entry). IsFresh p L e id) p L e.at q offer e
    (λ same. delivers_none p L e no_effects id same refl delivers)
    (λ same. delivers_none p L e (counted q) id same refl delivers)
    (λ place same. delivers_none p L e (asking p e.at q (wanted p L e.at.0 q offer.ids) place) id same refl delivers)
    effects

-- a request delivers nothing
pub requested : (p : Peer) (L : Entries) (q : PeerNo) (request : IWant) (e : Entry) (id : MsgId) → SaysTheSame e.effects (want_rule p L e.at q request) → Delivers e id → IsFresh p L e id
requested p L q request e id same delivers =
    delivers_none p L e (want_rule p L e.at q request) id same (of_a_request (λ (x : Effects). x.delivered ≡ []) p L e.at q request refl refl) delivers
