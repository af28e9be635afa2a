-- What is delivered in a legal trace was not seen lately, and is marked as seen. So nothing is delivered again before its
-- mark counts no more.
use Rattle.std.proofs.Common.{◌≡◌, refl, subst, ℕ, ◌+◌, ◌-◌, ◌≤◌, arith, Bool, true, false, if◌then◌else◌, List, [], ◌∷◌, ◌++◌, Option, Some, None}
use Rattle.std.specs.List.{AllByRecursion}
use Rattle.std.proofs.lemmas.Bool.Decides.{nat_tests}
use Rattle.gs_base.specs.declared.names.PeerNo.{PeerNo}
use Rattle.gs_base.specs.declared.names.Topic.{Topic}
use Rattle.gs_base.specs.declared.names.MsgId.{MsgId}
use Rattle.gs_base.specs.declared.verdict.Verdict.{Verdict}
use Rattle.gs_base.specs.declared.verdict.Verdict.TheVariants.{Accept}
use Rattle.gs_base.specs.declared.mark.Mark.{Mark}
use Rattle.gs_base.specs.declared.mark.Mark.TheVariants.{Seen, Published}
use Rattle.gs_rules.specs.declared.event.Event.{Event}
use Rattle.gs_rules.specs.declared.event.Event.TheVariants.{Part, Step, Own, Heard, Late, BeatBegin, Lost, Decay, RoundEnd, Shut}
use Rattle.gs_rules.specs.declared.event.BeatStep.TheVariants.{MeshBeat, FanBeat, GossipBeat, FanEnd, BeatEnd}
use Rattle.gs_plan.specs.declared.plan.Act.TheVariants.{Subscribe, Publish, Unsubscribe, Raw, HangUp}
use Rattle.gs_rules.specs.declared.trace.Entry.{Entry}
use Rattle.gs_base.specs.Names.{same_id, message_id}
use Rattle.gs_rules.specs.Tables.{Entries, last_moment, joined, Sighting, after_marks, sighting_after, last_seen, counting, seen}
use Rattle.gs_rules.specs.Peers.{Peer, seen_ttl}
use Rattle.gs_rules.specs.Owed.{owed}
use Rattle.gs_rules.specs.Membership.{candidates, fanning}
use Rattle.gs_rules.specs.MeshRules.{fanout_marks, joining, publish_rule, publishing, those_among}
use Rattle.gs_rules.specs.declared.outcome.FanoutUse.{FanoutUse}
use Rattle.gs_rules.specs.declared.outcome.FanoutUse.TheVariants.{Unused, Kept, Filled}
use Rattle.gs_rules.specs.BeatRules.{mending, refanning}
use Rattle.gs_rules.specs.Rules.{gossiping, rule_of, no_effects}
use Rattle.gs_rules.specs.Modes.{SaysTheSame, Follows, free}
use Rattle.gs_rules.specs.Legal.{MayPublish, IsNext, IsAllowed, Legal, Delivers, DeliversApart}
use Rattle.gs_rules.proofs.Legality.{legal_newest}
use Rattle.gs_rules.proofs.Owed.{opens}
use Rattle.gs_rules.proofs.Ruled.{mesh_change_at, what_is_mended, what_is_published}
use Rattle.gs_rules.proofs.Fresh.{IsFresh, SaysSeen, delivers_none, delivers_one}
use Rattle.gs_rules.proofs.PartRules.{part_is_fresh}

-- ---- one entry

-- who comes into a fanout says nothing of a message
fanning_says : (id : MsgId) (t : Topic) (fanned : List PeerNo) (marks : List Mark) → AllByRecursion (SaysSeen id) marks → AllByRecursion (SaysSeen id) (fanning t fanned ++ marks)
fanning_says id t [] marks all = all
fanning_says id t (q ∷ fanned) marks all = (tt, fanning_says id t fanned marks all)

-- a message that the peer published, by whether it is subscribed
module _ (p : Peer) (L : Entries) (t : Topic) (payload : List ℕ) (e : Entry) (id : MsgId) (may : MayPublish p L e.at.0 t payload) (delivers : Delivers e id) where
  fanout_says : (fanout_use : FanoutUse) (chosen : List PeerNo) → AllByRecursion (SaysSeen (message_id payload)) (fanout_marks fanout_use t chosen)
  fanout_says Unused chosen = tt
  fanout_says Kept chosen = (tt, tt)
  fanout_says Filled chosen = fanning_says (message_id payload) t chosen (Published t ∷ []) (tt, tt)

  by_subscription : (receivers : List PeerNo) (fanout_use : FanoutUse) → SaysTheSame e.effects (publishing p L t payload receivers fanout_use) → (is_joined : Bool) → joined L t ≡ is_joined → IsFresh p L e id
  by_subscription receivers fanout_use same false j = delivers_none p L e (publishing p L t payload receivers fanout_use) id same (rw j refl) delivers
  by_subscription receivers fanout_use same true j =
      delivers_one p L e (publishing p L t payload receivers fanout_use) (t, payload) id same (rw j refl)
      ((refl, refl), (tt, fanout_says fanout_use receivers)) refl may.unseen delivers

  published : Follows free (publish_rule p L e.at t payload) tt e.effects tt → IsFresh p L e id
  published effects =
      what_is_published (IsFresh p L e id) p L t payload e
      (λ receivers same. by_subscription receivers Unused same (joined L t) refl)
      (λ receivers same. by_subscription receivers Kept same (joined L t) refl)
      (λ receivers ordinary same. by_subscription receivers Filled same (joined L t) refl)
      effects

-- of all events, only a message and what the peer publishes deliver
by_event : (p : Peer) (L : Entries) (event : Event) (e : Entry) (id : MsgId) → IsNext p L e.at.0 (owed p L).events event → Follows free (rule_of p L e.at event) tt e.effects tt → Delivers e id → IsFresh p L e id
by_event p L (Own (Publish t payload)) e id next effects delivers = published p L t payload e id (opens p L e.at.0 (Own (Publish t payload)) (λ h. h) next) delivers effects
by_event p L (Part q part) e id next effects delivers = part_is_fresh p L q e id part effects delivers
by_event p L (Own (Subscribe t)) e id next effects delivers =
    delivers_none p L e (joining p L t (those_among (effects.0 ++ effects.3.0) (candidates p L e.at.0 t))) id effects.3.3.0 refl delivers
by_event p L (Step (MeshBeat t)) e id next effects delivers =
    what_is_mended (IsFresh p L e id) p L t e
    (λ kept come same. delivers_none p L e (mending p L e.at t (mesh_change_at p L e.at.0 t kept come)) id same refl delivers) effects
by_event p L (Step (FanBeat t)) e id next effects delivers = delivers_none p L e (refanning p L e.at t effects.0) id effects.3.0 refl delivers
by_event p L (Step (GossipBeat t)) e id next effects delivers = delivers_none p L e (gossiping p L t effects.0) id effects.3.0 refl delivers
by_event p L (Own (Unsubscribe t)) e id next effects delivers = delivers_none p L e _ id effects.0 refl delivers
by_event p L (Own (HangUp q)) e id next effects delivers = delivers_none p L e _ id effects.0 refl delivers
by_event p L (Own (Raw q bytes)) e id next effects delivers = delivers_none p L e no_effects id effects.0 refl delivers
by_event p L (Step (FanEnd t)) e id next effects delivers = delivers_none p L e _ id effects.0 refl delivers
by_event p L (Step BeatEnd) e id next effects delivers = delivers_none p L e no_effects id effects.0 refl delivers
by_event p L BeatBegin e id next effects delivers = delivers_none p L e _ id effects.0 refl delivers
by_event p L (Lost q loss) e id next effects delivers = delivers_none p L e _ id effects.0 refl delivers
by_event p L (Heard q rpc) e id next effects delivers = delivers_none p L e no_effects id effects.0 refl delivers
by_event p L (Late q rpc) e id next effects delivers = delivers_none p L e no_effects id effects.0 refl delivers
by_event p L Decay e id next effects delivers = delivers_none p L e no_effects id effects.0 refl delivers
by_event p L (RoundEnd r) e id next effects delivers = delivers_none p L e no_effects id effects.0 refl delivers
by_event p L Shut e id next effects delivers = delivers_none p L e no_effects id effects.0 refl delivers

delivered_is_fresh : (p : Peer) (L : Entries) (e : Entry) (id : MsgId) → IsAllowed free p L tt e tt → Delivers e id → IsFresh p L e id
delivered_is_fresh p L e id allowed delivers = by_event p L e.event e id allowed.next allowed.effects delivers

-- ---- a legal trace

-- what came before is legal too
pub legal_before : (p : Peer) (later L : Entries) → Legal p (later ++ L) → Legal p L
legal_before p [] L legal = legal
legal_before p (e ∷ later) L legal = legal_before p later L legal.1

-- time never falls
time_rises : (p : Peer) (between : Entries) (f : Entry) (earlier : Entries) → Legal p (between ++ f ∷ earlier) → f.at.0 ≤ last_moment (between ++ f ∷ earlier)
time_rises p [] f earlier legal = omega arith
time_rises p (g ∷ between) f earlier legal = omega (arith, (legal_newest p g (between ++ f ∷ earlier) legal).time, time_rises p between f earlier legal.1)

-- a message was seen at this moment or after it
record IsSince (moment : ℕ) (seen : Option Sighting) : Type 0 where
  sighting : Sighting
  is : seen ≡ Some sighting
  since : moment ≤ sighting.at

-- a message that was seen at a moment or after it still was so after one more mark
since_by : (moment at : ℕ) (verdict : Verdict) (same : Bool) (before : Option Sighting) → moment ≤ at → IsSince moment before → IsSince moment (if same then Some (record { at = at; verdict = verdict }) else before)
since_by moment at verdict true before later h = record { sighting = record { at = at; verdict = verdict }; is = refl; since = later }
since_by moment at verdict false before later h = h

since_mark : (moment at : ℕ) (id : MsgId) (mark : Mark) (before : Option Sighting) → moment ≤ at → IsSince moment before → IsSince moment (sighting_after id at mark before)
since_mark moment at id (Seen other verdict) before later h = since_by moment at verdict (same_id other id) before later h
since_mark moment at id other before later h = h

since_marks : (moment at : ℕ) (id : MsgId) (marks : List Mark) (before : Option Sighting) → moment ≤ at → IsSince moment before → IsSince moment (after_marks (sighting_after id at) marks before)
since_marks moment at id [] before later h = h
since_marks moment at id (mark ∷ marks) before later h = since_marks moment at id marks (sighting_after id at mark before) later (since_mark moment at id mark before later h)

-- what is marked is seen from then on
seen_since : (p : Peer) (between : Entries) (f : Entry) (earlier : Entries) (id : MsgId) → Legal p (between ++ f ∷ earlier) → ((before : Option Sighting) → after_marks (sighting_after id f.at.0) f.effects.marks before ≡ Some (record { at = f.at.0; verdict = Accept })) → IsSince f.at.0 (last_seen (between ++ f ∷ earlier) id)
seen_since p [] f earlier id legal marked = record { sighting = record { at = f.at.0; verdict = Accept }; is = marked (last_seen earlier id); since = omega arith }
seen_since p (g ∷ between) f earlier id legal marked =
    since_marks f.at.0 g.at.0 id g.effects.marks (last_seen (between ++ f ∷ earlier) id) (time_rises p (g ∷ between) f earlier legal) (seen_since p between f earlier id legal.1 marked)

-- a sighting that does not count any more is as old as the time for which it counts
is_past : (ttl now : ℕ) (s : Sighting) → counting ttl now (Some s) ≡ None → ttl ≤ now - s.at
is_past ttl now s none = grind (arith, nat_tests)

pub not_repeated : (p : Peer) (later between earlier : Entries) (e f : Entry) (id : MsgId) → Legal p (later ++ e ∷ (between ++ f ∷ earlier)) → Delivers e id → Delivers f id → f.at.0 + (seen_ttl p) ≤ e.at.0
not_repeated p later between earlier e f id legal delivers_e delivers_f =
    let now = legal_before p later (e ∷ (between ++ f ∷ earlier)) legal in
    let before : Legal p (between ++ f ∷ earlier) = now.1 in
    let start = legal_before p between (f ∷ earlier) before in
    let first = delivered_is_fresh p earlier f id (legal_newest p f earlier start) delivers_f in
    let second = delivered_is_fresh p (between ++ f ∷ earlier) e id (legal_newest p e (between ++ f ∷ earlier) now) delivers_e in
    let sight = seen_since p between f earlier id before first.marked in
    let past : (seen_ttl p) ≤ e.at.0 - sight.sighting.at = is_past (seen_ttl p) e.at.0 sight.sighting (rw sight.is at second.unseen) in
    let rises : f.at.0 ≤ e.at.0 = time_rises p (e ∷ between) f earlier now in
    omega (arith, sight.since)

-- so nothing is delivered twice while it counts as seen
pub deliveries_apart : (p : Peer) (L : Entries) → Legal p L → DeliversApart (seen_ttl p) L
deliveries_apart p L legal = λ later between earlier e f id is delivers_e delivers_f.
    not_repeated p later between earlier e f id (subst (Legal p) is legal) delivers_e delivers_f
