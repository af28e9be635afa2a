-- Each mark of an entry that follows its rule is one that such an entry may have.
use Rattle.std.proofs.Common.{◌≡◌, inr, ℕ, Bool, true, false, if◌then◌else◌, List, [], ◌∷◌, ◌++◌, ◌-◌, length, map, refl, ap}
use Rattle.std.specs.Prelude.{◌&&◌, filter, nat_le, not}
use Rattle.std.specs.List.{AllByRecursion, flat_map}
use Rattle.std.specs.Set.{is_member}
use Rattle.std.proofs.lemmas.Bool.{and_parts}
use Rattle.std.proofs.lemmas.Slice.Eq.{bytes_eq-Decides}
use Rattle.gs_base.specs.declared.names.PeerNo.{PeerNo}
use Rattle.gs_base.specs.declared.names.Topic.{Topic}
use Rattle.gs_base.specs.declared.names.Millis.{Millis}
use Rattle.gs_base.specs.declared.mark.Mark.TheVariants.{Misbehaviour, Published}
use Rattle.gs_base.specs.Names.{same_peer}
use Rattle.gs_mesh.specs.declared.members.Member.{Member}
use Rattle.gs_mesh.specs.Peers.{is_among}
use Rattle.gs_wire.proofs.RoundTrip.{all-append}
use Rattle.gs_rules.specs.declared.trace.Promise.{Promise}
use Rattle.gs_rules.specs.declared.event.Event.{Event}
use Rattle.gs_rules.specs.declared.event.Event.TheVariants.{BeatBegin, Part, Step, Own, Heard, Late, Lost, Decay, RoundEnd, Shut}
use Rattle.gs_rules.specs.declared.event.BeatStep.TheVariants.{FanBeat, FanEnd, GossipBeat, MeshBeat, BeatEnd}
use Rattle.gs_plan.specs.declared.plan.Act.TheVariants.{Publish, Subscribe, Unsubscribe, Raw, HangUp}
use Rattle.gs_rules.specs.declared.trace.Entry.{Entry}
use Rattle.gs_rules.specs.Peers.{Peer, is_explicit, is_neighbour, links_of}
use Rattle.gs_rules.specs.Tables.{Entries, joined, on, up}
use Rattle.gs_rules.specs.Meshes.{backoff, fanout, mesh}
use Rattle.gs_rules.specs.Membership.{barring, candidates, each_on, entering, fanning, is_candidate, is_negative, leaving, unfanning}
use Rattle.gs_rules.specs.MeshRules.{fanout_marks, joining, publish_rule, publishing, receivers, subscribe_rule, those_among, those_outside, unsubscribe_rule}
use Rattle.gs_rules.specs.declared.outcome.FanoutUse.{FanoutUse}
use Rattle.gs_rules.specs.declared.outcome.FanoutUse.TheVariants.{Unused, Kept, Filled}
use Rattle.gs_rules.specs.BeatRules.{fan_end, mending, refanning, scored_member, scored_members}
use Rattle.gs_rules.specs.Gossip.{charges, overdue}
use Rattle.gs_rules.specs.Rules.{rule_of, no_effects}
use Rattle.gs_rules.specs.Modes.{Follows, free}
use Rattle.gs_rules.proofs.Each.{each_mapped, each_passing}
use Rattle.gs_rules.proofs.Ruled.{each_chosen, mesh_change_at, receivers_are_ordinary, was_not, what_is_mended, what_is_published}
use Rattle.gs_rules.proofs.Marks.{ComesOnto, GraftedBy, Marks, MayGraft, MayMark, barring_marks, each_among, fanning_marks, leaving_marks, linked_are, lost_marks, message_id_long, out_marks, same_marks, unfanning_marks}
use Rattle.gs_rules.proofs.PartRules.{part_marks}

-- ---- marks of each event

module _ (p : Peer) (L : Entries) where
  -- who is chosen was a candidate
  abbrev Chosen : ℕ → Topic → PeerNo → Type 0
  Chosen at t q = (is_candidate p L at t q ≡ true) × (is_neighbour p q ≡ true)

  candidates_are : (at : ℕ) (t : Topic) → AllByRecursion (Chosen at t) (candidates p L at t)
  candidates_are at t =
      each_passing (λ (q : PeerNo). is_neighbour p q ≡ true) (Chosen at t) (is_candidate p L at t) (λ q is near. (is, near)) (links_of p) (linked_are p.neighbours)

  chosen_are : (at : ℕ) (t : Topic) (chosen : List PeerNo) → AllByRecursion (Chosen at t) (those_among chosen (candidates p L at t))
  chosen_are at t chosen = each_passing (Chosen at t) (Chosen at t) (is_among chosen) (λ q is may. may) (candidates p L at t) (candidates_are at t)

  -- and may come in by an event that lets neighbours in that are up
  abbrev LetsIn : Event → Topic → Type 0
  LetsIn event t = ComesOnto L event t × ((q : PeerNo) → (is_neighbour p q ≡ true) × (up L q ≡ true) → GraftedBy p L event q)

  enters : (at : ℕ) (event : Event) (t : Topic) (q : PeerNo) → LetsIn event t → Chosen at t q → MayGraft p L at event q t
  enters at event t q lets (may, near) =
      let other = and_parts (not (is_explicit p q)) (up L q && (on L q t && (not (is_among (mesh L t) q) && (nat_le (backoff L q t) at && not (is_negative p L at q))))) may in
      let first = and_parts (up L q) (on L q t && (not (is_among (mesh L t) q) && (nat_le (backoff L q t) at && not (is_negative p L at q)))) other.1 in
      let second = and_parts (on L q t) (not (is_among (mesh L t) q) && (nat_le (backoff L q t) at && not (is_negative p L at q))) first.1 in
      let third = and_parts (not (is_among (mesh L t) q)) (nat_le (backoff L q t) at && not (is_negative p L at q)) second.1 in
      let fourth = and_parts (nat_le (backoff L q t) at) (not (is_negative p L at q)) third.1 in
      record { joins = lets.0; ordinary = was_not (is_explicit p q) other.0; rested = fourth.0; who = lets.1 q (near, first.0) }

  entering_marks : (at : ℕ) (event : Event) (t : Topic) (chosen : List PeerNo) → LetsIn event t → AllByRecursion (Chosen at t) chosen → Marks p L at event (entering (each_on t chosen))
  entering_marks at event t [] lets all = tt
  entering_marks at event t (q ∷ chosen) lets all = (enters at event t q lets all.0, entering_marks at event t chosen lets all.1)

  joining_marks : (at : Millis) (t : Topic) (chosen : List PeerNo) → AllByRecursion (Chosen at.0 t) chosen → Marks p L at.0 (Own (Subscribe t)) (joining p L t chosen).marks
  joining_marks at t chosen all =
      all-append (MayMark p L at.0 (Own (Subscribe t))) (entering (each_on t chosen)) (unfanning t (fanout L t))
      (entering_marks at.0 (Own (Subscribe t)) t chosen (ap (λ (same : Bool). if same then true else joined L t) ((bytes_eq-Decides t.0 t.0).1 refl), λ q who. who) all)
      (unfanning_marks p L at.0 (Own (Subscribe t)) t (fanout L t))

  subscribe_marks : (t : Topic) (e : Entry) → Follows free (subscribe_rule p L e.at t) tt e.effects tt → Marks p L e.at.0 (Own (Subscribe t)) e.effects.marks
  subscribe_marks t e effects =
      let chosen : List PeerNo = those_among (effects.0 ++ effects.3.0) (candidates p L e.at.0 t) in
      same_marks (MayMark p L e.at.0 (Own (Subscribe t))) e (joining p L t chosen) effects.3.3.0
      (joining_marks e.at t chosen (chosen_are e.at.0 t (effects.0 ++ effects.3.0)))

  unsubscribe_marks : (at : Millis) (t : Topic) → Marks p L at.0 (Own (Unsubscribe t)) (unsubscribe_rule p L at t).marks
  unsubscribe_marks at t =
      out_marks p L at.0 (Own (Unsubscribe t)) p.params.timing.unsubscribe_backoff_s (each_on t (mesh L t)) (each_on t (mesh L t))
      (each_mapped (λ (x : PeerNo × Topic). is_among (mesh L x.1) x.0 ≡ true) (λ (q : PeerNo). (q, t)) (mesh L t) (each_among (mesh L t)))

  -- a fanout is filled by neighbours that are not explicit
  abbrev FillsOrdinary : FanoutUse → List PeerNo → Type 0
  FillsOrdinary Filled chosen = AllByRecursion (λ (q : PeerNo). is_explicit p q ≡ false) chosen
  FillsOrdinary Unused chosen = Unit {0}
  FillsOrdinary Kept chosen = Unit {0}

  fanout_use_marks : (at : Millis) (t : Topic) (payload : List ℕ) (chosen : List PeerNo) (fanout_use : FanoutUse) → FillsOrdinary fanout_use chosen → Marks p L at.0 (Own (Publish t payload)) (fanout_marks fanout_use t chosen)
  fanout_use_marks at t payload chosen Unused ordinary = tt
  fanout_use_marks at t payload chosen Kept ordinary = (refl, tt)
  fanout_use_marks at t payload chosen Filled ordinary =
      all-append (MayMark p L at.0 (Own (Publish t payload))) (fanning t chosen) (Published t ∷ []) (fanning_marks p L at.0 (Own (Publish t payload)) t chosen ordinary) (refl, tt)

  publishing_marks : (at : Millis) (t : Topic) (payload : List ℕ) (receivers : List PeerNo) (fanout_use : FanoutUse) → FillsOrdinary fanout_use receivers → Marks p L at.0 (Own (Publish t payload)) (publishing p L t payload receivers fanout_use).marks
  publishing_marks at t payload receivers fanout_use ordinary = (tt, (message_id_long payload, fanout_use_marks at t payload receivers fanout_use ordinary))

  publish_marks : (t : Topic) (payload : List ℕ) (e : Entry) → Follows free (publish_rule p L e.at t payload) tt e.effects tt → Marks p L e.at.0 (Own (Publish t payload)) e.effects.marks
  publish_marks t payload e effects =
      what_is_published (Marks p L e.at.0 (Own (Publish t payload)) e.effects.marks) p L t payload e
      (λ receivers same. same_marks (MayMark p L e.at.0 (Own (Publish t payload))) e _ same (publishing_marks e.at t payload receivers Unused tt))
      (λ receivers same. same_marks (MayMark p L e.at.0 (Own (Publish t payload))) e _ same (publishing_marks e.at t payload receivers Kept tt))
      (λ receivers ordinary same. same_marks (MayMark p L e.at.0 (Own (Publish t payload))) e _ same (publishing_marks e.at t payload receivers Filled ordinary))
      effects

  broken_marks : (at : ℕ) (event : Event) (q : PeerNo) (broken : List Promise) → is_neighbour p q ≡ true → Marks p L at event (map (λ (promise : Promise). Misbehaviour q) broken)
  broken_marks at event q [] near = tt
  broken_marks at event q (promise ∷ broken) near = (inr near, broken_marks at event q broken near)

  blaming_marks : (at : ℕ) (event : Event) (qs : List PeerNo) → AllByRecursion (λ (q : PeerNo). is_neighbour p q ≡ true) qs → Marks p L at event (flat_map (charges L at) qs)
  blaming_marks at event [] all = tt
  blaming_marks at event (q ∷ qs) all = all-append (MayMark p L at event) (charges L at q) (flat_map (charges L at) qs) (by (up L q)) (blaming_marks at event qs all.1)
    where
      by : (is_up : Bool) → Marks p L at event (if is_up then map (λ (promise : Promise). Misbehaviour q) (overdue L at q) else [])
      by true = broken_marks at event q (overdue L at q) all.0
      by false = tt

  -- ---- heartbeats

  -- what holds of each of some peers holds of those that are left of them as members
  pub members_are_such : (P : PeerNo → Type 0) (at : ℕ) (test : Member → Bool) (qs : List PeerNo) → AllByRecursion P qs → AllByRecursion P (map (λ (m : Member). m.peer) (filter test (scored_members p L at qs)))
  members_are_such P at test qs all =
      each_mapped P (λ (m : Member). m.peer) (filter test (scored_members p L at qs))
      (each_passing (λ (m : Member). P m.peer) (λ (m : Member). P m.peer) test (λ m is such. such) (scored_members p L at qs)
      (each_mapped (λ (m : Member). P m.peer) (scored_member p L at) qs all))

  -- who goes was a member, and who comes in was a candidate
  mending_marks : (at : Millis) (t : Topic) (kept come : List PeerNo) → Marks p L at.0 (Step (MeshBeat t)) (mending p L at t (mesh_change_at p L at.0 t kept come)).marks
  mending_marks at t kept come =
      let go : List PeerNo = (mesh_change_at p L at.0 t kept come).pruned in
      let come_in : List PeerNo = (mesh_change_at p L at.0 t kept come).grafted in
      let seconds : ℕ = p.params.timing.prune_backoff_s in
      all-append (MayMark p L at.0 (Step (MeshBeat t))) (leaving p L at.0 (each_on t go)) (barring at.0 seconds (each_on t go) ++ entering (each_on t come_in))
      (leaving_marks p L at.0 (Step (MeshBeat t)) (each_on t go)
      (each_mapped (λ (x : PeerNo × Topic). is_among (mesh L x.1) x.0 ≡ true) (λ (q : PeerNo). (q, t)) go
      (members_are_such (λ (q : PeerNo). is_among (mesh L t) q ≡ true) at.0 (λ (m : Member). not (is_member same_peer kept m.peer)) (mesh L t) (each_among (mesh L t)))))
      (all-append (MayMark p L at.0 (Step (MeshBeat t))) (barring at.0 seconds (each_on t go)) (entering (each_on t come_in))
      (barring_marks p L at.0 (Step (MeshBeat t)) seconds (each_on t go))
      (entering_marks at.0 (Step (MeshBeat t)) t come_in (refl, λ q who. who)
      (members_are_such (Chosen at.0 t) at.0 (λ (m : Member). is_member same_peer come m.peer) (candidates p L at.0 t) (candidates_are at.0 t))))

  beat_marks : (t : Topic) (e : Entry) → Follows free (rule_of p L e.at (Step (MeshBeat t))) tt e.effects tt → Marks p L e.at.0 (Step (MeshBeat t)) e.effects.marks
  beat_marks t e effects =
      what_is_mended (Marks p L e.at.0 (Step (MeshBeat t)) e.effects.marks) p L t e
      (λ kept come same. same_marks (MayMark p L e.at.0 (Step (MeshBeat t))) e (mending p L e.at t (mesh_change_at p L e.at.0 t kept come)) same (mending_marks e.at t kept come))
      effects

  refanning_marks : (at : Millis) (t : Topic) (chosen : List PeerNo) → AllByRecursion (λ (q : PeerNo). is_explicit p q ≡ false) chosen → Marks p L at.0 (Step (FanBeat t)) (refanning p L at t chosen).marks
  refanning_marks at t chosen ordinary =
      let out : List PeerNo = those_outside (receivers p L at.0 t) (fanout L t) in
      all-append (MayMark p L at.0 (Step (FanBeat t))) (unfanning t out) (fanning t chosen)
      (unfanning_marks p L at.0 (Step (FanBeat t)) t out) (fanning_marks p L at.0 (Step (FanBeat t)) t chosen ordinary)

  pub entry_marks : (event : Event) (e : Entry) → Follows free (rule_of p L e.at event) tt e.effects tt → AllByRecursion (MayMark p L e.at.0 event) e.effects.marks
  entry_marks (Part q part) e effects = part_marks p L q e part effects
  entry_marks (Own (Subscribe t)) e effects = subscribe_marks t e effects
  entry_marks (Own (Unsubscribe t)) e effects = same_marks _ e _ effects.0 (unsubscribe_marks e.at t)
  entry_marks (Own (Publish t payload)) e effects = publish_marks t payload e effects
  entry_marks BeatBegin e effects = same_marks _ e _ effects.0 (blaming_marks e.at.0 BeatBegin (links_of p) (linked_are p.neighbours))
  entry_marks (Step (MeshBeat t)) e effects = beat_marks t e effects
  entry_marks (Step (FanBeat t)) e effects = same_marks _ e (refanning p L e.at t effects.0) effects.3.0
      (refanning_marks e.at t effects.0
      (each_chosen (λ (q : PeerNo). is_explicit p q ≡ false) (p.params.degrees.d - length (those_among (receivers p L e.at.0 t) (fanout L t))) (those_outside (fanout L t) (receivers p L e.at.0 t)) effects.0
      (each_passing (λ (q : PeerNo). is_explicit p q ≡ false) (λ (q : PeerNo). is_explicit p q ≡ false) (λ (q : PeerNo). not (is_among (fanout L t) q)) (λ q passes ordinary. ordinary) (receivers p L e.at.0 t) (receivers_are_ordinary p L e.at.0 t))
      effects.2))
  entry_marks (Step (FanEnd t)) e effects = same_marks _ e (fan_end L t) effects.0 (unfanning_marks p L e.at.0 (Step (FanEnd t)) t (fanout L t))
  entry_marks (Step (GossipBeat t)) e effects = same_marks _ e _ effects.3.0 tt
  entry_marks (Step BeatEnd) e effects = same_marks _ e no_effects effects.0 tt
  entry_marks (Own (HangUp q)) e effects = same_marks _ e _ effects.0 (lost_marks p L e.at.0 (Own (HangUp q)) q)
  entry_marks (Own (Raw q bytes)) e effects = same_marks _ e no_effects effects.0 tt
  entry_marks (Lost q loss) e effects = same_marks _ e _ effects.0 (lost_marks p L e.at.0 (Lost q loss) q)
  entry_marks (Heard q rpc) e effects = same_marks _ e no_effects effects.0 tt
  entry_marks (Late q rpc) e effects = same_marks _ e no_effects effects.0 tt
  entry_marks Decay e effects = same_marks _ e no_effects effects.0 tt
  entry_marks (RoundEnd r) e effects = same_marks _ e no_effects effects.0 tt
  entry_marks Shut e effects = same_marks _ e no_effects effects.0 tt
