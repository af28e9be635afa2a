-- Which marks an entry that follows its rule may have.
use Rattle.std.proofs.Common.{◌≡◌, ◌⊎◌, inl, ℕ, Bool, true, false, if◌then◌else◌, List, [], ◌∷◌, ◌++◌, ◌-◌, map, pos, None, refl}
use Rattle.std.specs.Prelude.{filter, nat_eq, nat_le}
use Rattle.std.specs.List.{AllByRecursion, flat_map, list_any}
use Rattle.std.proofs.lemmas.Bool.{le-leb, ltb-false, or_left, or_right}
use Rattle.std.proofs.lemmas.Cmp.{nat_eq_equiv}
use Rattle.std.proofs.lemmas.List.Elements.{All-from_recursion, recursion_from_All}
use Rattle.std.proofs.lemmas.List.Sorted.{All-permutation}
use Rattle.sha2.proofs.Facts256.{length-sha256}
use Rattle.gs_base.specs.declared.names.PeerNo.{PeerNo}
use Rattle.gs_base.specs.declared.names.Topic.{Topic}
use Rattle.gs_base.specs.declared.names.MsgId.{MsgId}
use Rattle.gs_base.specs.declared.names.Millis.{Millis}
use Rattle.gs_base.specs.declared.neighbour.Neighbour.{Neighbour}
use Rattle.gs_base.specs.declared.rpc.Message.{Message}
use Rattle.gs_base.specs.declared.rpc.SubOpt.{SubOpt}
use Rattle.gs_base.specs.declared.control.Graft.{Graft}
use Rattle.gs_base.specs.declared.control.IHave.{IHave}
use Rattle.gs_base.specs.declared.control.Prune.{Prune}
use Rattle.gs_base.specs.declared.verdict.Verdict.{Verdict}
use Rattle.gs_base.specs.declared.verdict.Verdict.TheVariants.{Accept, Reject, Ignore}
use Rattle.gs_base.specs.declared.mark.Mark.{Mark}
use Rattle.gs_base.specs.declared.mark.Mark.TheVariants.{Answered, Cached, Deficit, Fanned, First, Grafted, Invalid, Misbehaviour, Near, Pruned, Published, Unfanned}
use Rattle.gs_base.specs.Names.{message_id, payload_of, peers_of, same_peer, topic_of, topic_or_empty, HasIdentifierLength}
use Rattle.gs_mesh.specs.Peers.{is_among}
use Rattle.gs_wire.proofs.RoundTrip.{all-append}
use Rattle.gs_rules.specs.declared.event.Event.{Event}
use Rattle.gs_rules.specs.declared.event.Event.TheVariants.{Part, Step, Own}
use Rattle.gs_rules.specs.declared.event.RpcPart.TheVariants.{GraftIn, Have, Msg, PruneIn, Sub}
use Rattle.gs_rules.specs.declared.event.BeatStep.TheVariants.{MeshBeat}
use Rattle.gs_plan.specs.declared.plan.Act.TheVariants.{Publish, Subscribe}
use Rattle.gs_rules.specs.declared.trace.Entry.{Entry}
use Rattle.gs_rules.specs.declared.trace.Effects.{Effects}
use Rattle.gs_rules.specs.Peers.{Peer, is_explicit, is_neighbour, seen_ttl}
use Rattle.gs_rules.specs.Tables.{Entries, joined, joined_after, on, seen, up}
use Rattle.gs_rules.specs.Meshes.{backoff, fanout, mesh, mesh_topics}
use Rattle.gs_rules.specs.Membership.{barring, deficit_marks, each_on, fanning, leaving, meshes_with, missing, unfanning}
use Rattle.gs_rules.specs.MeshRules.{asked_backoff, fanned_of, graft_rule, prune_rule, sub_rule}
use Rattle.gs_rules.specs.Rules.{asking, counted, explicit_listeners, have_rule, wanted, no_effects}
use Rattle.gs_rules.specs.Outcomes.{found_to_be, message_effects, message_rule, near_of}
use Rattle.gs_rules.specs.Modes.{SaysTheSame, Follows, free}
use Rattle.gs_rules.proofs.Each.{each_mapped, each_passing, each_weaker, of_each}
use Rattle.gs_rules.proofs.Judged.{of_a_joined_message}
use Rattle.gs_rules.proofs.Offers.{what_is_offered}
use Rattle.gs_rules.proofs.Ruled.{of_a_graft, of_a_prune, of_a_sub}

-- ---- what a mark says of the entry that makes it

-- the event is a message or a GRAFT of this peer
abbrev pub ComesOf : Event → PeerNo → Type 0
ComesOf (Part r (Msg m)) q = q ≡ r
ComesOf (Part r (GraftIn graft)) q = q ≡ r
ComesOf other q = ⊥

-- the event publishes on this topic
abbrev pub Publishes : Event → Topic → Type 0
Publishes (Own (Publish u payload)) t = t ≡ u
Publishes other t = ⊥

-- who comes into a mesh said so, or is a neighbour that is up, as the peer subscribes or a heartbeat mends the mesh
abbrev pub GraftedBy : Peer → Entries → Event → PeerNo → Type 0
GraftedBy p L (Part r (GraftIn graft)) q = q ≡ r
GraftedBy p L (Own (Subscribe u)) q = (is_neighbour p q ≡ true) × (up L q ≡ true)
GraftedBy p L (Step (MeshBeat u)) q = (is_neighbour p q ≡ true) × (up L q ≡ true)
GraftedBy p L other q = ⊥

-- a mesh that somebody comes into is the one that a heartbeat mends, or the peer is then subscribed to its topic
abbrev pub ComesOnto : Entries → Event → Topic → Type 0
ComesOnto L (Step (MeshBeat u)) t = t ≡ u
ComesOnto L other t = joined_after t other (joined L t) ≡ true

-- A neighbour may come into a mesh.
pub record MayGraft (p : Peer) (L : Entries) (at : ℕ) (event : Event) (q : PeerNo) (t : Topic) : Type 0 where
  pub joins : ComesOnto L event t
  pub ordinary : is_explicit p q ≡ false
  pub rested : nat_le (backoff L q t) at ≡ true
  pub who : GraftedBy p L event q

-- what holds where an entry of this event after a trace has this mark
abbrev pub MayMark : Peer → Entries → ℕ → Event → Mark → Type 0
MayMark p L at event (First q t id) = ComesOf event q × (joined L t ≡ true)
MayMark p L at event (Near q t id) = ComesOf event q × (joined L t ≡ true)
MayMark p L at event (Invalid q t) = ComesOf event q × (joined L t ≡ true)
MayMark p L at event (Deficit q t z) = (is_among (mesh L t) q ≡ true) × (nat_eq (missing p L at (q, t)) 0 ≡ false)
MayMark p L at event (Misbehaviour q) = ComesOf event q ⊎ (is_neighbour p q ≡ true)
MayMark p L at event (Cached id t) = HasIdentifierLength id.0
MayMark p L at event (Grafted q t) = MayGraft p L at event q t
MayMark p L at event (Published t) = Publishes event t
MayMark p L at event (Fanned q t) = is_explicit p q ≡ false
MayMark p L at event other = Unit {0}

-- ---- lists

-- marks may stand in any order
pub same_marks : (P : Mark → Type 0) (e : Entry) (x : Effects) → SaysTheSame e.effects x → AllByRecursion P x.marks → AllByRecursion P e.effects.marks
same_marks P e x same all = recursion_from_All P e.effects.marks (All-permutation P x.marks e.effects.marks same.marks (All-from_recursion P x.marks all))

-- who is linked is a neighbour
pub linked_are : (neighbours : List Neighbour) → AllByRecursion (λ (q : PeerNo). list_any (λ (n : Neighbour). same_peer q n.peer) neighbours ≡ true) (peers_of neighbours)
linked_are [] = tt
linked_are (first ∷ neighbours) = (
  or_left (same_peer first.peer first.peer) (list_any (λ (n : Neighbour). same_peer first.peer n.peer) neighbours) (nat_eq_equiv.refl first.peer.0),
  each_weaker
      (λ (q : PeerNo). list_any (λ (n : Neighbour). same_peer q n.peer) neighbours ≡ true)
      (λ (q : PeerNo). list_any (λ (n : Neighbour). same_peer q n.peer) (first ∷ neighbours) ≡ true)
      (λ q is. or_right (same_peer q first.peer) (list_any (λ (n : Neighbour). same_peer q n.peer) neighbours) is)
      (peers_of neighbours) (linked_are neighbours),
)

-- each of some is among them
pub each_among : (qs : List PeerNo) → AllByRecursion (λ (q : PeerNo). is_among qs q ≡ true) qs
each_among [] = tt
each_among (first ∷ qs) = (
  or_left (same_peer first first) (is_among qs first) (nat_eq_equiv.refl first.0),
  each_weaker (λ (q : PeerNo). is_among qs q ≡ true) (λ (q : PeerNo). is_among (first ∷ qs) q ≡ true) (λ q is. or_right (same_peer q first) (is_among qs q) is) qs (each_among qs),
)

pub message_id_long : (payload : List ℕ) → HasIdentifierLength (message_id payload).0
unfolding message_id
message_id_long payload = length-sha256 payload

-- ---- marks of meshes

module _ (p : Peer) (L : Entries) (at : ℕ) (event : Event) where
  abbrev pub Marks : List Mark → Type 0
  Marks marks = AllByRecursion (MayMark p L at event) marks

  -- whoever leaves was a member
  abbrev WasMember : PeerNo × Topic → Type 0
  WasMember x = is_among (mesh L x.1) x.0 ≡ true

  charge_marks : (x : PeerNo × Topic) → WasMember x → Marks (deficit_marks p L at x)
  charge_marks x member = by (nat_eq (missing p L at x) 0) refl
    where
      by : (none : Bool) → nat_eq (missing p L at x) 0 ≡ none → Marks (if none then [] else Deficit x.0 x.1 (pos (missing p L at x)) ∷ [])
      by true is = tt
      by false is = ((member, is), tt)

  charges_marks : (pairs : List (PeerNo × Topic)) → AllByRecursion WasMember pairs → Marks (flat_map (deficit_marks p L at) pairs)
  charges_marks [] all = tt
  charges_marks (x ∷ pairs) all =
      all-append (MayMark p L at event) (deficit_marks p L at x) (flat_map (deficit_marks p L at) pairs) (charge_marks x all.0) (charges_marks pairs all.1)

  pub leaving_marks : (pairs : List (PeerNo × Topic)) → AllByRecursion WasMember pairs → Marks (leaving p L at pairs)
  leaving_marks pairs all =
      all-append (MayMark p L at event) (map (λ (x : PeerNo × Topic). Pruned x.0 x.1) pairs) (flat_map (deficit_marks p L at) pairs)
      (each_mapped (MayMark p L at event) (λ (x : PeerNo × Topic). Pruned x.0 x.1) pairs (of_each (λ (x : PeerNo × Topic). Unit {0}) (λ x. tt) pairs))
      (charges_marks pairs all)

  -- where one is a member of these topics' meshes
  with_members : (q : PeerNo) (ts : List Topic) → AllByRecursion WasMember (meshes_with L q ts)
  with_members q ts =
      each_mapped WasMember (λ (t : Topic). (q, t)) (filter (λ (t : Topic). is_among (mesh L t) q) ts)
      (each_passing (λ (t : Topic). Unit {0}) (λ (t : Topic). WasMember (q, t)) (λ (t : Topic). is_among (mesh L t) q) (λ t is any. is) ts (of_each (λ (t : Topic). Unit {0}) (λ t. tt) ts))

  pub barring_marks : (seconds : ℕ) (pairs : List (PeerNo × Topic)) → Marks (barring at seconds pairs)
  barring_marks seconds [] = tt
  barring_marks seconds (x ∷ pairs) = (tt, barring_marks seconds pairs)

  pub unfanning_marks : (t : Topic) (qs : List PeerNo) → Marks (unfanning t qs)
  unfanning_marks t [] = tt
  unfanning_marks t (q ∷ qs) = (tt, unfanning_marks t qs)

  unfanned_marks : (q : PeerNo) (ts : List Topic) → Marks (map (Unfanned q) ts)
  unfanned_marks q [] = tt
  unfanned_marks q (t ∷ ts) = (tt, unfanned_marks q ts)

  pub fanning_marks : (t : Topic) (qs : List PeerNo) → AllByRecursion (λ (q : PeerNo). is_explicit p q ≡ false) qs → Marks (fanning t qs)
  fanning_marks t qs all = each_mapped (MayMark p L at event) (λ (q : PeerNo). Fanned q t) qs all

  pub lost_marks : (q : PeerNo) → Marks (leaving p L at (meshes_with L q (mesh_topics L)) ++ map (Unfanned q) (filter (λ (t : Topic). is_among (fanout L t) q) (mesh_topics L)))
  lost_marks q =
      all-append (MayMark p L at event) (leaving p L at (meshes_with L q (mesh_topics L))) (map (Unfanned q) (filter (λ (t : Topic). is_among (fanout L t) q) (mesh_topics L)))
      (leaving_marks (meshes_with L q (mesh_topics L)) (with_members q (mesh_topics L)))
      (unfanned_marks q (filter (λ (t : Topic). is_among (fanout L t) q) (mesh_topics L)))

  left_marks : (q : PeerNo) (t : Topic) → Marks (leaving p L at (meshes_with L q (t ∷ [])) ++ unfanning t (fanned_of L t q))
  left_marks q t =
      all-append (MayMark p L at event) (leaving p L at (meshes_with L q (t ∷ []))) (unfanning t (fanned_of L t q))
      (leaving_marks (meshes_with L q (t ∷ [])) (with_members q (t ∷ []))) (unfanning_marks t (fanned_of L t q))

  pub out_marks : (seconds : ℕ) (pairs others : List (PeerNo × Topic)) → AllByRecursion WasMember pairs → Marks (leaving p L at pairs ++ barring at seconds others)
  out_marks seconds pairs others all =
      all-append (MayMark p L at event) (leaving p L at pairs) (barring at seconds others) (leaving_marks pairs all) (barring_marks seconds others)

-- ---- marks of the parts of an RPC

module _ (p : Peer) (L : Entries) where
  pub graft_marks : (at : Millis) (q : PeerNo) (graft : Graft) → Marks p L at.0 (Part q (GraftIn graft)) (graft_rule p L at q (topic_or_empty graft.topic)).marks
  graft_marks at q graft =
      let t : Topic = topic_or_empty graft.topic in
      of_a_graft (λ (x : Effects). Marks p L at.0 (Part q (GraftIn graft)) x.marks) p L at q t
      tt
      (λ on. (inl refl, (tt, tt)))
      (λ on. (tt, tt))
      (λ on ordinary late. (record { joins = on; ordinary = ordinary; rested = le-leb (backoff L q t) at.0 (ltb-false at.0 (backoff L q t) late); who = refl }, tt))

  pub prune_marks : (at : Millis) (q : PeerNo) (prune : Prune) → Marks p L at.0 (Part q (PruneIn prune)) (prune_rule p L at q prune).marks
  prune_marks at q prune =
      let t : Topic = topic_or_empty prune.topic in
      of_a_prune (λ (x : Effects). Marks p L at.0 (Part q (PruneIn prune)) x.marks) p L at q prune tt
      (out_marks p L at.0 (Part q (PruneIn prune)) (asked_backoff p.params.timing.prune_backoff_s prune.backoff) (meshes_with L q (t ∷ [])) (each_on t (q ∷ [])) (with_members p L at.0 (Part q (PruneIn prune)) q (t ∷ [])))

  pub sub_marks : (at : Millis) (q : PeerNo) (sub : SubOpt) → Marks p L at.0 (Part q (Sub sub)) (sub_rule p L at q sub).marks
  sub_marks at q sub =
      of_a_sub (λ (x : Effects). Marks p L at.0 (Part q (Sub sub)) x.marks) p L at q sub tt (left_marks p L at.0 (Part q (Sub sub)) q (topic_or_empty sub.topic))

  -- a message counts on a topic that is joined
  near_marks : (at : ℕ) (q : PeerNo) (m : Message) (near : Bool) (rest : List Mark) → joined L (topic_of m) ≡ true → Marks p L at (Part q (Msg m)) rest → Marks p L at (Part q (Msg m)) (near_of near q (topic_of m) (message_id (payload_of m)) ++ rest)
  near_marks at q m true rest on all = ((refl, on), all)
  near_marks at q m false rest on all = all

  pub message_marks : (at : Millis) (q : PeerNo) (m : Message) → Marks p L at.0 (Part q (Msg m)) (message_rule p L at q m).marks
  message_marks at q m =
      of_a_joined_message (λ (x : Effects). Marks p L at.0 (Part q (Msg m)) x.marks) p L at q m tt
      (λ on. ((refl, on), tt))
      (λ on. ((refl, on), tt))
      new
    where
      new : joined L (topic_of m) ≡ true → seen (seen_ttl p) L (message_id (payload_of m)) at.0 ≡ None → (v : Verdict) → Marks p L at.0 (Part q (Msg m)) (message_effects (mesh L (topic_of m)) (explicit_listeners p L (topic_of m)) q m (found_to_be (message_id (payload_of m)) v)).marks
      new on unseen Accept =
          (tt, ((refl, on), near_marks at.0 q m (is_among (mesh L (topic_of m)) q) (Cached (message_id (payload_of m)) (topic_of m) ∷ []) on (message_id_long (payload_of m), tt)))
      new on unseen Reject = (tt, ((refl, on), tt))
      new on unseen Ignore = (tt, tt)

  pub offer_marks : (q : PeerNo) (offer : IHave) (e : Entry) → Follows free (have_rule p L e.at q offer) tt e.effects tt → Marks p L e.at.0 (Part q (Have offer)) e.effects.marks
  offer_marks q offer e effects =
      let P = MayMark p L e.at.0 (Part q (Have offer)) in
      what_is_offered (λ (e : Entry). AllByRecursion P e.effects.marks) p L e.at q offer e
      (λ same. same_marks P e no_effects same tt)
      (λ same. same_marks P e (counted q) same (tt, tt))
      (λ place same. same_marks P e (asking p e.at q (wanted p L e.at.0 q offer.ids) place) same (tt, (tt, tt)))
      effects

  pub answer_marks : (at : ℕ) (event : Event) (q : PeerNo) (given : List (MsgId × Message)) → Marks p L at event (map (λ (x : MsgId × Message). Answered q x.0) given)
  answer_marks at event q [] = tt
  answer_marks at event q (x ∷ given) = (tt, answer_marks at event q given)
