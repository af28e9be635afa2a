-- A legal trace sends only what fits a frame, and its frames spell what it sends.
use Rattle.std.proofs.Common.{ℕ, ◌+◌, ◌≤◌, true, false, List, [], ◌∷◌, ◌++◌, length, map, take, drop, take-append-drop, reverse, sym, subst, arith}
use Rattle.std.proofs.lemmas.List.{length-map, reverse-append}
use Rattle.gs_base.specs.declared.names.PeerNo.{PeerNo}
use Rattle.gs_base.specs.declared.names.Topic.{Topic}
use Rattle.gs_base.specs.declared.names.Millis.{Millis}
use Rattle.gs_base.specs.declared.names.MsgId.{MsgId}
use Rattle.gs_base.specs.declared.rpc.Rpc.{Rpc}
use Rattle.gs_rules.specs.declared.event.Event.{Event}
use Rattle.gs_rules.specs.declared.event.Event.TheVariants.{Part, Step, Own, Heard, Late, BeatBegin, Lost, Decay, RoundEnd, Shut}
use Rattle.gs_rules.specs.declared.event.BeatStep.TheVariants.{MeshBeat, FanBeat, GossipBeat, FanEnd, BeatEnd}
use Rattle.gs_plan.specs.declared.plan.Act.TheVariants.{Subscribe, Unsubscribe, Publish, Raw, HangUp}
use Rattle.gs_rules.specs.declared.outcome.FanoutUse.TheVariants.{Unused, Kept, Filled}
use Rattle.gs_rules.specs.declared.trace.Entry.{Entry}
use Rattle.gs_base.specs.Names.{longest_topic}
use Rattle.gs_base.specs.Rpcs.{announcement, publication, grafting, offering, pruning}
use Rattle.gs_mesh.specs.declared.heartbeat.MeshChange.{MeshChange}
use Rattle.gs_wire.specs.Codec.{codec}
use Rattle.gs_wire.proofs.RoundTrip.{all-append}
use Rattle.gs_rules.specs.Peers.{Peer}
use Rattle.gs_rules.specs.Tables.{Entries, joined}
use Rattle.gs_rules.specs.Meshes.{mesh}
use Rattle.gs_rules.specs.Membership.{candidates}
use Rattle.gs_rules.specs.MeshRules.{joining, publishing, those_among, unsubscribe_rule}
use Rattle.gs_rules.specs.BeatRules.{mending, refanning}
use Rattle.gs_rules.specs.Gossip.{gossip}
use Rattle.gs_rules.specs.Owed.{owed}
use Rattle.gs_rules.specs.Rules.{explicit_listeners, gossiping, rule_of, to_each, together_with, up_neighbours, no_effects}
use Rattle.gs_rules.specs.Modes.{Follows, free}
use Rattle.gs_rules.specs.Legal.{MaySubscribe, MayUnsubscribe, MayPublish, IsNext, Legal}
use Rattle.gs_rules.specs.Saying.{SendsFit, AllFit}
use Rattle.gs_rules.proofs.Owed.{opens}
use Rattle.gs_rules.proofs.Legality.{legal_newest}
use Rattle.gs_rules.proofs.Kept.{next_fits}
use Rattle.gs_rules.proofs.Ruled.{mesh_change_at, what_is_mended, what_is_published}
use Rattle.gs_rules.proofs.OwnBeats.{next_of_own}
use Rattle.gs_rules.proofs.Topics.{joined_short}
use Rattle.gs_rules.proofs.Gossip.{beat_short, gossip_few, gossip_long}
use Rattle.gs_rules.proofs.Written.{announcement_written, each_fits, graft_written, offer_written, prune_written, publication_written, same_fits}
pub use Rattle.gs_rules.proofs.Written.{AllWritten, IsWritten, SendsWritten, short_body}
use Rattle.gs_rules.proofs.PartRules.{part_fits}

-- ---- one entry

-- the peer tells whoever goes and whoever comes in
mending_fits : (p : Peer) (L : Entries) (at : Millis) (t : Topic) (change : MeshChange) → length t.0 ≤ longest_topic → SendsWritten (mending p L at t change).sends
mending_fits p L at t change short =
    let seconds : ℕ = p.params.timing.prune_backoff_s in
    all-append (λ (x : PeerNo × Rpc). IsWritten x.1) (to_each (pruning t seconds) change.pruned) (to_each (grafting t) change.grafted)
    (each_fits (pruning t seconds) change.pruned (prune_written t seconds short)) (each_fits (grafting t) change.grafted (graft_written t short))

-- each event sends what fits, or nothing
module _ (p : Peer) (L : Entries) (legal : Legal p L) where
  by_event : (event : Event) (e : Entry) → IsNext p L e.at.0 (owed p L).events event → Follows free (rule_of p L e.at event) tt e.effects tt → SendsWritten e.effects.sends
  by_event (Part q part) e next effects = part_fits p L q e legal part (next_fits p L e.at.0 (Part q part) legal next) effects
  by_event (Own (Subscribe t)) e next effects =
      let may : MaySubscribe L t = opens p L e.at.0 (Own (Subscribe t)) (λ h. h) next in
      let chosen : List PeerNo = those_among (effects.0 ++ effects.3.0) (candidates p L e.at.0 t) in
      same_fits e (joining p L t chosen) effects.3.3.0
      (all-append (λ (x : PeerNo × Rpc). IsWritten x.1) (to_each (announcement true t) (up_neighbours p L)) (to_each (grafting t) chosen)
      (each_fits (announcement true t) (up_neighbours p L) (announcement_written true t may.short)) (each_fits (grafting t) chosen (graft_written t may.short)))
  by_event (Own (Unsubscribe t)) e next effects =
      let may : MayUnsubscribe L t = opens p L e.at.0 (Own (Unsubscribe t)) (λ h. h) next in
      let short : length t.0 ≤ longest_topic = joined_short p L t legal may.joined in
      let seconds : ℕ = p.params.timing.unsubscribe_backoff_s in
      same_fits e (unsubscribe_rule p L e.at t) effects.0
      (all-append (λ (x : PeerNo × Rpc). IsWritten x.1) (to_each (announcement false t) (up_neighbours p L)) (to_each (pruning t seconds) (mesh L t))
      (each_fits (announcement false t) (up_neighbours p L) (announcement_written false t short)) (each_fits (pruning t seconds) (mesh L t) (prune_written t seconds short)))
  by_event (Own (Publish t payload)) e next effects =
      let may : MayPublish p L e.at.0 t payload = opens p L e.at.0 (Own (Publish t payload)) (λ h. h) next in
      let each = λ (receivers : List PeerNo). each_fits (publication t payload) receivers (publication_written t payload may.fits) in
      what_is_published (SendsWritten e.effects.sends) p L t payload e
      (λ receivers same. same_fits e (publishing p L t payload receivers Unused) same (each (together_with (explicit_listeners p L t) receivers)))
      (λ receivers same. same_fits e (publishing p L t payload receivers Kept) same (each (together_with (explicit_listeners p L t) receivers)))
      (λ receivers ordinary same. same_fits e (publishing p L t payload receivers Filled) same (each (together_with (explicit_listeners p L t) receivers)))
      effects
  by_event (Step (MeshBeat t)) e next effects =
      let short : length t.0 ≤ longest_topic = joined_short p L t legal (next_of_own p L e.at.0 (Step (MeshBeat t)) legal next) in
      what_is_mended (SendsWritten e.effects.sends) p L t e
      (λ kept come same. same_fits e (mending p L e.at t (mesh_change_at p L e.at.0 t kept come)) same (mending_fits p L e.at t (mesh_change_at p L e.at.0 t kept come) short)) effects
  by_event (Step (FanBeat t)) e next effects = same_fits e (refanning p L e.at t effects.0) effects.3.0 tt
  by_event (Step (GossipBeat t)) e next effects =
      let ids : List (List ℕ) = map (λ (id : MsgId). id.0) (gossip p L t) in
      same_fits e (gossiping p L t effects.0) effects.3.0
      (each_fits (offering t ids) effects.0 (offer_written t ids (beat_short p L e.at.0 t legal next) (omega (arith, length-map (gossip p L t) (λ (id : MsgId). id.0), gossip_few p L t)) (gossip_long p L t legal)))
  by_event (Own (HangUp q)) e next effects = same_fits e _ effects.0 tt
  by_event (Own (Raw q bytes)) e next effects = same_fits e no_effects effects.0 tt
  by_event (Step (FanEnd t)) e next effects = same_fits e _ effects.0 tt
  by_event (Step BeatEnd) e next effects = same_fits e no_effects effects.0 tt
  by_event BeatBegin e next effects = same_fits e _ effects.0 tt
  by_event (Lost q loss) e next effects = same_fits e _ effects.0 tt
  by_event (Heard q rpc) e next effects = same_fits e no_effects effects.0 tt
  by_event (Late q rpc) e next effects = same_fits e no_effects effects.0 tt
  by_event Decay e next effects = same_fits e no_effects effects.0 tt
  by_event (RoundEnd r) e next effects = same_fits e no_effects effects.0 tt
  by_event Shut e next effects = same_fits e no_effects effects.0 tt

-- ---- a legal trace

pub legal_written : (p : Peer) (L : Entries) → Legal p L → AllWritten L
legal_written p [] legal = tt
legal_written p (e ∷ L) legal =
    let newest = legal_newest p e L legal in
    (by_event p L legal.1 e.event e newest.next newest.effects, legal_written p L legal.1)

-- ---- parts of a trace, and its other order

pub fits_front : (xs ys : List Entry) → AllWritten (xs ++ ys) → AllWritten xs
fits_front [] ys all = tt
fits_front (e ∷ xs) ys all = (all.0, fits_front xs ys all.1)

pub fits_back : (xs ys : List Entry) → AllWritten (xs ++ ys) → AllWritten ys
fits_back [] ys all = all
fits_back (e ∷ xs) ys all = fits_back xs ys all.1

pub fits_both : (xs ys : List Entry) → AllWritten xs → AllWritten ys → AllWritten (xs ++ ys)
fits_both xs ys front back = all-append (λ (e : Entry). SendsWritten e.effects.sends) xs ys front back

pub fits_take : (n : ℕ) (xs : List Entry) → AllWritten xs → AllWritten (take n xs)
fits_take n xs all = fits_front (take n xs) (drop n xs) (rw take-append-drop all)

pub fits_drop : (n : ℕ) (xs : List Entry) → AllWritten xs → AllWritten (drop n xs)
fits_drop n xs all = fits_back (take n xs) (drop n xs) (rw take-append-drop all)

pub fits_reverse : (L : List Entry) → AllWritten L → AllWritten (reverse L)
fits_reverse [] all = tt
fits_reverse (e ∷ L) all = subst AllWritten (sym (reverse-append (e ∷ []) L)) (fits_both (reverse L) (e ∷ []) (fits_reverse L all.1) (all.0, tt))

-- what was written fits
sends_of_written : (sends : List (PeerNo × Rpc)) → SendsWritten sends → SendsFit codec sends
sends_of_written [] h = tt
sends_of_written (x ∷ sends) h = (h.0.0, sends_of_written sends h.1)

all_of_written : (entries : List Entry) → AllWritten entries → AllFit codec entries
all_of_written [] h = tt
all_of_written (e ∷ entries) h = (sends_of_written e.effects.sends h.0, all_of_written entries h.1)

-- any part of a legal trace, the oldest entry first
pub legal_part_fits : (p : Peer) (L : Entries) (skipped most : ℕ) → Legal p L → AllFit codec (take most (drop skipped (reverse L)))
legal_part_fits p L skipped most legal =
    all_of_written (take most (drop skipped (reverse L))) (fits_take most (drop skipped (reverse L)) (fits_drop skipped (reverse L) (fits_reverse L (legal_written p L legal))))
