-- What a peer does about its meshes and fanouts. Each of these gives the effects, or what is chosen before them.
use Rattle.std.specs.Prelude.{ℕ, ◌-◌, min, Bool, true, false, not, nat_eq, nat_le, nat_lt, if◌then◌else◌, List, [], ◌∷◌, ◌++◌, length, filter, Option, Some, None, unwrap_or}
use Rattle.gs_base.specs.declared.names.PeerNo.{PeerNo}
use Rattle.gs_base.specs.declared.names.Topic.{Topic}
use Rattle.gs_base.specs.declared.names.Millis.{Millis}
use Rattle.gs_base.specs.declared.control.Prune.{Prune}
use Rattle.gs_base.specs.declared.rpc.SubOpt.{SubOpt}
use Rattle.gs_base.specs.declared.mark.Mark.{Mark}
use Rattle.gs_base.specs.declared.mark.Mark.TheVariants.{Cached, Misbehaviour, Published, Seen}
use Rattle.gs_base.specs.declared.verdict.Verdict.TheVariants.{Accept}
use Rattle.gs_base.specs.Names.{message_id, topic_or_empty}
use Rattle.gs_base.specs.Rpcs.{announcement, publication, grafting, longest_backoff, pruning}
use Rattle.gs_mesh.specs.Peers.{is_among}
use Rattle.gs_rules.specs.declared.outcome.GraftAnswer.{GraftAnswer}
use Rattle.gs_rules.specs.declared.outcome.GraftAnswer.TheVariants.{PassedOver, Refused, Taken}
use Rattle.gs_rules.specs.declared.outcome.GraftRefusal.{GraftRefusal}
use Rattle.gs_rules.specs.declared.outcome.GraftRefusal.TheVariants.{Explicit, TooSoon, Negative, Full}
use Rattle.gs_rules.specs.declared.outcome.FanoutUse.{FanoutUse}
use Rattle.gs_rules.specs.declared.outcome.FanoutUse.TheVariants.{Unused, Kept, Filled}
use Rattle.gs_rules.specs.declared.trace.Effects.{Effects}
use Rattle.gs_rules.specs.Peers.{Peer, is_explicit}
use Rattle.gs_rules.specs.Tables.{Entries, joined}
use Rattle.gs_rules.specs.Meshes.{backoff, fanout, mesh}
use Rattle.gs_rules.specs.Membership.{barring, candidates, each_on, entering, fanning, is_negative, is_outbound, leaving, losing_marks, meshes_with, unfanning}
use Rattle.gs_rules.specs.Scoring.{is_passed_over}
use Rattle.gs_rules.specs.Rule.{AnyOf, Gives, Rule, no_effects, explicit_listeners, ordinary_listeners, to_each, together_with, up_neighbours, without}

-- ---- what neighbours say about their meshes (gossipsub v1.0, "Control messages", GRAFT and PRUNE)

-- a GRAFT is refused: its sender is sent a PRUNE, and must not come back for a while
abbrev pub refusing : Peer → Millis → PeerNo → Topic → List Mark → Effects
refusing p at q t marks = record no_effects {
  sends = (q, pruning t p.params.timing.prune_backoff_s) ∷ [];
  marks = marks ++ barring at.0 p.params.timing.prune_backoff_s (each_on t (q ∷ []));
}

-- its sender enters the mesh
abbrev pub taking : PeerNo → Topic → Effects
taking q t = record no_effects { marks = entering (each_on t (q ∷ [])) }

-- there is no room in the mesh for one that was not dialled
abbrev pub is_full_for : Peer → Entries → PeerNo → Topic → Bool
is_full_for p L q t =
    if nat_le p.params.degrees.d_high (length (mesh L t)) then not (is_outbound p q) else false

-- A GRAFT changes nothing (`PassedOver`) if the peer isn't subscribed to the topic, or if it comes from a member. One from
-- an explicit neighbour is refused, whenever it comes. One that comes too soon is refused, and counts against its sender.
-- One is also refused if its sender scores below 0, or if the mesh has no room for it.
abbrev pub graft_answer : Peer → Entries → ℕ → PeerNo → Topic → GraftAnswer
graft_answer p L at q t =
    if not (joined L t) then PassedOver
    else if is_among (mesh L t) q then PassedOver
    else if is_explicit p q then Refused Explicit
    else if nat_lt at (backoff L q t) then Refused TooSoon
    else if is_negative p L at q then Refused Negative
    else if is_full_for p L q t then Refused Full
    else Taken

-- what counts against the sender of a GRAFT that is refused
abbrev pub charged : PeerNo → GraftRefusal → List Mark
charged q Explicit = []
charged q TooSoon = Misbehaviour q ∷ []
charged q Negative = []
charged q Full = []

abbrev pub graft_effects : Peer → Millis → PeerNo → Topic → GraftAnswer → Effects
graft_effects p at q t PassedOver = no_effects
graft_effects p at q t (Refused why) = refusing p at q t (charged q why)
graft_effects p at q t Taken = taking q t

abbrev pub graft_rule : Peer → Entries → Millis → PeerNo → Topic → Effects
graft_rule p L at q t = graft_effects p at q t (graft_answer p L at.0 q t)

-- for how many seconds the sender of a PRUNE must not be grafted: those that it names, up to a day, else `otherwise`;
-- naming 0 is naming none
abbrev pub asked_backoff : ℕ → Option ℕ → ℕ
asked_backoff otherwise None = otherwise
asked_backoff otherwise (Some seconds) = if nat_eq seconds 0 then otherwise else min seconds longest_backoff

-- a PRUNE takes its sender out of the mesh, and keeps it out for a while
abbrev pub pruned_by : Peer → Entries → Millis → PeerNo → Prune → Effects
pruned_by p L at q prune = record no_effects {
  marks = leaving p L at.0 (meshes_with L q (topic_or_empty prune.topic ∷ []))
      ++ barring at.0
      (asked_backoff p.params.timing.prune_backoff_s prune.backoff)
      (each_on (topic_or_empty prune.topic) (q ∷ []));
}

-- on a topic that the peer is subscribed to
abbrev pub prune_rule : Peer → Entries → Millis → PeerNo → Prune → Effects
prune_rule p L at q prune =
    if not (joined L (topic_or_empty prune.topic)) then no_effects else pruned_by p L at q prune

-- ---- who leaves

-- the given peer, if it is in the fanout
abbrev pub fanned_of : Entries → Topic → PeerNo → List PeerNo
fanned_of L t q = if is_among (fanout L t) q then q ∷ [] else []

-- whoever leaves a topic leaves its mesh and its fanout
abbrev pub left_by : Peer → Entries → Millis → PeerNo → SubOpt → Effects
left_by p L at q sub = record no_effects {
  marks = leaving p L at.0 (meshes_with L q (topic_or_empty sub.topic ∷ []))
      ++ unfanning (topic_or_empty sub.topic) (fanned_of L (topic_or_empty sub.topic) q);
}

-- a neighbour that joins a topic changes nothing else
abbrev pub sub_rule : Peer → Entries → Millis → PeerNo → SubOpt → Effects
sub_rule p L at q sub = if unwrap_or sub.subscribe false then no_effects else left_by p L at q sub

-- whoever is lost leaves every mesh and every fanout
abbrev pub lost_rule : Peer → Entries → Millis → PeerNo → Effects
lost_rule p L at q = record no_effects { marks = losing_marks p L at.0 q }

-- ---- the peer's own topics (gossipsub v1.0, "Topic Membership")

abbrev pub those_among : List PeerNo → List PeerNo → List PeerNo
those_among others qs = filter (is_among others) qs

abbrev pub those_outside : List PeerNo → List PeerNo → List PeerNo
those_outside others qs = filter (λ q. not (is_among others q)) qs

-- these are grafted, as a subscription is announced; the topic's fanout ends
abbrev pub joining : Peer → Entries → Topic → List PeerNo → Effects
joining p L t chosen = record no_effects {
  sends = to_each (announcement true t) (up_neighbours p L) ++ to_each (grafting t) chosen;
  marks = entering (each_on t chosen) ++ unfanning t (fanout L t);
}

-- Any d of the fanout's members that may be grafted, or all of them, are grafted; then any others that may be, up to d.
abbrev pub subscribe_rule : Peer → Entries → Millis → Topic → Rule
subscribe_rule p L at t =
    AnyOf p.params.degrees.d (those_among (fanout L t) (candidates p L at.0 t)) (λ first.
    AnyOf (p.params.degrees.d - length first) (those_outside (fanout L t) (candidates p L at.0 t)) (λ others.
    Gives (joining p L t (those_among (first ++ others) (candidates p L at.0 t)))))

-- Each member is pruned, and must not come back for a while.
abbrev pub unsubscribe_rule : Peer → Entries → Millis → Topic → Effects
unsubscribe_rule p L at t = record no_effects {
  sends = to_each (announcement false t) (up_neighbours p L)
      ++ to_each (pruning t p.params.timing.unsubscribe_backoff_s) (mesh L t);
  marks = leaving p L at.0 (each_on t (mesh L t))
      ++ barring at.0 p.params.timing.unsubscribe_backoff_s (each_on t (mesh L t));
}

-- ---- publishing

-- what is remembered of a topic's fanout when a payload goes to these
abbrev pub fanout_marks : FanoutUse → Topic → List PeerNo → List Mark
fanout_marks Unused t chosen = []
fanout_marks Kept t chosen = Published t ∷ []
fanout_marks Filled t chosen = fanning t chosen ++ Published t ∷ []

-- a payload is published to these and to the explicit neighbours on its topic, whatever they score
abbrev pub publishing : Peer → Entries → Topic → List ℕ → List PeerNo → FanoutUse → Effects
publishing p L t payload chosen fanout = record no_effects {
  sends = to_each (publication t payload) (together_with (explicit_listeners p L t) chosen);
  delivered = if joined L t then (t, payload) ∷ [] else [];
  marks = Seen (message_id payload) Accept ∷ Cached (message_id payload) t ∷ fanout_marks fanout t chosen;
}

-- the neighbours that may be in the fanout of a topic: those that are up, on it, not explicit, and that the peer
-- publishes to
abbrev pub receivers : Peer → Entries → ℕ → Topic → List PeerNo
receivers p L at t = without (is_passed_over p L at) (ordinary_listeners p L t)

-- On a topic that the peer isn't subscribed to, the fanout gets the payload. If the fanout is empty, any d of the
-- neighbours that may be in it become it.
abbrev pub fanout_publish : Peer → Entries → Millis → Topic → List ℕ → List PeerNo → Rule
fanout_publish p L at t payload [] =
    AnyOf p.params.degrees.d (receivers p L at.0 t) (λ chosen.
    Gives (publishing p L t payload chosen Filled))
fanout_publish p L at t payload (q ∷ qs) =
    Gives (publishing p L t payload (without (is_passed_over p L at.0) (q ∷ qs)) Kept)

-- An explicit neighbour on the topic gets it whatever it scores. Any other that is below the threshold gets nothing. With
-- flood publishing (gossipsub v1.1) every neighbour on the topic gets it. Else the topic's mesh gets it, or its fanout if
-- the peer isn't subscribed.
abbrev pub publish_rule : Peer → Entries → Millis → Topic → List ℕ → Rule
publish_rule p L at t payload =
    if p.params.flood_publish
    then Gives (publishing p L t payload (receivers p L at.0 t) Unused)
    else if joined L t
    then Gives (publishing p L t payload (without (is_passed_over p L at.0) (mesh L t)) Unused)
    else fanout_publish p L at t payload (fanout L t)
