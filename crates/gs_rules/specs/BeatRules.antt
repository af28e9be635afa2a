-- What a heartbeat does to meshes and fanouts (gossipsub v1.0, "Mesh maintenance" and "Fanout maintenance"; v1.1,
-- "Heartbeat Maintenance", "Outbound Mesh Quotas" and "Opportunistic Grafting"). Each of these gives the effects, or what
-- is chosen before them.
use Rattle.std.specs.Prelude.{ℕ, ◌-◌, if◌then◌else◌, List, ◌++◌, length, map}
use Rattle.gs_base.specs.declared.names.PeerNo.{PeerNo}
use Rattle.gs_base.specs.declared.names.Topic.{Topic}
use Rattle.gs_base.specs.declared.names.Millis.{Millis}
use Rattle.gs_mesh.specs.declared.members.Member.{Member}
use Rattle.gs_mesh.specs.declared.heartbeat.MeshChange.{MeshChange}
use Rattle.gs_mesh.specs.MeshSteps.{stepped}
use Rattle.gs_base.specs.Rpcs.{grafting, pruning}
use Rattle.gs_rules.specs.declared.event.Event.{Event}
use Rattle.gs_rules.specs.declared.event.Event.TheVariants.{Step}
use Rattle.gs_rules.specs.declared.event.BeatStep.TheVariants.{FanBeat, FanEnd}
use Rattle.gs_rules.specs.declared.trace.Effects.{Effects}
use Rattle.gs_rules.specs.Peers.{Peer}
use Rattle.gs_rules.specs.Tables.{Entries, heartbeats}
use Rattle.gs_rules.specs.Meshes.{fanout, is_stale, last_published, mesh}
use Rattle.gs_rules.specs.Membership.{barring, candidates, each_on, entering, fanning, is_outbound, leaving, unfanning}
use Rattle.gs_rules.specs.Scoring.{score}
use Rattle.gs_rules.specs.Rule.{AnyOf, CutOf, Gives, Rule, no_effects, to_each}
use Rattle.gs_rules.specs.MeshRules.{receivers, those_among, those_outside}

-- ---- meshes

-- neighbours with their scores at a moment
abbrev pub scored_member : Peer → Entries → ℕ → PeerNo → Member
scored_member p L at q = record { peer = q; score = score p L at q; outbound = is_outbound p q }

abbrev pub scored_members : Peer → Entries → ℕ → List PeerNo → List Member
scored_members p L at qs = map (scored_member p L at) qs

-- Those that leave are sent a PRUNE, are charged with what is missing, and must not come back for a while. Those that enter
-- are sent a GRAFT.
abbrev pub mending : Peer → Entries → Millis → Topic → MeshChange → Effects
mending p L at t change = record no_effects {
  sends = to_each (pruning t p.params.timing.prune_backoff_s) change.pruned ++ to_each (grafting t) change.grafted;
  marks = leaving p L at.0 (each_on t change.pruned)
      ++ (barring at.0 p.params.timing.prune_backoff_s (each_on t change.pruned)
      ++ entering (each_on t change.grafted));
}

-- The mesh of a topic makes a step, with the neighbours that may be grafted. It depends on the scores before it and the
-- number of this heartbeat.
abbrev pub mesh_beat_rule : Peer → Entries → Millis → Topic → Rule
mesh_beat_rule p L at t =
    stepped AnyOf CutOf p.params (heartbeats L)
    (scored_members p L at.0 (mesh L t))
    (scored_members p L at.0 (candidates p L at.0 t))
    (λ change. Gives (mending p L at t change))

-- ---- fanouts

-- members that may not stay leave, and these enter
abbrev pub refanning : Peer → Entries → Millis → Topic → List PeerNo → Effects
refanning p L at t chosen = record no_effects {
  marks = unfanning t (those_outside (receivers p L at.0 t) (fanout L t)) ++ fanning t chosen;
}

-- Members that may stay do. Others are chosen from those that may enter, until there are D members or no others are left.
abbrev pub fan_beat_rule : Peer → Entries → Millis → Topic → Rule
fan_beat_rule p L at t =
    AnyOf
    (p.params.degrees.d - length (those_among (receivers p L at.0 t) (fanout L t)))
    (those_outside (fanout L t) (receivers p L at.0 t))
    (λ chosen. Gives (refanning p L at t chosen))

-- all members of a fanout leave it, and it ends
abbrev pub fan_end : Entries → Topic → Effects
fan_end L t = record no_effects { marks = unfanning t (fanout L t) }

-- what a heartbeat does to a fanout at a moment: it ends where its time has come, and else is mended
abbrev pub fan_event : Peer → Entries → ℕ → Topic → Event
fan_event p L at t =
    if is_stale p.params.timing.fanout_ttl_ms at (last_published L t) then Step (FanEnd t) else Step (FanBeat t)
