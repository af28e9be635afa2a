use Rattle.std.proofs.Common.{◌≡◌, ◌∙◌, ℕ, List, sym, ap, subst, subst₂}
use Rattle.gs_mesh.specs.declared.members.Member.{Member}
use Rattle.gs_params.specs.Picks.{IsAscending}
use Rattle.gs_mesh.specs.Cuts.{peers_of}
use Rattle.gs_mesh.specs.MeshSteps.{step_by_words}
use Rattle.gs_rules.specs.declared.trace.Effects.{Effects}
use Rattle.gs_rules.specs.Tables.{heartbeats}
use Rattle.gs_rules.specs.Meshes.{mesh}
use Rattle.gs_rules.specs.Membership.{candidates}
use Rattle.gs_rules.specs.BeatRules.{mending, mesh_beat_rule, scored_members}
use Rattle.gs_rules.specs.Modes.{Follows, exact}
use Rattle.gs_router.specs.Known.{peer_with}
use Rattle.gs_router.proofs.Choosing.{candidates_ascend}
use Rattle.gs_router.proofs.Maintaining.{chosen_leads, members_ascend}
use Rattle.gs_router.proofs.entries.maintenance.mesh_beat.Goals as goal

pub choose_heartbeat-requires-clause-members : goal.choose_heartbeat-requires-clause-members
choose_heartbeat-requires-clause-members g c =
    let s = c.args.known.now in
    let L = c.requires.knows.0 in
    let are = c.deref-2.ensures.value ∙ c.in_ok-mesh.ensures L c.requires.knows.1 in
    subst (λ (ms : List Member). IsAscending (peers_of ms)) (sym are) (members_ascend (peer_with s.setup) L c.args.now.0 c.members.result.now c.members.ensures.ascending)

pub choose_heartbeat-requires-clause-candidates : goal.choose_heartbeat-requires-clause-candidates
choose_heartbeat-requires-clause-candidates g c =
    let s = c.args.known.now in
    let p = peer_with s.setup in
    let L = c.requires.knows.0 in
    let near = c.deref.ensures.value ∙ c.in_ok-near.ensures L c.requires.knows.1 in
    let are = c.deref-3.ensures.value ∙ c.in_ok-candidates.ensures L c.requires.knows.1 ∙ ap (scored_members p L c.args.now.0) near in
    subst (λ (ms : List Member). IsAscending (peers_of ms)) (sym are) (members_ascend p L c.args.now.0 (candidates p L c.args.now.0 c.args.topic.now) (candidates_ascend p L c.args.now.0 c.args.topic.now c.requires.fit.ascending))

pub returns : goal.returns
returns g c = λ L knows.
    let word = g.W.Words.word in
    let after = g.W.Words.after in
    let s = c.args.known.now in
    let p = peer_with s.setup in
    let t = c.args.topic.now in
    let at = c.args.now.0 in
    let near = c.deref.ensures.value ∙ c.in_ok-near.ensures L knows in
    let in_mesh : c.members.result.now ≡ mesh L t = c.members.ensures.value L knows.agrees.memberships in
    let mesh_are = c.deref-2.ensures.value ∙ c.in_ok-mesh.ensures L knows ∙ ap (scored_members p L at) in_mesh in
    let candidates_are = c.deref-3.ensures.value ∙ c.in_ok-candidates.ensures L knows ∙ ap (scored_members p L at) near in
    let change = c.in_ok-change.change in
    let numbered = subst (λ (number : ℕ). step_by_words word after s.setup.params number c.deref-2.result.now c.deref-3.result.now c.args.words.now ≡ (change, c.choose_heartbeat.new.words)) (c.count.ensures L knows.agrees.beats) c.in_ok-change.ensures in
    let chosen = subst₂ (λ (ms cs : List Member). step_by_words word after s.setup.params (heartbeats L) ms cs c.args.words.now ≡ (change, c.choose_heartbeat.new.words)) mesh_are candidates_are numbered in
    let up = members_ascend p L at (mesh L t) (subst IsAscending in_mesh c.members.ensures.ascending) in
    let ups = members_ascend p L at (candidates p L at t) (candidates_ascend p L at t c.requires.fit.ascending) in
    let follows = chosen_leads word after (mending p L c.args.now t) s.setup.params (heartbeats L) (scored_members p L at (mesh L t)) (scored_members p L at (candidates p L at t)) c.args.words.now c.choose_heartbeat.new.words change up ups c.requires.fit.room chosen in
    subst (λ (e : Effects). Follows (exact word after) (mesh_beat_rule p L c.args.now t) c.args.words.now e c.choose_heartbeat.new.words) (sym (c.in_ok-effects.ensures L knows)) follows
