-- What a heartbeat may do to a mesh is a step of that mesh.
use Rattle.std.proofs.Common.{◌≡◌, ◌-◌, ℕ, Bool, true, false, List, [], ◌++◌, length, refl, sym, subst}
use Rattle.std.specs.List.{AllByRecursion}
use Rattle.std.specs.Set.{is_member}
use Rattle.std.specs.Prelude.{not}
use Rattle.gs_base.specs.declared.names.PeerNo.{PeerNo}
use Rattle.gs_base.specs.declared.names.Topic.{Topic}
use Rattle.gs_base.specs.Names.{same_peer}
use Rattle.gs_mesh.specs.declared.members.Member.{Member}
use Rattle.gs_params.specs.declared.params.Degrees.{Degrees}
use Rattle.gs_mesh.specs.Cuts.{outbound_of, outside, peers_of}
use Rattle.gs_mesh.specs.Peers.{is_among}
use Rattle.gs_mesh.specs.declared.condition.Condition.{Condition}
use Rattle.gs_mesh.specs.declared.condition.Condition.TheVariants.{Few, Many, FewOutbound, Balanced}
use Rattle.gs_mesh.specs.declared.heartbeat.MeshChange.{MeshChange}
use Rattle.gs_mesh.specs.MeshSteps.{AreOpportunisticGrafts, IsMended, IsMeshStep, above_median, condition_of, is_poor, mended, mended_members, not_negative, opportunistic_grafts, opportunistic_grafts_then}
use Rattle.gs_rules.specs.declared.trace.Entry.{Entry}
use Rattle.gs_rules.specs.Peers.{Peer}
use Rattle.gs_rules.specs.Tables.{Entries, heartbeats}
use Rattle.gs_rules.specs.Meshes.{mesh}
use Rattle.gs_rules.specs.Membership.{candidates}
use Rattle.gs_rules.specs.BeatRules.{mending, mesh_beat_rule, scored_members}
use Rattle.gs_rules.specs.Rules.{AnyOf, CutOf, Gives, Rule}
use Rattle.gs_rules.specs.Modes.{Follows, Mode, free}
use Rattle.gs_rules.proofs.Legality.{Weakens}
use Rattle.gs_rules.proofs.Marks.{each_among}
use Rattle.gs_rules.proofs.EntryMarks.{members_are_such}
use Rattle.gs_rules.proofs.Ruled.{mesh_change_at}

-- ---- a step by any choices

-- the members of a topic's mesh at a moment that don't score below 0, those that may be grafted, and the mesh with these
-- kept and these grafted
abbrev members_then : Peer → Entries → ℕ → Topic → List Member
members_then p L at t = not_negative (scored_members p L at (mesh L t))

abbrev others_then : Peer → Entries → ℕ → Topic → List Member
others_then p L at t = scored_members p L at (candidates p L at t)

abbrev made_then : Peer → Entries → ℕ → Topic → List PeerNo → List PeerNo → List Member
made_then p L at t kept come = mended_members (members_then p L at t) (others_then p L at t) kept come

-- the step of that mesh
abbrev pub IsStepOf : Peer → Entries → ℕ → Topic → MeshChange → Type 0
IsStepOf p L at t change =
    IsMeshStep p.params (heartbeats L) (scored_members p L at (mesh L t)) (scored_members p L at (candidates p L at t)) change

-- it is made of who is kept and who comes in by its number of members, and who comes in where it is poor
steps : (p : Peer) (L : Entries) (at : ℕ) (t : Topic) (kept come more : List PeerNo)
    → IsMended (condition_of p.params.degrees (members_then p L at t)) p.params.degrees (members_then p L at t) (others_then p L at t) kept come
    → AreOpportunisticGrafts (is_poor p.params (heartbeats L) (made_then p L at t kept come)) p.params.timing.opportunistic_peers (made_then p L at t kept come) (outside come (others_then p L at t)) more
    → IsStepOf p L at t (mesh_change_at p L at t kept (come ++ more))
steps p L at t kept come more is_mended are_opportunistic_grafts = record { kept = kept; grafted = come; more = more; is_mended = is_mended; are_opportunistic_grafts = are_opportunistic_grafts; change_is = refl }

-- any choice is free
pub free_is_free : Weakens free free (λ u. tt)
free_is_free = record { picks = λ k candidates s chosen t h. h; cuts = λ degrees members s kept t h. h; one = λ k s place t h. h; meets = λ e x h. h }

module _ (m : Mode) (frees : Weakens m free (λ u. tt)) where
  -- What a mode lets a mesh do by its number of members is what any choices may, and it goes on with that.
  record Mends (condition : Condition) (degrees : Degrees) (members others : List Member) (next : List PeerNo → List PeerNo → Rule) (e : Entry) (u : m.State) : Type 0 where
    kept : List PeerNo
    come : List PeerNo
    state : m.State
    is : IsMended condition degrees members others kept come
    follows : Follows m (next kept come) state e.effects u

  mends : (condition : Condition) (degrees : Degrees) (members others : List Member) (next : List PeerNo → List PeerNo → Rule) (s : m.State) (e : Entry) (u : m.State)
      → Follows m (mended AnyOf CutOf condition degrees members others next) s e.effects u
      → Mends condition degrees members others next e u
  mends Few degrees members others next s e u effects =
      record { kept = peers_of members; come = effects.0; state = effects.1; is = (refl, frees.picks (degrees.d - length members) (peers_of others) s effects.0 effects.1 effects.2); follows = effects.3 }
  mends Many degrees members others next s e u effects =
      record { kept = effects.0; come = []; state = effects.1; is = (frees.cuts degrees members s effects.0 effects.1 effects.2, refl); follows = effects.3 }
  mends FewOutbound degrees members others next s e u effects =
      record { kept = peers_of members; come = effects.0; state = effects.1; is = (refl, frees.picks (degrees.d_out - length (outbound_of members)) (peers_of (outbound_of others)) s effects.0 effects.1 effects.2); follows = effects.3 }
  mends Balanced degrees members others next s e u effects =
      record { kept = peers_of members; come = []; state = s; is = (refl, refl); follows = effects }

  -- what is chosen where the mesh is poor, and what follows it
  record Betters (poor : Bool) (most : ℕ) (members others : List Member) (next : List PeerNo → Rule) (e : Entry) (u : m.State) : Type 0 where
    more : List PeerNo
    state : m.State
    is : AreOpportunisticGrafts poor most members others more
    follows : Follows m (next more) state e.effects u

  betters : (poor : Bool) (most : ℕ) (members others : List Member) (next : List PeerNo → Rule) (s : m.State) (e : Entry) (u : m.State)
      → Follows m (opportunistic_grafts AnyOf poor most members others next) s e.effects u
      → Betters poor most members others next e u
  betters true most members others next s e u effects =
      record { more = effects.0; state = effects.1; is = frees.picks most (peers_of (above_median members others)) s effects.0 effects.1 effects.2; follows = effects.3 }
  betters false most members others next s e u effects = record { more = []; state = s; is = refl; follows = effects }

  -- whatever follows the rule of a mesh that a heartbeat mends meets the mending by such a step
  pub moves : (p : Peer) (L : Entries) (t : Topic) (e : Entry) (s u : m.State)
      → Follows m (mesh_beat_rule p L e.at t) s e.effects u
      → (change : MeshChange) × IsStepOf p L e.at.0 t change × m.Meets e.effects (mending p L e.at t change)
  moves p L t e s u effects =
      let members : List Member = members_then p L e.at.0 t in
      let others : List Member = others_then p L e.at.0 t in
      let gives : List PeerNo → List PeerNo → List PeerNo → Rule = λ kept come more. Gives (mending p L e.at t (mesh_change_at p L e.at.0 t kept (come ++ more))) in
      let first =
      mends (condition_of p.params.degrees members) p.params.degrees members others
      (λ kept come. opportunistic_grafts_then AnyOf p.params (heartbeats L) (mended_members members others kept come) others come (gives kept come)) s e u effects in
      let made : List Member = made_then p L e.at.0 t first.kept first.come in
      let second =
      betters (is_poor p.params (heartbeats L) made) p.params.timing.opportunistic_peers made (outside first.come others)
      (gives first.kept first.come) first.state e u first.follows in (
        mesh_change_at p L e.at.0 t first.kept (first.come ++ second.more),
        steps p L e.at.0 t first.kept first.come second.more first.is second.is,
        second.follows.0,
      )

-- ---- whom it concerns

-- whoever comes in was a candidate
pub grafts_candidates : (p : Peer) (L : Entries) (at : ℕ) (t : Topic) (change : MeshChange) → IsStepOf p L at t change → AllByRecursion (λ q. is_among (candidates p L at t) q ≡ true) change.grafted
grafts_candidates p L at t change step =
    subst (λ (c : MeshChange). AllByRecursion (λ q. is_among (candidates p L at t) q ≡ true) c.grafted) (sym step.change_is)
    (members_are_such p L (λ q. is_among (candidates p L at t) q ≡ true) at (λ (m : Member). is_member same_peer (step.grafted ++ step.more) m.peer) (candidates p L at t) (each_among (candidates p L at t)))

-- whoever goes was a member
pub prunes_members : (p : Peer) (L : Entries) (at : ℕ) (t : Topic) (change : MeshChange) → IsStepOf p L at t change → AllByRecursion (λ q. is_among (mesh L t) q ≡ true) change.pruned
prunes_members p L at t change step =
    subst (λ (c : MeshChange). AllByRecursion (λ q. is_among (mesh L t) q ≡ true) c.pruned) (sym step.change_is)
    (members_are_such p L (λ q. is_among (mesh L t) q ≡ true) at (λ (m : Member). not (is_member same_peer step.kept m.peer)) (mesh L t) (each_among (mesh L t)))
