-- A step by words is a mesh step: as many as are called for, of those who are.
use Rattle.std.proofs.Common.{◌+◌, ◌-◌, ◌≤◌, ℕ, Bool, true, false, List, length, refl, ap}
use Rattle.gs_mesh.specs.declared.members.Member.{Member}
use Rattle.gs_params.specs.declared.params.Degrees.{Degrees}
use Rattle.gs_params.specs.Picks.{IsAscending}
use Rattle.gs_mesh.specs.Cuts.{cut, cut_words, outbound_of, outside, peers_of}
use Rattle.gs_params.proofs.Picking.{picked_is_sample}
use Rattle.gs_mesh.proofs.Cutting.{exact_cut_is_cut}
use Rattle.gs_mesh.specs.declared.heartbeat.MeshChange.{MeshChange}
use Rattle.gs_mesh.specs.declared.condition.Condition.{Condition}
use Rattle.gs_mesh.specs.declared.condition.Condition.TheVariants.{Few, Many, FewOutbound, Balanced}
use Rattle.gs_mesh.specs.MeshSteps.{AreOpportunisticGrafts, EachIsAMeshStep, IsMended, above_median, condition_of, is_poor, mended_by_words, mended_members, not_negative, opportunistic_grafts_by_words}
use Rattle.gs_mesh.proofs.MemberLists.{above_median_ascend, not_negative_ascend, outbound_ascend, outside_ascend}
use Rattle.gs_mesh.proofs.Stepping.{mended_as, opportunistic_grafts_as, put_together}

module _ {S : Type 0} (word : S → ℕ) (after : S → S) where
  is_mended : (condition : Condition) (degrees : Degrees) (members candidates : List Member) (s : S)
      → IsAscending (peers_of members)
      → IsAscending (peers_of candidates)
      → degrees.d_score + degrees.d_out ≤ degrees.d
      → IsMended condition degrees members candidates (mended_as word after condition degrees members candidates s).0 (mended_as word after condition degrees members candidates s).1
  is_mended Few degrees members candidates s up ups room = (refl, picked_is_sample word after (degrees.d - length members) (peers_of candidates) s ups)
  is_mended Many degrees members candidates s up ups room =
      (exact_cut_is_cut word after degrees members s (cut word after degrees members s) (cut_words word after degrees members s) (record { ascending = up; room = room; kept_are = refl; words = refl }), refl)
  is_mended FewOutbound degrees members candidates s up ups room =
      (refl, picked_is_sample word after (degrees.d_out - length (outbound_of members)) (peers_of (outbound_of candidates)) s (outbound_ascend candidates ups))
  is_mended Balanced degrees members candidates s up ups room = (refl, refl)

  are_opportunistic_grafts : (poor : Bool) (most : ℕ) (members candidates : List Member) (s : S)
      → IsAscending (peers_of candidates)
      → AreOpportunisticGrafts poor most members candidates (opportunistic_grafts_as word after poor most members candidates s).0
  are_opportunistic_grafts true most members candidates s ups = picked_is_sample word after most (peers_of (above_median members candidates)) s (above_median_ascend members candidates ups)
  are_opportunistic_grafts false most members candidates s ups = refl

  pub each_is_a_mesh_step : EachIsAMeshStep word after
  each_is_a_mesh_step params number mesh candidates s up ups room =
      let members = not_negative mesh in
      let first = mended_by_words word after params.degrees members candidates s in
      let made = mended_members members candidates first.0 first.1 in
      let second = opportunistic_grafts_by_words word after params number made candidates first.1 first.2 in
      record {
        kept = first.0;
        grafted = first.1;
        more = second.0;
        is_mended = is_mended (condition_of params.degrees members) params.degrees members candidates s (not_negative_ascend mesh up) ups room;
        are_opportunistic_grafts = are_opportunistic_grafts (is_poor params number made) params.timing.opportunistic_peers made (outside first.1 candidates) first.2 (outside_ascend first.1 candidates ups);
        change_is = ap (λ (x : MeshChange × S). x.0) (put_together word after params number mesh candidates s first.2 second.1 first.0 first.1 second.0 refl refl);
      }
