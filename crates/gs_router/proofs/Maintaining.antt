-- What a heartbeat does to a mesh, by the words that choose it.
use Rattle.std.proofs.Common.{◌≡◌, ◌+◌, ◌≤◌, ℕ, Bool, true, false, List, [], ◌∷◌, refl, sym, ap, subst}
use Rattle.gs_base.specs.declared.names.PeerNo.{PeerNo}
use Rattle.gs_mesh.specs.declared.members.Member.{Member}
use Rattle.gs_params.specs.declared.params.Degrees.{Degrees}
use Rattle.gs_params.specs.declared.params.Params.{Params}
use Rattle.gs_params.specs.Picks.{IsAscending}
use Rattle.gs_mesh.specs.Cuts.{outside, peers_of}
use Rattle.gs_mesh.specs.declared.heartbeat.MeshChange.{MeshChange}
use Rattle.gs_mesh.specs.declared.condition.Condition.{Condition}
use Rattle.gs_mesh.specs.declared.condition.Condition.TheVariants.{Few, Many, FewOutbound, Balanced}
use Rattle.gs_mesh.specs.MeshSteps.{any_by_words, condition_of, cut_by_words, is_poor, mended, mended_members, not_negative, opportunistic_grafts, step_by_words, stepped}
use Rattle.gs_mesh.proofs.MemberLists.{above_median_ascend, not_negative_ascend, outbound_ascend, outside_ascend}
use Rattle.gs_rules.specs.declared.trace.Effects.{Effects}
use Rattle.gs_rules.specs.Peers.{Peer}
use Rattle.gs_rules.specs.Tables.{Entries}
use Rattle.gs_rules.specs.BeatRules.{scored_members}
use Rattle.gs_rules.specs.Rule.{AnyOf, CutOf, Gives, Rule}
use Rattle.gs_rules.specs.Modes.{Follows, exact}

-- ---- by words

module _ {S : Type 0} (word : S → ℕ) (after : S → S) (effects : MeshChange → Effects) where
  -- the effects of this choice may follow a rule from a state, with that state after it
  abbrev Leads : Rule → S → MeshChange × S → Type 0
  Leads rule s x = Follows (exact word after) rule s (effects x.0) x.1

  mended_leads : (condition : Condition) (degrees : Degrees) (members candidates : List Member) (rule : List PeerNo → List PeerNo → Rule) (next : List PeerNo → List PeerNo → S → MeshChange × S) (s : S)
      → IsAscending (peers_of members)
      → IsAscending (peers_of candidates)
      → degrees.d_score + degrees.d_out ≤ degrees.d
      → ((kept grafted : List PeerNo) (t : S) → Leads (rule kept grafted) t (next kept grafted t))
      → Leads (mended AnyOf CutOf condition degrees members candidates rule) s (mended (any_by_words word after) (cut_by_words word after) condition degrees members candidates next s)
  mended_leads Few degrees members candidates rule next s up ups room each =
      (_, _, record { ascending = ups; chosen_are = refl; words = refl }, each (peers_of members) _ _)
  mended_leads Many degrees members candidates rule next s up ups room each =
      (_, _, record { ascending = up; room = room; kept_are = refl; words = refl }, each _ [] _)
  mended_leads FewOutbound degrees members candidates rule next s up ups room each =
      (_, _, record { ascending = outbound_ascend candidates ups; chosen_are = refl; words = refl }, each (peers_of members) _ _)
  mended_leads Balanced degrees members candidates rule next s up ups room each = each (peers_of members) [] s

  opportunistic_grafts_lead : (poor : Bool) (most : ℕ) (members candidates : List Member) (rule : List PeerNo → Rule) (next : List PeerNo → S → MeshChange × S) (s : S)
      → IsAscending (peers_of candidates)
      → ((more : List PeerNo) (t : S) → Leads (rule more) t (next more t))
      → Leads (opportunistic_grafts AnyOf poor most members candidates rule) s (opportunistic_grafts (any_by_words word after) poor most members candidates next s)
  opportunistic_grafts_lead true most members candidates rule next s ups each =
      (_, _, record { ascending = above_median_ascend members candidates ups; chosen_are = refl; words = refl }, each _ _)
  opportunistic_grafts_lead false most members candidates rule next s ups each = each [] s

  stepped_leads : (params : Params) (number : ℕ) (mesh candidates : List Member) (s : S)
      → IsAscending (peers_of mesh)
      → IsAscending (peers_of candidates)
      → params.degrees.d_score + params.degrees.d_out ≤ params.degrees.d
      → Leads (stepped AnyOf CutOf params number mesh candidates (λ change. Gives (effects change))) s (step_by_words word after params number mesh candidates s)
  unfolding step_by_words
  stepped_leads params number mesh candidates s up ups room =
      mended_leads (condition_of params.degrees (not_negative mesh)) params.degrees (not_negative mesh) candidates _ _ s (not_negative_ascend mesh up) ups room (λ kept grafted t.
      opportunistic_grafts_lead (is_poor params number (mended_members (not_negative mesh) candidates kept grafted)) params.timing.opportunistic_peers (mended_members (not_negative mesh) candidates kept grafted) (outside grafted candidates) _ _ t (outside_ascend grafted candidates ups) (λ more u. (refl, refl)))

  -- where the words choose so, the effects of that follow
  pub chosen_leads : (params : Params) (number : ℕ) (mesh candidates : List Member) (s t : S) (change : MeshChange)
      → IsAscending (peers_of mesh)
      → IsAscending (peers_of candidates)
      → params.degrees.d_score + params.degrees.d_out ≤ params.degrees.d
      → step_by_words word after params number mesh candidates s ≡ (change, t)
      → Follows (exact word after) (stepped AnyOf CutOf params number mesh candidates (λ change. Gives (effects change))) s (effects change) t
  chosen_leads params number mesh candidates s t change up ups room is =
      subst (Leads (stepped AnyOf CutOf params number mesh candidates (λ change. Gives (effects change))) s) is (stepped_leads params number mesh candidates s up ups room)

-- ---- members

-- who they are with their scores, they are the same
peers_so : (p : Peer) (L : Entries) (at : ℕ) (qs : List PeerNo) → peers_of (scored_members p L at qs) ≡ qs
peers_so p L at [] = refl
peers_so p L at (q ∷ qs) = ap (λ (rest : List PeerNo). q ∷ rest) (peers_so p L at qs)

pub members_ascend : (p : Peer) (L : Entries) (at : ℕ) (qs : List PeerNo) → IsAscending qs → IsAscending (peers_of (scored_members p L at qs))
members_ascend p L at qs up = subst IsAscending (sym (peers_so p L at qs)) up
