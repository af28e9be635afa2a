-- What a heartbeat does to the mesh of a topic (gossipsub v1.0, "Mesh maintenance"; v1.1, "Heartbeat Maintenance", "Outbound
-- Mesh Quotas" and "Opportunistic Grafting"). Members that score below 0 go. If the others are few, more come in. If they
-- are many, some go. If few of them are outbound, outbound ones come in. Then, at each heartbeat whose number is a multiple
-- of `opportunistic_ticks`, a mesh with a low median score gets better neighbours.
use Rattle.std.specs.Prelude.{◌≡◌, ℕ, ◌+◌, ◌-◌, ◌≤◌, ◌/◌, ◌%◌, nat_eq, nat_lt, ℤ, pos, int_lt, Bool, true, false, not, ◌&&◌, if◌then◌else◌, List, [], ◌++◌, length, filter}
use Rattle.std.specs.List.{count_by}
use Rattle.gs_base.specs.declared.names.PeerNo.{PeerNo}
use Rattle.gs_mesh.specs.declared.members.Member.{Member}
use Rattle.gs_params.specs.declared.params.Degrees.{Degrees}
use Rattle.gs_params.specs.declared.params.Params.{Params}
use Rattle.gs_params.specs.Picks.{IsAscending, IsSample, picked, picked_words}
use Rattle.gs_mesh.specs.Cuts.{IsCut, among, cut, cut_words, outbound_of, outside, peers_of}
use Rattle.gs_mesh.specs.declared.heartbeat.MeshChange.{MeshChange}
use Rattle.gs_mesh.specs.declared.condition.Condition.{Condition}
use Rattle.gs_mesh.specs.declared.condition.Condition.TheVariants.{Few, Many, FewOutbound, Balanced}

-- ---- the members

-- who scores below 0
abbrev pub is_negative : Member → Bool
is_negative m = int_lt m.score (pos 0)

abbrev pub not_negative : List Member → List Member
not_negative mesh = filter (λ m. not (is_negative m)) mesh

-- The state of a mesh, judged by its members. They are fewer than D_low, or more than D_high, or fewer than D_out of them
-- are outbound. Otherwise nothing is lacking.
abbrev pub condition_of : Degrees → List Member → Condition
condition_of degrees members =
    if nat_lt (length members) degrees.d_low then Few
    else if nat_lt degrees.d_high (length members) then Many
    else if nat_lt (length (outbound_of members)) degrees.d_out then FewOutbound
    else Balanced

-- ---- the median

-- Whether the median score lies below x. The median of n ascending scores is the one at place n / 2, counted from 0. So it
-- lies below x if more than n / 2 scores do. Without members it does not.
abbrev pub median_is_below : List Member → ℤ → Bool
median_is_below members x = nat_lt (length members / 2) (count_by (λ m. int_lt m.score x) members)

-- those that score above the median of these members
abbrev pub above_median : List Member → List Member → List Member
above_median members candidates = filter (λ c. median_is_below members c.score) candidates

-- a mesh is poor at a multiple of `opportunistic_ticks` where its median score lies below the threshold
abbrev pub is_poor : Params → ℕ → List Member → Bool
is_poor params number members =
    nat_eq (number % params.timing.opportunistic_ticks) 0
    && median_is_below members (pos params.thresholds.opportunistic_threshold)

-- ---- the step

-- The members after the change: those that are kept, and the candidates that are grafted.
abbrev pub mended_members : List Member → List Member → List PeerNo → List PeerNo → List Member
mended_members members candidates kept grafted = among kept members ++ among grafted candidates

-- who leaves, in the order of the mesh, and who comes in, in the order of the candidates
abbrev pub mesh_change : List Member → List Member → List PeerNo → List PeerNo → MeshChange
mesh_change mesh candidates kept grafted =
    record { pruned = peers_of (outside kept mesh); grafted = peers_of (among grafted candidates) }

-- The next definitions state the step for any way to choose. `any_of` goes on with any given number of some peers, and
-- `cut_of` goes on with the members that a cut keeps.

module _ {R : Type 0} (any_of : ℕ → List PeerNo → (List PeerNo → R) → R) where
  -- if a mesh is poor, any `most` of those that score above its median come in
  abbrev pub opportunistic_grafts : Bool → ℕ → List Member → List Member → (List PeerNo → R) → R
  opportunistic_grafts true most members candidates next = any_of most (peers_of (above_median members candidates)) next
  opportunistic_grafts false most members candidates next = next []

  -- the same for a mesh that was mended first; a peer that was grafted then does not come in twice
  abbrev pub opportunistic_grafts_then :
      Params → ℕ → List Member → List Member → List PeerNo → (List PeerNo → R) → R
  opportunistic_grafts_then params number members candidates grafted next =
      opportunistic_grafts (is_poor params number members) params.timing.opportunistic_peers members
      (outside grafted candidates) next

module _ {R : Type 0} (any_of : ℕ → List PeerNo → (List PeerNo → R) → R)
    (cut_of : Degrees → List Member → (List PeerNo → R) → R) where
  -- Who is kept and who is grafted. Where members are few, any candidates come in, up to D members. Where they are many,
  -- they are cut to D. Where few are outbound, any outbound candidates come in, up to D_out outbound members. Else nobody
  -- comes or goes.
  abbrev pub mended : Condition → Degrees → List Member → List Member → (List PeerNo → List PeerNo → R) → R
  mended Few degrees members candidates next =
      any_of (degrees.d - length members) (peers_of candidates) (next (peers_of members))
  mended Many degrees members candidates next = cut_of degrees members (λ kept. next kept [])
  mended FewOutbound degrees members candidates next =
      any_of (degrees.d_out - length (outbound_of members)) (peers_of (outbound_of candidates))
      (next (peers_of members))
  mended Balanced degrees members candidates next = next (peers_of members) []

  -- the whole step
  abbrev pub stepped : Params → ℕ → List Member → List Member → (MeshChange → R) → R
  stepped params number mesh candidates next =
      mended (condition_of params.degrees (not_negative mesh)) params.degrees (not_negative mesh) candidates (λ kept grafted.
      opportunistic_grafts_then any_of params number (mended_members (not_negative mesh) candidates kept grafted)
      candidates grafted (λ more.
      next (mesh_change mesh candidates kept (grafted ++ more))))

-- ---- the step by random words

module _ {S : Type 0} (word : S → ℕ) (after : S → S) where
  -- goes on with k of these peers, which the next words pick, and with the state after these words
  abbrev pub any_by_words : {A : Type 0} → ℕ → List PeerNo → (List PeerNo → S → A) → S → A
  any_by_words k candidates next s = next (picked word after k candidates s) (picked_words word after k candidates s)

  -- goes on with the cut by the next words, and with the state after these words
  abbrev pub cut_by_words : {A : Type 0} → Degrees → List Member → (List PeerNo → S → A) → S → A
  cut_by_words degrees members next s = next (cut word after degrees members s) (cut_words word after degrees members s)

  -- who is kept in a mesh and who is grafted, as its state requires, and the state of the words after that
  abbrev pub mended_by_words : Degrees → List Member → List Member → S → List PeerNo × List PeerNo × S
  mended_by_words degrees members candidates s =
      mended any_by_words cut_by_words (condition_of degrees members) degrees members candidates
      (λ kept grafted t. (kept, grafted, t)) s

  -- who else is grafted if the mesh is poor, and the state of the words after that
  abbrev pub opportunistic_grafts_by_words :
      Params → ℕ → List Member → List Member → List PeerNo → S → List PeerNo × S
  opportunistic_grafts_by_words params number members candidates grafted s =
      opportunistic_grafts_then any_by_words params number members candidates grafted (λ more t. (more, t)) s

  -- who leaves and who comes in by the next words, and the state after them
  unfoldable pub step_by_words : Params → ℕ → List Member → List Member → S → MeshChange × S
  step_by_words params number mesh candidates s =
      stepped any_by_words cut_by_words params number mesh candidates (λ change t. (change, t)) s

-- ---- any step

-- who is kept in a mesh and who is grafted to it, as its state requires
abbrev pub IsMended : Condition → Degrees → List Member → List Member → List PeerNo → List PeerNo → Type 0
IsMended Few degrees members candidates kept grafted =
    (kept ≡ peers_of members) × IsSample (degrees.d - length members) (peers_of candidates) grafted
IsMended Many degrees members candidates kept grafted = IsCut degrees members kept × (grafted ≡ [])
IsMended FewOutbound degrees members candidates kept grafted =
    (kept ≡ peers_of members)
    × IsSample (degrees.d_out - length (outbound_of members)) (peers_of (outbound_of candidates)) grafted
IsMended Balanced degrees members candidates kept grafted = (kept ≡ peers_of members) × (grafted ≡ [])

-- who is grafted to a poor mesh
abbrev pub AreOpportunisticGrafts : Bool → ℕ → List Member → List Member → List PeerNo → Type 0
AreOpportunisticGrafts true most members candidates more = IsSample most (peers_of (above_median members candidates)) more
AreOpportunisticGrafts false most members candidates more = more ≡ []

-- A step by any choices: who leaves, and who comes in.
pub record IsMeshStep (params : Params) (number : ℕ) (mesh candidates : List Member)
    (change : MeshChange) : Type 0 where
  pub kept : List PeerNo
  pub grafted : List PeerNo
  pub more : List PeerNo
  pub is_mended
      : IsMended (condition_of params.degrees (not_negative mesh)) params.degrees (not_negative mesh) candidates kept grafted
  pub are_opportunistic_grafts
      : AreOpportunisticGrafts (is_poor params number (mended_members (not_negative mesh) candidates kept grafted))
      params.timing.opportunistic_peers
      (mended_members (not_negative mesh) candidates kept grafted)
      (outside grafted candidates)
      more
  pub change_is : change ≡ mesh_change mesh candidates kept (grafted ++ more)

-- For any words it is a mesh step, if members and candidates ascend and D leaves room for a cut's best and outbound members.
module _ {S : Type 0} (word : S → ℕ) (after : S → S) where
  abbrev pub EachIsAMeshStep : Type 0
  EachIsAMeshStep =
      (params : Params) (number : ℕ) (mesh candidates : List Member) (s : S)
      → IsAscending (peers_of mesh)
      → IsAscending (peers_of candidates)
      → params.degrees.d_score + params.degrees.d_out ≤ params.degrees.d
      → IsMeshStep params number mesh candidates (step_by_words word after params number mesh candidates s).0
