-- Who is kept when a mesh has too many members: the D_score best by score, D_out outbound ones, and others up to D
-- (gossipsub v1.1, Heartbeat Maintenance and Outbound Mesh Quotas).
use Rattle.std.specs.Prelude.{◌≡◌, ℕ, ◌+◌, ◌-◌, ◌≤◌, nat_lt, ◌≤ℤ◌, int_lt, Bool, ◌&&◌, ◌||◌, not, min, List, ◌++◌, length, map, filter, All}
use Rattle.std.specs.Ordering.{int_eq}
use Rattle.std.specs.Set.{is_member}
use Rattle.gs_mesh.specs.declared.members.Member.{Member}
use Rattle.gs_base.specs.declared.names.PeerNo.{PeerNo}
use Rattle.gs_params.specs.declared.params.Degrees.{Degrees}
use Rattle.gs_base.specs.Names.{same_peer}
use Rattle.gs_params.specs.Picks.{IsAscending, IsSample, picked, picked_words}

-- ---- members

abbrev pub peers_of : List Member → List PeerNo
peers_of members = map (λ m. m.peer) members

abbrev pub outbound_of : List Member → List Member
outbound_of members = filter (λ m. m.outbound) members

-- those of the members that are among these peers, and those that are not
abbrev pub among : List PeerNo → List Member → List Member
among peers members = filter (λ m. is_member same_peer peers m.peer) members

abbrev pub outside : List PeerNo → List Member → List Member
outside peers members = filter (λ m. not (is_member same_peer peers m.peer)) members

-- ---- any cut

-- A cut keeps d of the members, or all if there are fewer. Among those that it keeps are d_score best ones: no other member
-- scores higher than one of these. So any of equal members may count as best. Also among them are d_out outbound ones, or
-- all that there are.
pub record IsCut (degrees : Degrees) (members : List Member) (kept : List PeerNo) : Type 0 where
  pub some : IsSample degrees.d (peers_of members) kept
  pub best : List PeerNo
  pub best_are : IsSample degrees.d_score kept best
  pub highest : All (λ m. All (λ n. n.score ≤ℤ m.score) (outside best members)) (among best members)
  pub outbound : min degrees.d_out (length (outbound_of members)) ≤ length (among kept (outbound_of members))

-- ---- the cut by random words

-- a has the higher score, or the same score and the lower number
abbrev pub is_better : Member → Member → Bool
is_better a b = int_lt b.score a.score || (int_eq a.score b.score && nat_lt a.peer.0 b.peer.0)

abbrev pub better_ones : List Member → Member → ℕ
better_ones members m = length (filter (λ other. is_better other m) members)

-- the n best: fewer than n members are better than each of them
unfoldable pub best_by_score : ℕ → List Member → List PeerNo
best_by_score n members = peers_of (filter (λ m. nat_lt (better_ones members m) n) members)

-- how many outbound members are missing among these
unfoldable pub outbound_lacking : Degrees → List Member → List PeerNo → ℕ
outbound_lacking degrees members these =
    min degrees.d_out (length (outbound_of members)) - length (among these (outbound_of members))

module _ {S : Type 0} (word : S → ℕ) (after : S → S) where
  -- Outbound ones are picked first, as many as are missing among the best, among the outbound members that are not best.
  unfoldable pub outbound_picked : Degrees → List Member → List PeerNo → S → List PeerNo
  outbound_picked degrees members best s =
      picked word after (outbound_lacking degrees members best) (peers_of (outside best (outbound_of members))) s

  unfoldable pub outbound_picked_words : Degrees → List Member → List PeerNo → S → S
  outbound_picked_words degrees members best s =
      picked_words word after (outbound_lacking degrees members best) (peers_of (outside best (outbound_of members))) s

  -- Then others up to d, among all members that are left.
  unfoldable pub others_picked : Degrees → List Member → List PeerNo → S → List PeerNo
  others_picked degrees members first s =
      picked word after (degrees.d - length first) (peers_of (outside first members)) s

  unfoldable pub others_picked_words : Degrees → List Member → List PeerNo → S → S
  others_picked_words degrees members first s =
      picked_words word after (degrees.d - length first) (peers_of (outside first members)) s

  -- the best, and the outbound ones that were picked
  unfoldable pub first_kept : Degrees → List Member → S → List PeerNo
  first_kept degrees members s =
      best_by_score degrees.d_score members
      ++ outbound_picked degrees members (best_by_score degrees.d_score members) s

  unfoldable pub first_words : Degrees → List Member → S → S
  first_words degrees members s = outbound_picked_words degrees members (best_by_score degrees.d_score members) s

  -- the peers that are kept, in their order: these, and the others that were picked
  unfoldable pub cut : Degrees → List Member → S → List PeerNo
  cut degrees members s = filter
      (is_member same_peer (first_kept degrees members s
      ++ others_picked degrees members (first_kept degrees members s) (first_words degrees members s)))
      (peers_of members)

  -- the state after both picks
  unfoldable pub cut_words : Degrees → List Member → S → S
  cut_words degrees members s =
      others_picked_words degrees members (first_kept degrees members s) (first_words degrees members s)

  -- The members ascend, as the candidates of a pick do, and d leaves room for the best and the outbound ones.
  pub record IsExactCut (degrees : Degrees) (members : List Member) (s : S) (kept : List PeerNo) (t : S) : Type 0 where
    pub ascending : IsAscending (peers_of members)
    pub room : degrees.d_score + degrees.d_out ≤ degrees.d
    pub kept_are : kept ≡ cut degrees members s
    pub words : t ≡ cut_words degrees members s

  -- ---- laws

  -- for any words, it is a cut
  abbrev pub EachIsACut : Type 0
  EachIsACut =
      (degrees : Degrees) (members : List Member) (s : S) (kept : List PeerNo) (t : S)
      → IsExactCut degrees members s kept t
      → IsCut degrees members kept

  -- the members and the words determine who is kept, and the state after it
  abbrev pub IsDetermined : Type 0
  IsDetermined =
      (degrees : Degrees) (members : List Member) (s : S) (kept other : List PeerNo) (t u : S)
      → IsExactCut degrees members s kept t
      → IsExactCut degrees members s other u
      → (kept ≡ other) × (t ≡ u)
