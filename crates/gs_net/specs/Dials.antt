-- The links of dials: which peers they join, and what went over them.
use Rattle.std.specs.Prelude.{◌≡◌, ◌<◌, ℕ, true, false, if◌then◌else◌, List, [], ◌∷◌, ◌++◌, map, flat_map, Vec}
use Rattle.std.specs.List.{AllByRecursion}
use Rattle.std.specs.declared.alloc.Global.{Global}
use Rattle.gs_base.specs.declared.names.PeerNo.{PeerNo}
use Rattle.gs_base.specs.Names.{same_peer}
use Rattle.gs_plan.specs.declared.plan.Dial.{Dial}
use Rattle.gs_link.specs.Ends.{LinkId}
use Rattle.gs_link.specs.Runs.{closes}
use Rattle.gs_ends.specs.Ends.{Joint, linked}
use Rattle.gs_ends.specs.Pairs.{Pair, accepted_for, joints_of, taken_from}
use Rattle.gs_seats.specs.ListsByPeer.{list_at}

-- a dial joins two different peers with numbers below this
abbrev pub JoinsTwoOf : ℕ → Dial → Type 0
JoinsTwoOf peers dial = (dial.from.0 < peers) × (dial.to.0 < peers) × (same_peer dial.from dial.to ≡ false)

-- ---- which links there are

-- A dial, the link from the peer that dials to the other, and the link back.
pub record Dialled : Type 0 where
  pub dial : Dial
  pub there : LinkId
  pub back : LinkId

-- What a dial gives a peer. The one that dials sends there and takes from the link back. The other one sends back and takes
-- from the link there.
abbrev pub gives : Dialled → PeerNo → List Joint
gives d p =
    if same_peer d.dial.from p then linked d.dial.to d.there d.back ∷ []
    else (if same_peer d.dial.to p then linked d.dial.from d.back d.there ∷ [] else [])

-- all that the dials give a peer, in their order
abbrev pub assigned : List Dialled → PeerNo → List Joint
assigned dialled p = flat_map (λ d. gives d p) dialled

-- Each dial has its two links, and the ends of each peer are those that the dials give it.
pub record AreWired (dials : List Dial) (lists : List (Vec Pair Global)) : Type 0 where
  pub dialled : List Dialled
  pub of_dials : map (λ d. d.dial) dialled ≡ dials
  pub joints : (p : PeerNo) → joints_of (list_at lists p.0) ≡ assigned dialled p

-- ---- what went over them

-- nothing was accepted for the neighbour, and nothing was taken from it
abbrev pub IsFresh : Pair → Type 0
IsFresh pair = (pair.1.accepted ≡ []) × (pair.2.taken ≡ [])

-- in each of its links this many slots may wait
abbrev pub HasCapacity : ℕ → Pair → Type 0
HasCapacity n pair = (pair.1.capacity ≡ n) × (pair.2.capacity ≡ n)

-- the neighbour's close was taken
abbrev pub IsClosed : Pair → Type 0
IsClosed pair = closes pair.2.taken ≡ true

-- this holds for each pair of ends of each peer
abbrev pub AtEach : (Pair → Type 0) → List (Vec Pair Global) → Type 0
AtEach P lists = (p : PeerNo) → AllByRecursion P (list_at lists p.0)

-- what one peer's end accepted for another is what the other's end took from it
abbrev pub HasReached : List (Vec Pair Global) → PeerNo → PeerNo → Type 0
HasReached lists p q = accepted_for (list_at lists p.0) q ≡ taken_from (list_at lists q.0) p

-- what each peer of a dial accepted for the other has reached the other
abbrev pub IsExchanged : List (Vec Pair Global) → Dial → Type 0
IsExchanged lists dial = HasReached lists dial.from dial.to × HasReached lists dial.to dial.from

-- ---- one dial more

-- The lists of ends grew by those of one dial. These have this capacity, and nothing went over them.
pub record IsWiredOn (capacity : ℕ) (dial : Dial) (old new : List (Vec Pair Global)) : Type 0 where
  pub dialled : Dialled
  pub of_dial : dialled.dial ≡ dial
  pub joints : (p : PeerNo) → joints_of (list_at new p.0) ≡ joints_of (list_at old p.0) ++ gives dialled p
  pub sized : AtEach (HasCapacity capacity) old → AtEach (HasCapacity capacity) new
  pub fresh : AtEach IsFresh old → AtEach IsFresh new
