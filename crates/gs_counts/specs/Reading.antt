-- What is known about a peer whose entries are seen.
use Rattle.std.specs.Prelude.{◌≡◌, ◌≤◌, ℕ, List, [], ◌∷◌, ◌++◌, map}
use Rattle.gs_base.specs.declared.names.PeerNo.{PeerNo}
use Rattle.gs_plan.specs.declared.plan.Plan.{Plan}
use Rattle.gs_rules.specs.declared.trace.Entry.{Entry}
use Rattle.gs_rules.specs.Tables.{Entries, last_moment}
use Rattle.gs_router.specs.Watching.{Watches}
use Rattle.gs_seats.specs.Rounds.{neighbours, peer_in}
use Rattle.gs_counts.specs.declared.happening.Happening.{Happening}
use Rattle.gs_counts.specs.declared.tables.Tables.{Tables}
use Rattle.gs_counts.specs.declared.traces.Notes.{Notes}
use Rattle.gs_counts.specs.declared.traces.PeerCounter.{PeerCounter}
use Rattle.gs_counts.specs.Lanes.{lane_of}
use Rattle.gs_counts.specs.Memories.{Remembers}
use Rattle.gs_counts.specs.Runs.{entry_happenings, entry_sizes}
use Rattle.gs_counts.specs.Standing.{MeshSize, Shows}

-- The notes have what a trace of a peer of the plan says, and what goes out to its neighbours after the trace.
pub record IsNoted (plan : Plan) (p : PeerNo) (notes : Notes) (L : Entries) : Type 0 where
  pub peer : notes.peer ≡ p
  pub memory : Remembers notes.memory L
  pub lanes : notes.lanes.items ≡ map (lane_of L) (neighbours plan p)

-- This is the counter of a peer of the plan, after a trace.
pub record IsCounterAfter (plan : Plan) (p : PeerNo) (counter : PeerCounter) (L : Entries) : Type 0 where
  pub known : IsNoted plan p counter.notes L
  pub watches : Watches counter.watcher (peer_in plan p) L
  pub last : counter.last.0 ≡ last_moment L

-- ---- further entries, the oldest first

-- none is earlier than the one before it, and the first is no earlier than a moment
abbrev pub AreLater : ℕ → List Entry → Type 0
AreLater at [] = Unit {0}
AreLater at (e ∷ es) = (at ≤ e.at.0) × AreLater e.at.0 es

-- what each of them adds to a trace that grows by it
abbrev pub later : {A : Type 0} → (Entries → Entry → List A) → Entries → List Entry → List A
later each L [] = []
later each L (e ∷ es) = each L e ++ later each (e ∷ L) es

-- what happens at them
abbrev pub later_happenings : Plan → PeerNo → Entries → List Entry → List Happening
later_happenings plan p L es = later (entry_happenings plan p) L es

-- the sizes of meshes at those that end rounds
abbrev pub later_sizes : Entries → List Entry → List MeshSize
later_sizes L es = later entry_sizes L es

-- the later tables show further entries in addition to what the earlier ones show
abbrev pub ShowsLater : Plan → PeerNo → Tables → Tables → Entries → List Entry → Type 0
ShowsLater plan p old new L es =
    (hs : List Happening) (sizes : List MeshSize) → Shows plan old hs sizes
    → Shows plan new (hs ++ later_happenings plan p L es) (sizes ++ later_sizes L es)
