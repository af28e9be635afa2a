-- What an observer of a run has seen.
use Rattle.std.specs.Prelude.{◌≡◌, ℕ, nat_lt, if◌then◌else◌, ◌++◌, length}
use Rattle.gs_base.specs.declared.names.PeerNo.{PeerNo}
use Rattle.gs_plan.specs.declared.plan.Plan.{Plan}
use Rattle.gs_rules.specs.Tables.{Entries}
use Rattle.gs_report.specs.declared.report.Report.{Report}
use Rattle.gs_report.specs.Seen.{AreLives}
use Rattle.gs_router.specs.Log.{this_round}

-- each of the later traces is the earlier one with the round in which it is
abbrev pub HaveGrown : (PeerNo → Entries) → (PeerNo → Entries) → Type 0
HaveGrown earlier later = (p : PeerNo) → later p ≡ this_round (later p) ++ earlier p

-- an observer that says which traces it saw has seen these
pub record HasSeen (saw : (PeerNo → Entries) → Type 0) (traces : PeerNo → Entries) : Type 0 where
  pub seen : PeerNo → Entries
  pub told : saw seen
  pub same : (p : PeerNo) → seen p ≡ traces p

-- the later traces of the first n peers, and the earlier ones of the others
abbrev pub shown : ℕ → (PeerNo → Entries) → (PeerNo → Entries) → PeerNo → Entries
shown n earlier later p = if nat_lt p.0 n then later p else earlier p

-- an observer that says which traces it saw has seen those of this report
pub record HasSeenReport (saw : (PeerNo → Entries) → Type 0) (plan : Plan) (report : Report) : Type 0 where
  pub traces : PeerNo → Entries
  pub told : saw traces
  pub lives : AreLives (length plan.peers) traces report.peers.items
