-- What a heartbeat does to fanouts, and how many heartbeats there were.
use Rattle.std.proofs.Common.{◌≡◌, ◌≤◌, ◌+◌, arith, ℕ, Bool, true, false, if◌then◌else◌, [], ◌∷◌, length, refl}
use Rattle.gs_rules.specs.declared.event.Event.{Event}
use Rattle.gs_rules.specs.declared.event.Event.TheVariants.{BeatBegin, Step}
use Rattle.gs_rules.specs.declared.event.BeatStep.TheVariants.{FanBeat, FanEnd}
use Rattle.gs_rules.specs.Peers.{Peer}
use Rattle.gs_rules.specs.Tables.{Entries, counted_after, heartbeats}
use Rattle.gs_rules.specs.Owed.{owes}
use Rattle.gs_router.specs.declared.state.heartbeat.DueFanout.{DueFanout}
use Rattle.gs_router.specs.declared.tables.beats.Beats.{Beats}
use Rattle.gs_router.specs.Beats.{event_of}
use Rattle.gs_router.specs.Tables.{AgreesOnBeats}

-- ---- fanouts

-- what is done to a fanout owes nothing
pub due_owes_none : (p : Peer) (L : Entries) (at : ℕ) (due : DueFanout) → owes p L at (event_of due) ≡ []
due_owes_none p L at due = by due.is_stale
  where
    by : (stale : Bool) → owes p L at (if stale then Step (FanEnd due.topic) else Step (FanBeat due.topic)) ≡ []
    by true = refl
    by false = refl

-- ---- how many

counted_once : (event : Event) (before : ℕ) → counted_after event before ≤ before + 1
counted_once BeatBegin before = omega arith
counted_once other before = omega arith

heartbeats_are_few : (L : Entries) → heartbeats L ≤ length L
heartbeats_are_few [] = omega arith
heartbeats_are_few (e ∷ L) = let once = counted_once e.event (heartbeats L) in let few = heartbeats_are_few L in omega (arith, once, few)

pub beats_are_few : (table : Beats) (L : Entries) → AgreesOnBeats table L → table.count ≤ length L
beats_are_few table L agrees = let few = heartbeats_are_few L in omega (arith, agrees.counts, few)
