-- What a heartbeat does to fanouts, as a router remembers it until the fanout's turn comes.
use Rattle.std.specs.Prelude.{if◌then◌else◌}
use Rattle.gs_rules.specs.declared.event.Event.{Event}
use Rattle.gs_rules.specs.declared.event.Event.TheVariants.{Step}
use Rattle.gs_rules.specs.declared.event.BeatStep.TheVariants.{FanBeat, FanEnd}
use Rattle.gs_router.specs.declared.state.heartbeat.DueFanout.{DueFanout}

-- a fanout ends if its time has come, and is mended otherwise
abbrev pub event_of : DueFanout → Event
event_of due = if due.is_stale then Step (FanEnd due.topic) else Step (FanBeat due.topic)
