-- Entries as a trace stores them: the effects of an event are stored outside it.
use Rattle.std.specs.Prelude.{Option, None, Some}
use Rattle.gs_base.specs.declared.names.Millis.{Millis}
use Rattle.gs_rules.specs.declared.event.Event.{Event}
use Rattle.gs_rules.specs.declared.trace.Entry.{Entry}
use Rattle.gs_rules.specs.declared.trace.Effects.{Effects}
use Rattle.gs_rules.specs.Rule.{no_effects}

-- the stored effects, or no effects if none are stored
abbrev pub effects_or_none : Option Effects → Effects
effects_or_none None = no_effects
effects_or_none (Some effects) = effects

-- the entry whose stored form this is
abbrev pub entry_of : Millis → Event → Option Effects → Entry
entry_of at event effects = record { at = at; event = event; effects = effects_or_none effects }
