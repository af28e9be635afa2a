-- What a neighbour has on a topic, and its steps.
use Rattle.std.specs.Prelude.{ℕ, Option, Some, None}
use Rattle.gs_base.specs.declared.names.Millis.{Millis}
use Rattle.gs_score.specs.declared.counter.Decay.{Decay}
use Rattle.gs_score.specs.declared.rules.TopicRules.{TopicRules}
use Rattle.gs_score.specs.declared.standing.Kind.{Kind}
use Rattle.gs_score.specs.declared.standing.Raise.{Raise}
use Rattle.gs_score.specs.declared.standing.Kind.TheVariants.{First, Near, Deficit, Invalid}
use Rattle.gs_score.specs.declared.standing.Standing.{Standing}
use Rattle.gs_score.specs.Counters.{Stored, most_counted, decay_step, raised, read_at}

-- ---- how each counter decays, and its cap

abbrev pub decay_of : TopicRules → Kind → Decay
decay_of r First = record { factor = r.factors.p2_decay; floor = r.decay_to_zero }
decay_of r Near = record { factor = r.factors.p3_decay; floor = r.decay_to_zero }
decay_of r Deficit = record { factor = r.factors.p3b_decay; floor = r.decay_to_zero }
decay_of r Invalid = record { factor = r.factors.p4_decay; floor = r.decay_to_zero }

-- counters of what is wrong have no cap of their own
abbrev pub cap_of : TopicRules → Kind → ℕ
cap_of r First = r.factors.p2_cap
cap_of r Near = r.factors.p3_cap
cap_of r Deficit = most_counted
cap_of r Invalid = most_counted

-- ---- what a neighbour has on a topic after a number of decays

-- since when it is in the mesh, if it is, and its counters, in millionths
pub record Held : Type 0 where
  pub since : Option Millis
  pub first : ℕ
  pub near : ℕ
  pub deficit : ℕ
  pub invalid : ℕ

-- nothing yet
abbrev pub nothing_held : Held
nothing_held = record { since = None; first = 0; near = 0; deficit = 0; invalid = 0 }

abbrev pub count : Kind → Held → ℕ
count First h = h.first
count Near h = h.near
count Deficit h = h.deficit
count Invalid h = h.invalid

-- ---- its steps

-- one counter is raised
abbrev pub raised_held : TopicRules → Kind → ℕ → Held → Held
raised_held r First by h = record h { first = raised (cap_of r First) by h.first }
raised_held r Near by h = record h { near = raised (cap_of r Near) by h.near }
raised_held r Deficit by h = record h { deficit = raised (cap_of r Deficit) by h.deficit }
raised_held r Invalid by h = record h { invalid = raised (cap_of r Invalid) by h.invalid }

-- each counter decays
abbrev pub decayed_held : TopicRules → Held → Held
decayed_held r h = record {
  since = h.since;
  first = decay_step (decay_of r First) h.first;
  near = decay_step (decay_of r Near) h.near;
  deficit = decay_step (decay_of r Deficit) h.deficit;
  invalid = decay_step (decay_of r Invalid) h.invalid;
}

-- ---- what is kept of it

-- the counters as they are kept
abbrev pub stored : Kind → Standing → Stored
stored First s = s.first
stored Near s = s.near
stored Deficit s = s.deficit
stored Invalid s = s.invalid

abbrev pub with_stored : Kind → Stored → Standing → Standing
with_stored First c s = record s { first = c }
with_stored Near c s = record s { near = c }
with_stored Deficit c s = record s { deficit = c }
with_stored Invalid c s = record s { invalid = c }

abbrev pub read : TopicRules → ℕ → Standing → Kind → ℕ
read r decays s kind = read_at (decay_of r kind) decays (stored kind s)

-- what is held after a number of decays: each counter decayed by its missing steps
abbrev pub held : TopicRules → ℕ → Standing → Held
held r decays s = record {
  since = s.since;
  first = read r decays s First;
  near = read r decays s Near;
  deficit = read r decays s Deficit;
  invalid = read r decays s Invalid;
}

-- a raise stores the counter as it is after these decays
abbrev pub raised_stored : TopicRules → Kind → ℕ → ℕ → Standing → Stored
raised_stored r kind by decays s = record { value = raised (cap_of r kind) by (read r decays s kind); decays = decays }

abbrev pub raised_standing : TopicRules → Kind → ℕ → ℕ → Standing → Standing
raised_standing r kind by decays s = with_stored kind (raised_stored r kind by decays s) s

abbrev pub raised_by : Raise → Standing → Standing
raised_by raise s = raised_standing raise.rules.now raise.kind raise.by raise.decays s

-- out of the mesh, with the counters that it had
abbrev pub pruned : Standing → Standing
pruned s = record s { since = None }

-- in the mesh since a moment
abbrev pub grafted : Millis → Standing → Standing
grafted now s = record s { since = Some now }

-- nothing yet
abbrev pub no_count : Stored
no_count = record { value = 0; decays = 0 }

abbrev pub fresh : Standing
fresh = record { since = None; first = no_count; near = no_count; deficit = no_count; invalid = no_count }
