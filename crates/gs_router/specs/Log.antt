-- Which entries of a trace a router keeps.
use Rattle.std.specs.Prelude.{◌≡◌, ◌≤◌, ℕ, Bool, true, false, List, [], ◌∷◌, length, drop, reverse, map}
use Rattle.std.specs.declared.snapshot.Snapshot.{Snapshot}
use Rattle.gs_rules.specs.declared.event.Event.{Event}
use Rattle.gs_rules.specs.declared.trace.Entry.{Entry}
use Rattle.gs_rules.specs.Events.{of_round_end}
use Rattle.gs_rules.specs.Tables.{Entries, last_moment}

-- an event that ends a round
abbrev pub ends_round : Event → Bool
ends_round event = of_round_end (λ r. true) false event

-- the newest entry ends a round
abbrev pub is_round_over : Entries → Bool
is_round_over [] = false
is_round_over (e ∷ L) = ends_round e.event

-- the entries after the last end of a round
abbrev pub since_end : Entries → Entries
since_end [] = []
since_end (e ∷ L) = of_round_end (λ r. []) (e ∷ since_end L) e.event

-- the entries of the round in which the newest entry is, with the end of that round if it has ended
abbrev pub this_round : Entries → Entries
this_round [] = []
this_round (e ∷ L) = e ∷ since_end L

-- the entries that were seen, the newest first
abbrev pub seen_in : List (Snapshot Entry) → Entries
seen_in past = reverse (map (λ (s : Snapshot Entry). s.value) past)

-- What is kept of a trace. From the place `start` on, counted from the oldest, it has the entries of the round.
pub record IsKept (all : Bool) (kept : Entries) (start : ℕ) (is_over : Bool) (L : Entries) : Type 0 where
  pub round : drop start (reverse kept) ≡ reverse (this_round L)
  pub within : start ≤ length kept
  pub whole : all ≡ true → kept ≡ L
  pub last : last_moment kept ≡ last_moment L
  pub over : is_over ≡ is_round_over L
