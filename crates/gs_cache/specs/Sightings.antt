-- When messages were seen last, what that says at a moment, and how marks and notes change it. The steps are about what was
-- known of one message. So they serve both a cache that forgets and a record of everything.
use Rattle.std.specs.Prelude.{◌≡◌, ℕ, ◌-◌, ◌≤◌, Bool, false, not, ◌&&◌, nat_lt, nat_le, if◌then◌else◌, List, [], ◌∷◌, ◌++◌, Option, Some, None, option_map}
use Rattle.std.specs.List.{list_any}
use Rattle.std.specs.Map.{lookup}
use Rattle.gs_base.specs.declared.names.PeerNo.{PeerNo}
use Rattle.gs_base.specs.declared.names.MsgId.{MsgId}
use Rattle.gs_base.specs.declared.names.Millis.{Millis}
use Rattle.gs_base.specs.declared.verdict.Verdict.{Verdict}
use Rattle.gs_base.specs.Names.{same_peer, same_id}
use Rattle.gs_cache.specs.declared.seen.sighting.Sighting.{Sighting}

-- ---- what a sighting says

-- a sighting counts until the given time has passed since it
abbrev pub counting : ℕ → ℕ → Option Sighting → Option Sighting
counting ttl now None = None
counting ttl now (Some s) = if nat_lt (now - s.at.0) ttl then Some s else None

-- what the message was found to be
abbrev pub verdict_in : Option Sighting → Option Verdict
verdict_in s = option_map (λ (found : Sighting). found.verdict) s

-- whether a neighbour was noted since
abbrev pub is_noted : PeerNo → Sighting → Bool
is_noted peer s = list_any (λ other. same_peer other peer) s.noted

-- whether it is at most the window old, and the neighbour was not noted since
abbrev pub is_near_in : PeerNo → ℕ → ℕ → Option Sighting → Bool
is_near_in peer now window None = false
is_near_in peer now window (Some s) = nat_le (now - s.at.0) window && not (is_noted peer s)

-- ---- steps

-- a mark of a message is its last sighting, and nobody is noted yet
abbrev pub sighted : MsgId → Millis → Verdict → MsgId → Option Sighting → Option Sighting
sighted id at verdict other before =
    if same_id id other then Some (record { at = at; verdict = verdict; noted = [] }) else before

-- a neighbour is noted once
abbrev pub with_noted : PeerNo → Sighting → Sighting
with_noted peer s = record {
  at = s.at;
  verdict = s.verdict;
  noted = if is_noted peer s then s.noted else s.noted ++ peer ∷ [];
}

-- a neighbour that is noted for a message is noted at its last sighting
abbrev pub noted : MsgId → PeerNo → MsgId → Option Sighting → Option Sighting
noted id peer other before = if same_id id other then option_map (with_noted peer) before else before

-- ---- a cache

-- for how long a sighting counts, the moment of the last mark, and sightings, each message's last one first
pub record Seen : Type 0 where
  pub ttl : ℕ
  pub moment : ℕ
  pub sightings : List (MsgId × Sighting)

-- the last sighting of a message, if it counts at a moment
abbrev pub what_counts : Seen → MsgId → ℕ → Option Sighting
what_counts seen id now = counting seen.ttl now (lookup (same_id id) seen.sightings)

-- from a moment on, what counts of each message is what a step makes from what counted
abbrev pub ChangesBy : (MsgId → Option Sighting → Option Sighting) → ℕ → Seen → Seen → Type 0
ChangesBy step from old new =
    (id : MsgId) (now : ℕ) → from ≤ now
    → what_counts new id now ≡ counting old.ttl now (step id (what_counts old id now))

-- what counts after a step is the same, whether what no longer counted before it was known or not
abbrev pub NeedsWhatCounts : (Option Sighting → Option Sighting) → Type 0
NeedsWhatCounts step =
    (ttl now : ℕ) (before : Option Sighting)
    → counting ttl now (step (counting ttl now before)) ≡ counting ttl now (step before)

pub record StepsNeedWhatCounts : Type 0 where
  pub sighted : (id other : MsgId) (at : Millis) (verdict : Verdict) → NeedsWhatCounts (sighted id at verdict other)
  pub noted : (id other : MsgId) (peer : PeerNo) → NeedsWhatCounts (noted id peer other)
