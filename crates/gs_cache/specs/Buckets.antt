-- What a bucket of sightings says, and how the two buckets of a cache are related.
use Rattle.std.specs.Prelude.{◌≡◌, ℕ, ◌+◌, ◌*◌, ◌≤◌, ◌++◌, Option, Some, IfSome, if◌then◌else◌}
use Rattle.std.specs.Map.{lookup}
use Rattle.gs_base.specs.declared.names.MsgId.{MsgId}
use Rattle.gs_base.specs.declared.names.Millis.{Millis}
use Rattle.gs_base.specs.Names.{same_id}
use Rattle.gs_cache.specs.declared.seen.sighting.Sighting.{Sighting}
use Rattle.gs_cache.specs.declared.seen.bucket.Bucket.{Bucket}
use Rattle.gs_cache.specs.Sightings.{counting}

abbrev pub sighting_in : Bucket → MsgId → Option Sighting
sighting_in b id = lookup (same_id id) b.sightings.entries

-- no sighting is earlier than the first moment or later than the last, which are at most the given time apart
pub record Spans (ttl : ℕ) (b : Bucket) : Type 0 where
  pub since : (id : MsgId) → IfSome (sighting_in b id) (λ s. b.first.0 ≤ s.at.0)
  pub until : (id : MsgId) → IfSome (sighting_in b id) (λ s. s.at.0 ≤ b.last.0)
  pub short : b.last.0 ≤ b.first.0 + ttl

-- the older one ends before the newer one begins
pub record AreInOrder (ttl : ℕ) (newer older : Bucket) : Type 0 where
  pub newer_spans : Spans ttl newer
  pub older_spans : Spans ttl older
  pub apart : older.last.0 ≤ newer.first.0
  pub runs : newer.first.0 ≤ newer.last.0

-- no sighting is older than twice the given time
abbrev pub IsRecent : ℕ → ℕ → Bucket → Type 0
IsRecent ttl now b = (id : MsgId) → IfSome (sighting_in b id) (λ s. now ≤ s.at.0 + 2 * ttl)

-- the older one ends before the newer one begins, and has no sighting older than twice the given time
pub record AreKept (ttl : ℕ) (newer older : Bucket) : Type 0 where
  pub in_order : AreInOrder ttl newer older
  pub recent : IsRecent ttl newer.last.0 older

-- a sighting of a message replaces an earlier one
abbrev pub put : MsgId → Sighting → MsgId → Option Sighting → Option Sighting
put id s other before = if same_id id other then Some s else before

-- a bucket with the same sightings and the same moments
pub record IsUnchanged (old new : Bucket) : Type 0 where
  pub sightings : new.sightings.entries ≡ old.sightings.entries
  pub first : new.first ≡ old.first
  pub last : new.last ≡ old.last

-- the sightings are those that a step makes from the earlier ones, and the moments are given
pub record Becomes (step : MsgId → Option Sighting → Option Sighting) (first last : Millis)
    (old new : Bucket) : Type 0 where
  pub sightings : (id : MsgId) → sighting_in new id ≡ step id (sighting_in old id)
  pub begins : new.first ≡ first
  pub ends : new.last ≡ last

-- what was forgotten no longer counted
pub record Forgets (ttl now : ℕ) (old new : Bucket) : Type 0 where
  pub counts : (id : MsgId) (t : ℕ)
      → now ≤ t
      → counting ttl t (sighting_in new id) ≡ counting ttl t (sighting_in old id)
  pub spans : Spans ttl new
  pub recent : IsRecent ttl now new
  pub first : new.first ≡ old.first
  pub last : new.last ≡ old.last

-- what two buckets say about a message: the newer one goes first
abbrev pub known : Bucket → Bucket → MsgId → Option Sighting
known newer older id = lookup (same_id id) (newer.sightings.entries ++ older.sightings.entries)

-- a sighting was taken
pub record Takes (ttl : ℕ) (id : MsgId) (s : Sighting) (newer older newer' older' : Bucket) : Type 0 where
  pub counts
      : (other : MsgId) (t : ℕ) → s.at.0 ≤ t
      → counting ttl t (known newer' older' other) ≡ counting ttl t (put id s other (known newer older other))
  pub in_order : AreInOrder ttl newer' older'
  pub ends : newer'.last ≡ s.at
