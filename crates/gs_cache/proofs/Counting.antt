-- What counts of a message, before and after steps.
use Rattle.std.proofs.Common.{◌≡◌, ℕ, ◌-◌, nat_lt, Bool, true, false, cond, List, [], ◌∷◌, ◌++◌, Option, None, Some, refl, ap₂, option_map, if◌then◌else◌}
use Rattle.std.specs.Option.{option_or}
use Rattle.std.specs.Map.{lookup}
use Rattle.std.proofs.lemmas.Cmp.{nat_list_eq_equiv}
use Rattle.gs_base.specs.declared.names.PeerNo.{PeerNo}
use Rattle.gs_base.specs.declared.names.MsgId.{MsgId}
use Rattle.gs_base.specs.declared.names.Millis.{Millis}
use Rattle.gs_base.specs.declared.verdict.Verdict.{Verdict}
use Rattle.gs_base.specs.Names.{same_id}
use Rattle.gs_cache.specs.declared.seen.sighting.Sighting.{Sighting}
use Rattle.gs_cache.specs.Sightings.{counting, sighted, noted, with_noted, NeedsWhatCounts}
use Rattle.gs_cache.specs.Buckets.{put}

-- ---- look-ups in two lists

pub lookup_append : {K X : Type 0} (test : K → Bool) (xs ys : List (K × X)) → lookup test (xs ++ ys) ≡ option_or (lookup test xs) (lookup test ys)
lookup_append test [] ys = refl
lookup_append {K} {X} test (x ∷ xs) ys = by (test x.0) (lookup_append test xs ys)
  where
    by : (passes : Bool) → lookup test (xs ++ ys) ≡ option_or (lookup test xs) (lookup test ys)
        → cond passes (Some x.1) (lookup test (xs ++ ys)) ≡ option_or (cond passes (Some x.1) (lookup test xs)) (lookup test ys)
    by true rest = refl
    by false rest = rest

-- equal identifiers find the same
pub same_found : {X : Type 0} (id other : MsgId) → same_id id other ≡ true → (es : List (MsgId × X)) → lookup (same_id id) es ≡ lookup (same_id other) es
same_found id other same [] = refl
same_found {X} id other same (e ∷ es) = ap₂ (λ (b : Bool) (o : Option X). cond b (Some e.1) o) (nat_list_eq_equiv.congr id.0 other.0 (e.0).0 same) (same_found id other same es)

-- ---- what counts

pub counts_twice : (ttl now : ℕ) (s : Option Sighting) → counting ttl now (counting ttl now s) ≡ counting ttl now s
counts_twice ttl now None = refl
counts_twice ttl now (Some s) = by (nat_lt (now - s.at.0) ttl) refl
  where
    by : (b : Bool) → nat_lt (now - s.at.0) ttl ≡ b → counting ttl now (if b then Some s else None) ≡ (if b then Some s else None)
    by true is = rw is refl
    by false is = refl

-- what stands in for a sighting that is missing matters only as far as it counts
pub behind : (ttl now : ℕ) (s before after : Option Sighting) → counting ttl now after ≡ counting ttl now before
    → counting ttl now (option_or s after) ≡ counting ttl now (option_or s before)
behind ttl now None before after same = same
behind ttl now (Some s) before after same = refl

-- ---- the steps

pub put_needs : (id : MsgId) (s : Sighting) (other : MsgId) → NeedsWhatCounts (put id s other)
put_needs id s other ttl now before = by (same_id id other)
  where
    by : (same : Bool) → counting ttl now (if same then Some s else counting ttl now before) ≡ counting ttl now (if same then Some s else before)
    by true = refl
    by false = counts_twice ttl now before

pub sighted_needs : (id other : MsgId) (at : Millis) (verdict : Verdict) → NeedsWhatCounts (sighted id at verdict other)
sighted_needs id other at verdict = put_needs id (record { at = at; verdict = verdict; noted = [] }) other

pub noted_needs : (id other : MsgId) (peer : PeerNo) → NeedsWhatCounts (noted id peer other)
noted_needs id other peer ttl now before = by (same_id id other) before
  where
    some : (s : Sighting) (counts : Bool) → nat_lt (now - s.at.0) ttl ≡ counts
        → counting ttl now (option_map (with_noted peer) (if counts then Some s else None)) ≡ counting ttl now (Some (with_noted peer s))
    some s true is = refl
    some s false is = rw is refl

    by : (same : Bool) (b : Option Sighting) → counting ttl now (if same then option_map (with_noted peer) (counting ttl now b) else counting ttl now b) ≡ counting ttl now (if same then option_map (with_noted peer) b else b)
    by false b = counts_twice ttl now b
    by true None = refl
    by true (Some s) = some s (nat_lt (now - s.at.0) ttl) refl
