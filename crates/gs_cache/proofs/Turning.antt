-- A cache's two buckets before and after calls.
use Rattle.std.proofs.Common.{◌≡◌, subst, ℕ, ◌+◌, ◌*◌, ◌-◌, ◌≤◌, ◌<◌, nat_lt, Bool, true, false, Option, None, Some, is_some, IfSome, refl, sym, ap, ap₂, ◌∙◌, option_map, if◌then◌else◌, arith, rules}
use Rattle.std.specs.Option.{option_or}
use Rattle.gs_base.specs.declared.names.PeerNo.{PeerNo}
use Rattle.gs_base.specs.declared.names.MsgId.{MsgId}
use Rattle.gs_base.specs.Names.{same_id}
use Rattle.gs_cache.specs.declared.seen.sighting.Sighting.{Sighting}
use Rattle.gs_cache.specs.declared.seen.bucket.Bucket.{Bucket}
use Rattle.gs_cache.specs.Sightings.{counting, noted, with_noted}
use Rattle.gs_cache.specs.Buckets.{put, sighting_in, known, AreInOrder, AreKept, Becomes, Spans, Takes}
use Rattle.gs_cache.proofs.Counting.{lookup_append, same_found, behind, put_needs, noted_needs}

pub known_is : (newer older : Bucket) (id : MsgId) → known newer older id ≡ option_or (sighting_in newer id) (sighting_in older id)
known_is newer older id = lookup_append (same_id id) newer.sightings.entries older.sightings.entries

-- a bucket whose last moment is the time ago or more says nothing that counts
pub gone : (ttl now t : ℕ) (bucket : Bucket) → Spans ttl bucket → ttl ≤ now - bucket.last.0 → now ≤ t → (id : MsgId) → counting ttl t (sighting_in bucket id) ≡ None
gone ttl now t bucket spans past later id = by (sighting_in bucket id) (spans.until id)
  where
    by : (found : Option Sighting) → IfSome found (λ s. s.at.0 ≤ bucket.last.0) → counting ttl t found ≡ None
    by None is = refl
    by (Some s) is = let no : nat_lt (t - s.at.0) ttl ≡ false = search rules in rw no refl

put_or : (id : MsgId) (s : Sighting) (q : MsgId) (x y : Option Sighting) → option_or (put id s q x) y ≡ put id s q (option_or x y)
put_or id s q x y = by (same_id id q)
  where
    by : (same : Bool) → option_or (if same then Some s else x) y ≡ (if same then Some s else option_or x y)
    by true = refl
    by false = refl

note_or : (peer : PeerNo) (same : Bool) (x y : Option Sighting) → (same ≡ true → is_some x ≡ true)
    → option_or (if same then option_map (with_noted peer) x else x) y ≡ (if same then option_map (with_noted peer) (option_or x y) else option_or x y)
note_or peer false x y has = refl
note_or peer true (Some s) y has = refl
note_or peer true None y has = let no : false ≡ true = has refl in cc

note_both : (peer : PeerNo) (same : Bool) (x y : Option Sighting)
    → option_or (if same then option_map (with_noted peer) x else x) (if same then option_map (with_noted peer) y else y)
    ≡ (if same then option_map (with_noted peer) (option_or x y) else option_or x y)
note_both peer false x y = refl
note_both peer true (Some s) y = refl
note_both peer true None y = refl

module _ (ttl now : ℕ) (newer older newer' older' : Bucket) where
  -- what each call must show
  abbrev pub Steps : (MsgId → Option Sighting → Option Sighting) → Type 0
  Steps step = (q : MsgId) (t : ℕ) → now ≤ t → counting ttl t (known newer' older' q) ≡ counting ttl t (step q (counting ttl t (known newer older q)))

  -- a sighting in the newer bucket
  pub taken : (id : MsgId) (s : Sighting) → ((q : MsgId) → sighting_in newer' q ≡ put id s q (sighting_in newer q)) → older' ≡ older
      → (q : MsgId) (t : ℕ) → counting ttl t (known newer' older' q) ≡ counting ttl t (put id s q (known newer older q))
  taken id s puts same q t =
      ap (counting ttl t) (known_is newer' older' q ∙ ap₂ option_or (puts q) (ap (λ (b : Bucket). sighting_in b q) same)
      ∙ put_or id s q (sighting_in newer q) (sighting_in older q) ∙ ap (put id s q) (sym (known_is newer older q)))

  -- a sighting in a bucket of its own, where the older one is past
  pub turned : (id : MsgId) (s : Sighting) → ((q : MsgId) → sighting_in newer' q ≡ put id s q None) → older' ≡ newer
      → Spans ttl older → ttl ≤ now - older.last.0
      → (q : MsgId) (t : ℕ) → now ≤ t → counting ttl t (known newer' older' q) ≡ counting ttl t (put id s q (known newer older q))
  turned id s puts same spans past q t later =
      ap (counting ttl t) (known_is newer' older' q ∙ ap₂ option_or (puts q) (ap (λ (b : Bucket). sighting_in b q) same) ∙ put_or id s q None (sighting_in newer q))
      ∙ sym (put_needs id s q ttl t (sighting_in newer q))
      ∙ ap (λ (x : Option Sighting). counting ttl t (put id s q x)) alike
      ∙ put_needs id s q ttl t (known newer older q)
    where
      nothing : (x : Option Sighting) → x ≡ option_or x None
      nothing None = refl
      nothing (Some x) = refl

      alike : counting ttl t (sighting_in newer q) ≡ counting ttl t (known newer older q)
      alike = ap (counting ttl t) (nothing (sighting_in newer q))
          ∙ behind ttl t (sighting_in newer q) (sighting_in older q) None (sym (gone ttl now t older spans past later q))
          ∙ ap (counting ttl t) (sym (known_is newer older q))

  -- the older bucket forgets what counts no more
  pub forgotten : ((q : MsgId) (t : ℕ) → now ≤ t → counting ttl t (sighting_in older' q) ≡ counting ttl t (sighting_in older q)) → newer' ≡ newer
      → (q : MsgId) (t : ℕ) → now ≤ t → counting ttl t (known newer' older' q) ≡ counting ttl t (known newer older q)
  forgotten forgets same q t later =
      ap (counting ttl t) (known_is newer' older' q ∙ ap (λ (b : Bucket). option_or (sighting_in b q) (sighting_in older' q)) same)
      ∙ behind ttl t (sighting_in newer q) (sighting_in older q) (sighting_in older' q) (forgets q t later)
      ∙ ap (counting ttl t) (sym (known_is newer older q))

  -- a note in the newer bucket
  pub noted_newer : (id : MsgId) (peer : PeerNo)
      → ((q : MsgId) → sighting_in newer' q ≡ noted id peer q (sighting_in newer q))
      → older' ≡ older → is_some (sighting_in newer id) ≡ true
      → Steps (noted id peer)
  noted_newer id peer notes same has q t later =
      ap (counting ttl t) (known_is newer' older' q ∙ ap₂ option_or (notes q) (ap (λ (b : Bucket). sighting_in b q) same)
      ∙ note_or peer (same_id id q) (sighting_in newer q) (sighting_in older q) (λ is. ap is_some (sym (same_found id q is newer.sightings.entries)) ∙ has)
      ∙ ap (noted id peer q) (sym (known_is newer older q)))
      ∙ sym (noted_needs id q peer ttl t (known newer older q))

  -- a note that the newer bucket has no place for
  pub noted_older : (id : MsgId) (peer : PeerNo)
      → ((q : MsgId) → sighting_in newer' q ≡ noted id peer q (sighting_in newer q))
      → ((q : MsgId) → sighting_in older' q ≡ noted id peer q (sighting_in older q))
      → Steps (noted id peer)
  noted_older id peer newer_notes older_notes q t later =
      ap (counting ttl t) (known_is newer' older' q ∙ ap₂ option_or (newer_notes q) (older_notes q)
      ∙ note_both peer (same_id id q) (sighting_in newer q) (sighting_in older q)
      ∙ ap (noted id peer q) (sym (known_is newer older q)))
      ∙ sym (noted_needs id q peer ttl t (known newer older q))

-- ---- a sighting is taken in

-- what holds of each sighting holds with one more
put_all : (P : Sighting → Type 0) (id : MsgId) (s : Sighting) (bucket : Bucket) (before : MsgId → Option Sighting) → ((q : MsgId) → IfSome (before q) P) → P s
    → ((q : MsgId) → sighting_in bucket q ≡ put id s q (before q)) → (q : MsgId) → IfSome (sighting_in bucket q) P
put_all P id s bucket before all one puts q = subst (λ (found : Option Sighting). IfSome found P) (sym (puts q)) (by (same_id id q) (before q) (all q))
  where
    by : (same : Bool) (b : Option Sighting) → IfSome b P → IfSome (if same then Some s else b) P
    by true b is = one
    by false b is = is

weaker : (o : Option Sighting) (P Q : Sighting → Type 0) → ((x : Sighting) → P x → Q x) → IfSome o P → IfSome o Q
weaker None P Q to is = is
weaker (Some x) P Q to is = to x is

-- in its place
pub takes_here : (ttl : ℕ) (id : MsgId) (s : Sighting) (newer older newer' : Bucket) → AreInOrder ttl newer older → newer.last.0 ≤ s.at.0 → s.at.0 - newer.first.0 < ttl
    → Becomes (put id s) newer.first s.at newer newer' → Takes ttl id s newer older newer' older
takes_here ttl id s newer older newer' ordered later soon puts =
    let first : newer.first.0 ≤ s.at.0 = omega (arith, ordered.runs, later) in
    record {
      counts = λ q t past. taken ttl s.at.0 newer older newer' older id s puts.sightings refl q t;
      in_order = record {
        newer_spans = record {
          since = rw puts.begins (put_all (λ x. newer.first.0 ≤ x.at.0) id s newer' (sighting_in newer) ordered.newer_spans.since first puts.sightings);
          until = rw puts.ends (put_all (λ x. x.at.0 ≤ s.at.0) id s newer' (sighting_in newer)
              (λ q. weaker (sighting_in newer q) (λ x. x.at.0 ≤ newer.last.0) (λ x. x.at.0 ≤ s.at.0) (λ x is. omega arith) (ordered.newer_spans.until q)) (omega arith) puts.sightings);
          short = rw (puts.begins, puts.ends) (omega arith);
        };
        older_spans = ordered.older_spans;
        apart = rw puts.begins ordered.apart;
        runs = rw (puts.begins, puts.ends) first;
      };
      ends = puts.ends;
    }

-- in a bucket of its own
pub takes_turned : (ttl : ℕ) (id : MsgId) (s : Sighting) (newer older newest : Bucket) → AreInOrder ttl newer older → newer.last.0 ≤ s.at.0
    → ttl ≤ s.at.0 - newer.first.0 → ((q : MsgId) → sighting_in newest q ≡ put id s q None) → newest.first ≡ s.at → newest.last ≡ s.at
    → Takes ttl id s newer older newest newer
takes_turned ttl id s newer older newest ordered later past puts begins ends = record {
  counts = turned ttl s.at.0 newer older newest newer id s puts refl ordered.older_spans (omega (arith, ordered.apart, past));
  in_order = record {
    newer_spans = record {
      since = rw begins (put_all (λ x. s.at.0 ≤ x.at.0) id s newest (λ q. None) (λ q. tt) (omega arith) puts);
      until = rw ends (put_all (λ x. x.at.0 ≤ s.at.0) id s newest (λ q. None) (λ q. tt) (omega arith) puts);
      short = rw (begins, ends) (omega arith);
    };
    older_spans = ordered.newer_spans;
    apart = rw begins later;
    runs = rw (begins, ends) (omega arith);
  };
  ends = ends;
}

-- ---- what is held is recent

pub recent : (ttl : ℕ) (newer older : Bucket) → AreKept ttl newer older → (id : MsgId) → IfSome (known newer older id) (λ s. newer.last.0 ≤ s.at.0 + 2 * ttl)
recent ttl newer older kept id =
    subst (λ (found : Option Sighting). IfSome found (λ s. newer.last.0 ≤ s.at.0 + 2 * ttl)) (sym (known_is newer older id))
    (by (sighting_in newer id) (sighting_in older id) (kept.in_order.newer_spans.since id) (kept.recent id))
  where
    by : (a b : Option Sighting) → IfSome a (λ s. newer.first.0 ≤ s.at.0) → IfSome b (λ s. newer.last.0 ≤ s.at.0 + 2 * ttl) → IfSome (option_or a b) (λ s. newer.last.0 ≤ s.at.0 + 2 * ttl)
    by None b since is = is
    by (Some x) b since is = omega (arith, kept.in_order.newer_spans.short, since)
