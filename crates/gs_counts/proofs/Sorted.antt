-- The rows of a tree of topics, in order.
use Rattle.std.proofs.Common.{◌≡◌, ℕ, Bool, true, false, cond, if◌then◌else◌, List, [], ◌∷◌, map, Option, Some, None, refl, sym, ap, ap₂, subst, ◌∙◌}
use Rattle.std.specs.Prelude.{unwrap_or}
use Rattle.std.specs.List.{AllByRecursion, list_any}
use Rattle.std.specs.Map.{lookup, keys_of}
use Rattle.std.specs.Ordering.{is_eq}
use Rattle.std.specs.declared.cmp.Ordering.TheVariants.{Less}
use Rattle.std.specs.List.Sorted.{IsStrictlySortedBy}
use Rattle.std.proofs.lemmas.Map.Text.{is_eq-slice_cmp}
use Rattle.std.proofs.lemmas.Slice.Eq.{bytes_eq-Decides}
use Rattle.gs_base.specs.declared.names.Topic.{Topic}
use Rattle.gs_base.specs.Names.{same_topic}
use Rattle.gs_rules.specs.Tables.{ascending, topic_order}
use Rattle.gs_counts.specs.declared.counts.Counts.{Counts}
use Rattle.gs_counts.specs.declared.kind.Kind.{Kind}
use Rattle.gs_counts.specs.declared.happening.Happening.{Happening}
use Rattle.gs_counts.specs.declared.run.TopicCounts.{TopicCounts}
use Rattle.gs_counts.specs.Rows.{counted, no_counts, row_where}
use Rattle.gs_counts.specs.Runs.{topic_counts}
use Rattle.gs_counts.specs.Standing.{is_on, row_on, topics_in}
use Rattle.gs_router.proofs.Ascending.{joined_in, listed_if, one_topic, put_in_order}

pub same_order : (t u : Topic) → is_eq (topic_order t u) ≡ same_topic t u
same_order t u = is_eq-slice_cmp t.0 u.0

pub itself : (t : Topic) → same_topic t t ≡ true
itself t = (bytes_eq-Decides t.0 t.0).1 refl

-- ---- topics with a value each

module _ {V : Type 0} where
  abbrev look : Topic → List (Topic × V) → Option V
  look t es = lookup (λ u. is_eq (topic_order t u)) es

  abbrev flagged : Topic × V → Topic × Bool
  flagged e = (e.0, true)

  -- the first topic is none of those that come later
  none_later : (t k : Topic) (es : List (Topic × V)) → same_topic t k ≡ true → AllByRecursion (λ u. topic_order k u ≡ Less) (keys_of es) → look t es ≡ None
  none_later t k [] is below = refl
  none_later t k ((u, v) ∷ es) is below =
      ap (λ (c : Bool). cond c (Some v) (look t es)) (ap (λ (w : Topic). is_eq (topic_order w u)) (one_topic t k is) ∙ ap is_eq below.0)
      ∙ none_later t k es is below.1

  keys_flagged : (es : List (Topic × V)) → keys_of (map flagged es) ≡ keys_of es
  keys_flagged [] = refl
  keys_flagged ((t, v) ∷ es) = ap (λ (ts : List Topic). t ∷ ts) (keys_flagged es)

  joined_flagged : (es : List (Topic × V)) → joined_in (map flagged es) ≡ keys_of es
  joined_flagged [] = refl
  joined_flagged ((t, v) ∷ es) = ap (λ (ts : List Topic). t ∷ ts) (joined_flagged es)

  abbrev marked : Option V → Option Bool
  marked None = None
  marked (Some v) = Some true

  look_flagged : (q : Topic) (es : List (Topic × V)) → lookup (λ u. is_eq (topic_order q u)) (map flagged es) ≡ marked (look q es)
  look_flagged q [] = refl
  look_flagged q ((t, v) ∷ es) = by (is_eq (topic_order q t)) (look_flagged q es)
    where
      by : (c : Bool) → lookup (λ u. is_eq (topic_order q u)) (map flagged es) ≡ marked (look q es) → cond c (Some true) (lookup (λ u. is_eq (topic_order q u)) (map flagged es)) ≡ marked (cond c (Some v) (look q es))
      by true rest = refl
      by false rest = rest

  module _ (f : Topic → V) where
    abbrev value_if : Bool → Topic → Option V
    value_if any t = if any then Some (f t) else None

    -- what stands first has the value of its topic
    first_value : (t : Topic) (v : V) (any : Bool) → Some v ≡ value_if any t → v ≡ f t
    first_value t v true is = unwrap is
      where
        unwrap : Some v ≡ Some (f t) → v ≡ f t
        unwrap = λ same. ap (λ (o : Option V). elim o [ None ↦ v | Some w ↦ w ]) same
    first_value t v false is = absurd cc

    -- each has the value of its topic
    values_are : (es : List (Topic × V)) (any : Topic → Bool) → IsStrictlySortedBy topic_order (keys_of es) → ((t : Topic) → look t es ≡ value_if (any t) t) → es ≡ map (λ t. (t, f t)) (keys_of es)
    unfolding IsStrictlySortedBy
    values_are [] any sorted has = refl
    values_are ((k, v) ∷ es) any sorted has =
        ap₂ (λ (w : V) (xs : List (Topic × V)). (k, w) ∷ xs) (first_value k v (any k) (sym first ∙ has k)) (values_are es (λ t. if same_topic t k then false else any t) sorted.1 later)
      where
        first : look k ((k, v) ∷ es) ≡ Some v
        first = ap (λ (c : Bool). cond c (Some v) (look k es)) (same_order k k ∙ itself k)

        later : (t : Topic) → look t es ≡ value_if (if same_topic t k then false else any t) t
        later t = by (same_topic t k) refl
          where
            by : (c : Bool) → same_topic t k ≡ c → look t es ≡ value_if (if c then false else any t) t
            by true is = none_later t k es is sorted.0
            by false is = ap (λ (c : Bool). cond c (Some v) (look t es)) (sym (same_order t k ∙ is)) ∙ has t

    marked_value : (any : Bool) (t : Topic) → marked (value_if any t) ≡ listed_if any
    marked_value true t = refl
    marked_value false t = refl

    -- the entries of a tree that has the topics of a list, each with its value
    pub in_order : (es : List (Topic × V)) (ts : List Topic) → IsStrictlySortedBy topic_order (keys_of es) → ((t : Topic) → look t es ≡ value_if (list_any (same_topic t) ts) t) → es ≡ map (λ t. (t, f t)) (ascending ts)
    in_order es ts sorted has =
        values_are es (λ t. list_any (same_topic t) ts) sorted has
        ∙ ap (map (λ (t : Topic). (t, f t)))
        (sym (joined_flagged es)
        ∙ put_in_order ts (map flagged es) (subst (IsStrictlySortedBy topic_order) (sym (keys_flagged es)) sorted) (λ q.
        look_flagged q es ∙ ap marked (has q) ∙ marked_value (list_any (same_topic q) ts) q))

-- a topic whose row has more
pub added_on : (old new : List (Topic × Counts)) (key topic : Topic) (k : Kind) (n : ℕ) (was : Option Counts) (w : Counts) (t : Topic)
    → key ≡ topic
    → look topic old ≡ was
    → w ≡ counted (unwrap_or was no_counts) k n
    → look t new ≡ cond (is_eq (topic_order key t)) (Some w) (look t old)
    → look t new ≡ (if same_topic topic t then Some (counted (unwrap_or (look t old) no_counts) k n) else look t old)
added_on old new key topic k n was w t same found is updates =
    updates
    ∙ ap₂ (λ (b : Bool) (x : Counts). cond b (Some x) (look t old)) (ap (λ (u : Topic). is_eq (topic_order u t)) same ∙ same_order topic t) is
    ∙ by (same_topic topic t) refl
  where
    by : (b : Bool) → same_topic topic t ≡ b → cond b (Some (counted (unwrap_or was no_counts) k n)) (look t old) ≡ (if b then Some (counted (unwrap_or (look t old) no_counts) k n) else look t old)
    by true one = ap (λ (o : Option Counts). Some (counted (unwrap_or o no_counts) k n)) (sym found ∙ ap (λ (u : Topic). look u old) (one_topic topic t one))
    by false one = refl

-- an entry of a tree as a row
abbrev pub as_row : Topic × Counts → TopicCounts
as_row e = record { topic = e.0; counts = e.1 }

pub rows_in_order : (es : List (Topic × Counts)) (hs : List Happening) → IsStrictlySortedBy topic_order (keys_of es) → ((t : Topic) → look t es ≡ row_on hs t) → map as_row es ≡ map (topic_counts hs) (ascending (topics_in hs))
rows_in_order es hs sorted has =
    ap (map as_row) (in_order (λ t. row_where (λ h. is_on t h.topic) hs) es (topics_in hs) sorted has)
    ∙ both (ascending (topics_in hs))
  where
    both : (ts : List Topic) → map as_row (map (λ t. (t, row_where (λ h. is_on t h.topic) hs)) ts) ≡ map (topic_counts hs) ts
    both [] = refl
    both (t ∷ ts) = ap (λ (rows : List TopicCounts). topic_counts hs t ∷ rows) (both ts)
