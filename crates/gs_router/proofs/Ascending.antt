-- The topics of a table in order are those that the trace says, ascending.
use Rattle.std.proofs.Common.{◌≡◌, ◌<◌, ◌+◌, length, take, get_or, ℕ, Bool, true, false, cond, List, [], ◌∷◌, ◌++◌, map, filter, Option, Some, None, is_some, unwrap_or, refl, sym, ap, ap₂, subst, ◌∙◌, if◌then◌else◌}
use Rattle.std.specs.Prelude.{◌||◌, ◌&&◌, T}
use Rattle.std.specs.List.{list_any, AllByRecursion, IsDistinct}
use Rattle.std.specs.Map.{lookup, keys_of}
use Rattle.std.specs.Cmp.{IsTotalOrder}
use Rattle.std.specs.Cmp.Lexicographic.{nat_list_cmp_total}
use Rattle.std.specs.List.Sorted.{IsStrictlySortedBy}
use Rattle.std.specs.declared.cmp.Ordering.{Ordering}
use Rattle.std.specs.declared.cmp.Ordering.TheVariants.{Less, Equal, Greater}
use Rattle.std.specs.Ordering.{is_eq, is_lt}
use Rattle.std.specs.FinMap.Entries.{below_all, by_order, find, find-put, is_sorted, is_sorted-put, put, same_entries}
use Rattle.std.proofs.lemmas.Map.Text.{is_eq-slice_cmp}
use Rattle.std.proofs.lemmas.Slice.Eq.{bytes_eq-Decides}
use Rattle.std.proofs.lemmas.Cmp.{nat_list_eq_equiv}
use Rattle.std.proofs.lemmas.List.{take_more}
use Rattle.gs_base.specs.declared.names.Topic.{Topic}
use Rattle.gs_base.specs.Names.{same_topic}
use Rattle.gs_score.specs.Accounts.{Covers}
use Rattle.gs_score.specs.Standings.{Held}
use Rattle.gs_rules.specs.Tables.{Entries, ascending, joined, known, own_topics, placed, topic_order}
use Rattle.gs_rules.specs.Meshes.{ever_fanned, has_mesh, mesh_topics}
use Rattle.gs_router.specs.declared.tables.own_topics.OwnTopics.{OwnTopics}
use Rattle.gs_router.specs.declared.tables.mesh_topics.MeshOrFanout.{MeshOrFanout}
use Rattle.gs_router.specs.declared.tables.mesh_topics.MeshTopics.{MeshTopics}
use Rattle.gs_router.specs.Tables.{AgreesOnMeshTopics, AgreesOnTopics, kept_topic, neither_mesh_nor_fanout}
use Rattle.gs_router.proofs.Fanning.{used_is_listed}

-- ---- the order of topics

total : IsTotalOrder topic_order
total = record {
  antisymm = λ t u. nat_list_cmp_total.antisymm t.0 u.0;
  trans = λ t u v. nat_list_cmp_total.trans t.0 u.0 v.0;
  congr = λ t u v. nat_list_cmp_total.congr t.0 u.0 v.0;
}

same_order : (t u : Topic) → is_eq (topic_order t u) ≡ same_topic t u
same_order t u = is_eq-slice_cmp t.0 u.0

-- topics with the same bytes are one
pub one_topic : (t u : Topic) → same_topic t u ≡ true → t ≡ u
one_topic t u is = ap (λ (bytes : List ℕ). record { 0 = bytes }) ((bytes_eq-Decides t.0 u.0).0 is)

tied : (t u : Topic) → topic_order t u ≡ Equal → t ≡ u
tied t u is = one_topic t u (sym (same_order t u) ∙ ap is_eq is)

-- ---- lists of topics as maps

abbrev unit : Topic → Topic × Unit {0}
unit t = (t, tt)

abbrev units : List Topic → List (Topic × Unit {0})
units ts = map unit ts

placed_put : (t : Topic) (ts : List Topic) → units (placed t ts) ≡ put topic_order t tt (units ts)
placed_put t [] = refl
placed_put t (u ∷ us) = by (topic_order t u) (placed_put t us)
  where
    by : (o : Ordering) → units (placed t us) ≡ put topic_order t tt (units us) → units (by_order o (t ∷ u ∷ us) (u ∷ us) (u ∷ placed t us)) ≡ by_order o (unit t ∷ unit u ∷ units us) (unit u ∷ units us) (unit u ∷ put topic_order t tt (units us))
    by Less rest = refl
    by Equal rest = refl
    by Greater rest = ap (λ (es : List (Topic × Unit {0})). unit u ∷ es) rest

ascending_sorted : (ts : List Topic) → T (is_sorted topic_order (units (ascending ts)))
ascending_sorted [] = tt
ascending_sorted (t ∷ ts) = subst (λ (es : List (Topic × Unit {0})). T (is_sorted topic_order es)) (sym (placed_put t (ascending ts))) (is_sorted-put topic_order total t tt (units (ascending ts)) (ascending_sorted ts))

-- whether a topic is found
abbrev found_if : Bool → Option (Unit {0})
found_if b = if b then Some tt else None

found_first : (b c : Bool) → cond b (Some tt) (found_if c) ≡ found_if (b || c)
found_first true c = refl
found_first false c = refl

ascending_finds : (q : Topic) (ts : List Topic) → find topic_order q (units (ascending ts)) ≡ found_if (list_any (same_topic q) ts)
ascending_finds q [] = refl
ascending_finds q (t ∷ ts) =
    ap (find topic_order q) (placed_put t (ascending ts))
    ∙ find-put topic_order total q t tt (units (ascending ts))
    ∙ ap₂ (λ (b : Bool) (o : Option (Unit {0})). cond b (Some tt) o) (same_order q t) (ascending_finds q ts)
    ∙ found_first (same_topic q t) (list_any (same_topic q) ts)

list_finds : (q : Topic) (ts : List Topic) → find topic_order q (units ts) ≡ found_if (list_any (same_topic q) ts)
list_finds q [] = refl
list_finds q (t ∷ ts) =
    ap₂ (λ (b : Bool) (o : Option (Unit {0})). cond b (Some tt) o) (same_order q t) (list_finds q ts) ∙ found_first (same_topic q t) (list_any (same_topic q) ts)

-- a list that ascends is the ascending list of its members
units_back : (ts : List Topic) → map (λ (e : Topic × Unit {0}). e.0) (units ts) ≡ ts
units_back [] = refl
units_back (t ∷ ts) = ap (λ (us : List Topic). t ∷ us) (units_back ts)

ascending_alone : (ts us : List Topic) → T (is_sorted topic_order (units ts)) → ((q : Topic) → list_any (same_topic q) ts ≡ list_any (same_topic q) us) → ts ≡ ascending us
ascending_alone ts us sorted same =
    sym (units_back ts)
    ∙ ap (map (λ (e : Topic × Unit {0}). e.0)) (same_entries topic_order total tied (units ts) (units (ascending us)) sorted (ascending_sorted us) (λ q. list_finds q ts ∙ ap found_if (same q) ∙ sym (ascending_finds q us)))
    ∙ units_back (ascending us)

-- ---- the topics of a table

-- those whose value passes a test
abbrev pub passing_in : {V : Type 0} → (V → Bool) → List (Topic × V) → List Topic
passing_in {V} test es = map (λ (e : Topic × V). e.0) (filter (λ (e : Topic × V). test e.1) es)

-- those with a true value
abbrev pub joined_in : List (Topic × Bool) → List Topic
joined_in es = map (λ (e : Topic × Bool). e.0) (filter (λ (e : Topic × Bool). e.1) es)

both_true : (a b : Bool) → T a → T b → T (a && b)
both_true true b p q = q
both_true false b p q = absurd p

-- a value that was found passes, or none was
abbrev passes : {V : Type 0} → (V → Bool) → Option V → Bool
passes test None = false
passes test (Some v) = test v

module _ {V : Type 0} (test : V → Bool) where
  below_passing : (t : Topic) (es : List (Topic × V)) → AllByRecursion (λ u. topic_order t u ≡ Less) (keys_of es) → T (below_all topic_order t (units (passing_in test es)))
  below_passing t [] h = tt
  below_passing t ((u, v) ∷ es) h = by (test v) (below_passing t es h.1)
    where
      by : (b : Bool) → T (below_all topic_order t (units (passing_in test es))) → T (below_all topic_order t (units (map (λ (e : Topic × V). e.0) (cond b ((u, v) ∷ filter (λ (e : Topic × V). test e.1) es) (filter (λ (e : Topic × V). test e.1) es)))))
      by true rest = both_true (is_lt (topic_order t u)) (below_all topic_order t (units (passing_in test es))) (subst (λ (o : Ordering). T (is_lt o)) (sym h.0) tt) rest
      by false rest = rest

  passing_sorted : (es : List (Topic × V)) → IsStrictlySortedBy topic_order (keys_of es) → T (is_sorted topic_order (units (passing_in test es)))
  unfolding IsStrictlySortedBy
  passing_sorted [] h = tt
  passing_sorted ((u, v) ∷ es) h = by (test v) (below_passing u es h.0) (passing_sorted es h.1)
    where
      by : (b : Bool) → T (below_all topic_order u (units (passing_in test es))) → T (is_sorted topic_order (units (passing_in test es))) → T (is_sorted topic_order (units (map (λ (e : Topic × V). e.0) (cond b ((u, v) ∷ filter (λ (e : Topic × V). test e.1) es) (filter (λ (e : Topic × V). test e.1) es)))))
      by true below rest = both_true (below_all topic_order u (units (passing_in test es))) (is_sorted topic_order (units (passing_in test es))) below rest
      by false below rest = rest

  -- a topic that stands first is none of those that come later
  none_later : (q t : Topic) (es : List (Topic × V)) → same_topic q t ≡ true → AllByRecursion (λ u. topic_order t u ≡ Less) (keys_of es) → list_any (same_topic q) (passing_in test es) ≡ false
  none_later q t [] is h = refl
  none_later q t ((u, v) ∷ es) is h = by (test v) (none_later q t es is h.1)
    where
      apart : same_topic q u ≡ false
      apart = sym (same_order q u) ∙ ap (λ (w : Topic). is_eq (topic_order w u)) (one_topic q t is) ∙ ap is_eq h.0

      by : (b : Bool) → list_any (same_topic q) (passing_in test es) ≡ false → list_any (same_topic q) (map (λ (e : Topic × V). e.0) (cond b ((u, v) ∷ filter (λ (e : Topic × V). test e.1) es) (filter (λ (e : Topic × V). test e.1) es))) ≡ false
      by true rest = ap₂ (λ (a b : Bool). a || b) apart rest
      by false rest = rest

  passing_finds : (q : Topic) (es : List (Topic × V)) → IsStrictlySortedBy topic_order (keys_of es) → list_any (same_topic q) (passing_in test es) ≡ passes test (lookup (λ u. is_eq (topic_order q u)) es)
  unfolding IsStrictlySortedBy
  passing_finds q [] h = refl
  passing_finds q ((t, v) ∷ es) h = by (same_topic q t) refl (test v) refl (passing_finds q es h.1) ∙ ap (λ (c : Bool). passes test (cond c (Some v) (lookup (λ u. is_eq (topic_order q u)) es))) (sym (same_order q t))
    where
      by : (same : Bool) → same_topic q t ≡ same → (b : Bool) → test v ≡ b → list_any (same_topic q) (passing_in test es) ≡ passes test (lookup (λ u. is_eq (topic_order q u)) es)
          → list_any (same_topic q) (map (λ (e : Topic × V). e.0) (cond b ((t, v) ∷ filter (λ (e : Topic × V). test e.1) es) (filter (λ (e : Topic × V). test e.1) es))) ≡ passes test (cond same (Some v) (lookup (λ u. is_eq (topic_order q u)) es))
      by true is true passing rest = ap (λ (c : Bool). c || list_any (same_topic q) (passing_in test es)) is ∙ sym passing
      by true is false passing rest = none_later q t es is h.0 ∙ sym passing
      by false is true passing rest = ap (λ (c : Bool). c || list_any (same_topic q) (passing_in test es)) is ∙ rest
      by false is false passing rest = rest

-- ---- the topics of a trace

-- what passes a test, where that asks only for a topic's bytes
filter_finds : (test : Topic → Bool) (q : Topic) (ts : List Topic) → list_any (same_topic q) (filter test ts) ≡ (list_any (same_topic q) ts && test q)
filter_finds test q [] = refl
filter_finds test q (t ∷ ts) = by (same_topic q t) refl (test t) refl (filter_finds test q ts)
  where
    by : (same : Bool) → same_topic q t ≡ same → (passes : Bool) → test t ≡ passes → list_any (same_topic q) (filter test ts) ≡ (list_any (same_topic q) ts && test q)
        → list_any (same_topic q) (cond passes (t ∷ filter test ts) (filter test ts)) ≡ ((same || list_any (same_topic q) ts) && test q)
    by true is true passes rest = ap (λ (c : Bool). c || list_any (same_topic q) (filter test ts)) is ∙ sym (ap test (one_topic q t is) ∙ passes)
    by true is false passes rest = rest ∙ ap (λ (c : Bool). list_any (same_topic q) ts && c) (ap test (one_topic q t is) ∙ passes) ∙ never (list_any (same_topic q) ts) ∙ sym (ap test (one_topic q t is) ∙ passes)
      where
        never : (b : Bool) → (b && false) ≡ false
        never true = refl
        never false = refl
    by false is true passes rest = ap (λ (c : Bool). c || list_any (same_topic q) (filter test ts)) is ∙ rest
    by false is false passes rest = rest

-- a topic that is joined is known
joined_known : (known_one is_joined : Bool) (o : Option Bool) → is_some o ≡ known_one → unwrap_or o false ≡ is_joined → is_joined ≡ (known_one && is_joined)
joined_known true b o some is = refl
joined_known false true None some is = absurd cc
joined_known false true (Some b) some is = absurd cc
joined_known false false o some is = refl

true_passes : (o : Option Bool) → passes (λ (b : Bool). b) o ≡ unwrap_or o false
true_passes None = refl
true_passes (Some b) = refl

pub listed_so : (own : OwnTopics) (L : Entries) → IsStrictlySortedBy topic_order (keys_of own.topics.entries) → AgreesOnTopics own L → joined_in own.topics.entries ≡ own_topics L
listed_so own L sorted agrees =
    ascending_alone (joined_in own.topics.entries) (filter (joined L) (known L)) (passing_sorted (λ (b : Bool). b) own.topics.entries sorted) (λ q.
    passing_finds (λ (b : Bool). b) q own.topics.entries sorted
    ∙ true_passes (kept_topic own q)
    ∙ agrees.joins q
    ∙ joined_known (list_any (same_topic q) (known L)) (joined L q) (kept_topic own q) (agrees.knows q) (agrees.joins q)
    ∙ sym (filter_finds (joined L) q (known L)))

-- ---- the topics that have a mesh or a fanout

abbrev pub is_used : MeshOrFanout → Bool
is_used mesh_or_fanout = mesh_or_fanout.has_mesh || mesh_or_fanout.has_fanout

abbrev pub used_in : List (Topic × MeshOrFanout) → List Topic
used_in es = passing_in is_used es

used_passes : (o : Option MeshOrFanout) → passes is_used o ≡ is_used (unwrap_or o neither_mesh_nor_fanout)
used_passes None = refl
used_passes (Some mesh_or_fanout) = refl

pub used_so : (table : MeshTopics) (L : Entries) → IsStrictlySortedBy topic_order (keys_of table.topics.entries) → AgreesOnMeshTopics table L → used_in table.topics.entries ≡ mesh_topics L
used_so table L sorted agrees =
    ascending_alone (used_in table.topics.entries) (filter (has_mesh L) (known L ++ ever_fanned L)) (passing_sorted is_used table.topics.entries sorted) (λ q.
    passing_finds is_used q table.topics.entries sorted
    ∙ used_passes (lookup (λ u. is_eq (topic_order q u)) table.topics.entries)
    ∙ ap is_used (agrees.mesh_or_fanout q)
    ∙ used_is_listed L q
    ∙ sym (filter_finds (has_mesh L) q (known L ++ ever_fanned L)))

-- ---- topics put in order

-- whether a list of topics finds one, as a tree with `true` at each of them would
abbrev pub listed_if : Bool → Option Bool
listed_if b = if b then Some true else None

listed_more : (b c : Bool) → cond c (Some true) (listed_if b) ≡ listed_if (b || c)
listed_more true true = refl
listed_more true false = refl
listed_more false true = refl
listed_more false false = refl

listed_passes : (b : Bool) → passes (λ (x : Bool). x) (listed_if b) ≡ b
listed_passes true = refl
listed_passes false = refl

-- whether a topic stands in a list with one more
any_more : (q t : Topic) (ts : List Topic) → list_any (same_topic q) (ts ++ t ∷ []) ≡ (list_any (same_topic q) ts || same_topic q t)
any_more q t [] = or_false (same_topic q t)
  where
    or_false : (b : Bool) → (b || false) ≡ b
    or_false true = refl
    or_false false = refl
any_more q t (u ∷ us) = ap (λ (b : Bool). same_topic q u || b) (any_more q t us) ∙ or_assoc (same_topic q u) (list_any (same_topic q) us) (same_topic q t)
  where
    or_assoc : (a b c : Bool) → (a || (b || c)) ≡ ((a || b) || c)
    or_assoc true b c = refl
    or_assoc false b c = refl

abbrev look : List (Topic × Bool) → Topic → Option Bool
look es q = lookup (λ u. is_eq (topic_order q u)) es

-- a tree that has those that stand in a list, and one more
pub listed_after : (ts : List Topic) (i : ℕ) (t key : Topic) (old new : List (Topic × Bool)) → i < length ts → t ≡ get_or ts i t → key ≡ t
    → ((q : Topic) → look new q ≡ cond (is_eq (topic_order key q)) (Some true) (look old q))
    → ((q : Topic) → look old q ≡ listed_if (list_any (same_topic q) (take i ts)))
    → (q : Topic) → look new q ≡ listed_if (list_any (same_topic q) (take (i + 1) ts))
listed_after ts i t key old new below is same updates before q =
    updates q
    ∙ ap₂ (λ (b : Bool) (o : Option Bool). cond b (Some true) o) (same_order key q ∙ ap (λ (u : Topic). same_topic u q) same ∙ nat_list_eq_equiv.symm t.0 q.0) (before q)
    ∙ listed_more (list_any (same_topic q) (take i ts)) (same_topic q t)
    ∙ ap listed_if (sym (any_more q t (take i ts)))
    ∙ ap (λ (us : List Topic). listed_if (list_any (same_topic q) us)) (sym (take_more ts i t below ∙ ap (λ (u : Topic). take i ts ++ u ∷ []) (sym is)))

-- what a tree lists that has just these topics
pub put_in_order : (ts : List Topic) (es : List (Topic × Bool)) → IsStrictlySortedBy topic_order (keys_of es)
    → ((q : Topic) → lookup (λ u. is_eq (topic_order q u)) es ≡ listed_if (list_any (same_topic q) ts))
    → joined_in es ≡ ascending ts
put_in_order ts es sorted has =
    ascending_alone (joined_in es) ts (passing_sorted (λ (b : Bool). b) es sorted) (λ q.
    passing_finds (λ (b : Bool). b) q es sorted ∙ ap (passes (λ (b : Bool). b)) (has q) ∙ listed_passes (list_any (same_topic q) ts))

pub any_ascending : (q : Topic) (ts : List Topic) → list_any (same_topic q) (ascending ts) ≡ list_any (same_topic q) ts
any_ascending q ts = both (list_any (same_topic q) (ascending ts)) (list_any (same_topic q) ts) (sym (list_finds q (ascending ts)) ∙ ascending_finds q ts)
  where
    both : (a b : Bool) → found_if a ≡ found_if b → a ≡ b
    both true true is = refl
    both false false is = refl
    both true false is = absurd cc
    both false true is = absurd cc

-- lists with the same members have one ascending list
pub one_ascending : (ts us : List Topic) → ((q : Topic) → list_any (same_topic q) ts ≡ list_any (same_topic q) us) → ascending ts ≡ ascending us
one_ascending ts us same =
    ascending_alone (ascending ts) us (ascending_sorted ts) (λ q. any_ascending q ts ∙ same q)

-- no topic of an ascending list is one that comes later
none_below : (t : Topic) (ts : List Topic) → T (below_all topic_order t (units ts)) → AllByRecursion (λ u. same_topic t u ≡ false) ts
none_below t [] below = tt
none_below t (u ∷ us) below = by (topic_order t u) refl below (none_below t us)
  where
    by : (o : Ordering) → topic_order t u ≡ o → T (is_lt o && below_all topic_order t (units us)) → (T (below_all topic_order t (units us)) → AllByRecursion (λ v. same_topic t v ≡ false) us) → AllByRecursion (λ v. same_topic t v ≡ false) (u ∷ us)
    by Less is rest later = (sym (same_order t u) ∙ ap is_eq is, later rest)
    by Equal is rest later = absurd rest
    by Greater is rest later = absurd rest

second : (a b : Bool) → T (a && b) → T b
second true b p = p
second false b p = absurd p

first : (a b : Bool) → T (a && b) → T a
first true b p = tt
first false b p = absurd p

distinct_if_sorted : (ts : List Topic) → T (is_sorted topic_order (units ts)) → IsDistinct same_topic ts
unfolding IsDistinct
distinct_if_sorted [] sorted = tt
distinct_if_sorted (t ∷ ts) sorted =
    (none_below t ts (first (below_all topic_order t (units ts)) (is_sorted topic_order (units ts)) sorted), distinct_if_sorted ts (second (below_all topic_order t (units ts)) (is_sorted topic_order (units ts)) sorted))

-- topics that leave none out leave none out in their order
pub ascending_covers : (at : Topic → Held) (ts : List Topic) → Covers at ts → Covers at (ascending ts)
ascending_covers at ts covers = record {
  apart = distinct_if_sorted (ascending ts) (ascending_sorted ts);
  all = λ t none. covers.all t (sym (any_ascending t ts) ∙ none);
}
