-- Tables show happenings and sizes of meshes, whichever of their last two parts comes first.
use Rattle.std.proofs.Common.{◌≡◌, ℕ, ◌+◌, min, pos, Bool, true, nat_eq, if◌then◌else◌, List, ◌++◌, filter, fold, length, map, sym, ap, ap₂, ◌∙◌}
use Rattle.std.specs.Prelude.{Some, None, option_to_list}
use Rattle.std.specs.List.{list_any, range_with_len, sum_by}
use Rattle.std.proofs.lemmas.Grind.{flat_map-append}
use Rattle.std.proofs.lemmas.List.{map-append}
use Rattle.std.proofs.lemmas.List.Elements.{filter-append}
use Rattle.std.proofs.lemmas.List.Sorted.{IsPermutation-append_comm, IsPermutation-append_right, list_any-IsPermutation, sum_by-IsPermutation}
use Rattle.std.proofs.lemmas.List.Sums.{fold-append}
use Rattle.gs_base.specs.declared.names.Topic.{Topic}
use Rattle.gs_base.specs.Names.{same_topic}
use Rattle.gs_plan.specs.declared.plan.Plan.{Plan}
use Rattle.gs_counts.specs.declared.counts.Counts.{Counts}
use Rattle.gs_counts.specs.declared.happening.Happening.{Happening}
use Rattle.gs_counts.specs.declared.kind.Kind.{Kind}
use Rattle.gs_counts.specs.declared.tables.Tables.{Tables}
use Rattle.gs_counts.specs.Kinds.{all_kinds}
use Rattle.gs_counts.specs.Meshes.{span_of, widened}
use Rattle.gs_counts.specs.Rows.{amount_in, most_told, row_of, row_where}
use Rattle.gs_counts.specs.Standing.{MeshSize, Shows, goes_over, is_at, is_in, is_on, link_of, peer_no, round_at, row_on, span_in, topics_in}
use Rattle.gs_counts.proofs.Adding.{adds, all_add, amount_is}
use Rattle.gs_counts.proofs.Moving.{IsMovable}
use Rattle.gs_counts.proofs.Spans.{fold_turned}

-- ---- rows

sum_turned : {A : Type 0} (f : A → ℕ) (a b c : List A) → sum_by f (a ++ (b ++ c)) ≡ sum_by f (a ++ (c ++ b))
sum_turned f a b c =
    sum_by-IsPermutation f (a ++ (c ++ b)) (a ++ (b ++ c)) (IsPermutation-append_right a (c ++ b) (b ++ c) (IsPermutation-append_comm c b))

module _ (a b c : List Happening) where
  amount_turned : (stands : Happening → Bool) (kind : Kind) → amount_in (filter stands (a ++ (b ++ c))) kind ≡ amount_in (filter stands (a ++ (c ++ b))) kind
  amount_turned stands kind =
      all_add stands kind (a ++ (b ++ c))
      ∙ sum_turned (adds stands kind) a b c
      ∙ sym (all_add stands kind (a ++ (c ++ b)))

  whole_amount_turned : (kind : Kind) → amount_in (a ++ (b ++ c)) kind ≡ amount_in (a ++ (c ++ b)) kind
  whole_amount_turned kind =
      amount_is kind (a ++ (b ++ c))
      ∙ sum_turned (adds (λ (h : Happening). true) kind) a b c
      ∙ sym (amount_is kind (a ++ (c ++ b)))

  row_turned : (stands : Happening → Bool) → row_where stands (a ++ (b ++ c)) ≡ row_where stands (a ++ (c ++ b))
  row_turned stands = λ i. record { amounts = map (λ kind. min (amount_turned stands kind i) most_told) all_kinds }

  whole_turned : row_of (a ++ (b ++ c)) ≡ row_of (a ++ (c ++ b))
  whole_turned = λ i. record { amounts = map (λ kind. min (whole_amount_turned kind i) most_told) all_kinds }

-- ---- rows of topics

topics_parted : (a b c : List Happening) → topics_in (a ++ (b ++ c)) ≡ topics_in a ++ (topics_in b ++ topics_in c)
topics_parted a b c =
    flat_map-append (λ (h : Happening). option_to_list h.topic) a (b ++ c)
    ∙ ap (λ (ts : List Topic). topics_in a ++ ts) (flat_map-append (λ (h : Happening). option_to_list h.topic) b c)

any_turned : (t : Topic) (a b c : List Happening) → list_any (same_topic t) (topics_in (a ++ (b ++ c))) ≡ list_any (same_topic t) (topics_in (a ++ (c ++ b)))
any_turned t a b c =
    ap (list_any (same_topic t)) (topics_parted a b c)
    ∙ list_any-IsPermutation (same_topic t) (topics_in a ++ (topics_in b ++ topics_in c)) (topics_in a ++ (topics_in c ++ topics_in b)) (IsPermutation-append_right (topics_in a) (topics_in b ++ topics_in c) (topics_in c ++ topics_in b) (IsPermutation-append_comm (topics_in b) (topics_in c)))
    ∙ ap (list_any (same_topic t)) (sym (topics_parted a c b))

row_on_turned : (t : Topic) (a b c : List Happening) → row_on (a ++ (b ++ c)) t ≡ row_on (a ++ (c ++ b)) t
row_on_turned t a b c =
    ap₂ (λ (any : Bool) (row : Counts). if any then Some row else None) (any_turned t a b c) (row_turned a b c (λ h. is_on t h.topic))

-- ---- sizes of meshes

module _ (round_ms r : ℕ) where
  abbrev lies : MeshSize → Bool
  lies x = nat_eq (round_at round_ms x.0) r

  span_parted : (a b c : List MeshSize) → span_in round_ms r (a ++ (b ++ c)) ≡ fold widened (fold widened (span_in round_ms r a) (map (λ (x : MeshSize). pos x.1) (filter lies b))) (map (λ (x : MeshSize). pos x.1) (filter lies c))
  span_parted a b c =
      ap (λ (xs : List MeshSize). span_of (map (λ x. pos x.1) xs)) (filter-append lies a (b ++ c) ∙ ap (λ (xs : List MeshSize). filter lies a ++ xs) (filter-append lies b c))
      ∙ ap span_of (map-append (λ (x : MeshSize). pos x.1) (filter lies a) (filter lies b ++ filter lies c) ∙ ap (λ xs. map (λ (x : MeshSize). pos x.1) (filter lies a) ++ xs) (map-append (λ (x : MeshSize). pos x.1) (filter lies b) (filter lies c)))
      ∙ fold-append widened None (map (λ (x : MeshSize). pos x.1) (filter lies a)) (map (λ (x : MeshSize). pos x.1) (filter lies b) ++ map (λ (x : MeshSize). pos x.1) (filter lies c))
      ∙ fold-append widened (span_in round_ms r a) (map (λ (x : MeshSize). pos x.1) (filter lies b)) (map (λ (x : MeshSize). pos x.1) (filter lies c))

  span_turned : (a b c : List MeshSize) → span_in round_ms r (a ++ (b ++ c)) ≡ span_in round_ms r (a ++ (c ++ b))
  span_turned a b c =
      span_parted a b c
      ∙ fold_turned (span_in round_ms r a) (map (λ (x : MeshSize). pos x.1) (filter lies b)) (map (λ (x : MeshSize). pos x.1) (filter lies c))
      ∙ sym (span_parted a c b)

-- ---- all tables

module _ (plan : Plan) (tables : Tables) where
  pub shown_turned : (sizes : List MeshSize) → IsMovable (λ hs. Shows plan tables hs sizes)
  shown_turned sizes a b c was = record {
    round_ms = was.round_ms;
    peers = was.peers ∙ (λ i. map (λ n. row_turned a b c (is_at (peer_no n)) i) (range_with_len 0 (length plan.peers)));
    rounds = was.rounds ∙ (λ i. map (λ r. row_turned a b c (is_in plan.round_ms r) i) (range_with_len 0 (plan.rounds + 1)));
    spans = was.spans;
    links = λ p q. was.links p q ∙ row_turned a b c (λ h. goes_over p q (link_of h));
    topics = λ t. was.topics t ∙ row_on_turned t a b c;
    all = was.all ∙ whole_turned a b c;
  }

  pub sizes_turned : (hs : List Happening) → IsMovable (λ sizes. Shows plan tables hs sizes)
  sizes_turned hs a b c was = record {
    round_ms = was.round_ms;
    peers = was.peers;
    rounds = was.rounds;
    spans = was.spans ∙ (λ i. map (λ r. span_turned plan.round_ms r a b c i) (range_with_len 0 (plan.rounds + 1)));
    links = was.links;
    topics = was.topics;
    all = was.all;
  }
