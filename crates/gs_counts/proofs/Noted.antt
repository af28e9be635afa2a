-- Tables after one happening more.
use Rattle.std.proofs.Common.{◌≡◌, ℕ, ◌+◌, ◌<◌, Bool, true, false, nat_eq, if◌then◌else◌, List, [], ◌∷◌, ◌++◌, filter, get_or, length, map, pos, take, refl, sym, ap, ap₂, ◌∙◌, append-nil, append_assoc}
use Rattle.std.specs.Prelude.{◌||◌, Option, None, Some, option_to_list, unwrap_or}
use Rattle.std.specs.List.{list_any}
use Rattle.std.proofs.lemmas.Cmp.{nat_list_eq_equiv}
use Rattle.std.proofs.lemmas.Grind.{flat_map-append}
use Rattle.std.proofs.lemmas.List.{map-append, take_more}
use Rattle.std.proofs.lemmas.List.Elements.{filter-append}
use Rattle.std.proofs.lemmas.List.Folds.{list_any-append}
use Rattle.std.proofs.lemmas.List.Sums.{fold-append}
use Rattle.gs_base.specs.declared.names.PeerNo.{PeerNo}
use Rattle.gs_base.specs.declared.names.Topic.{Topic}
use Rattle.gs_base.specs.Names.{same_topic}
use Rattle.gs_plan.specs.declared.plan.Plan.{Plan}
use Rattle.gs_counts.specs.declared.counts.Counts.{Counts}
use Rattle.gs_counts.specs.declared.happening.Happening.{Happening}
use Rattle.gs_counts.specs.declared.span.Span.{Span}
use Rattle.gs_counts.specs.declared.tables.Tables.{Tables}
use Rattle.gs_counts.specs.Meshes.{span_of, widened}
use Rattle.gs_counts.specs.Rows.{counted, no_counts, row_of, row_where}
use Rattle.gs_counts.specs.Standing.{MeshSize, Shows, added_at, empty_rows, goes_over, is_at, is_in, is_on, link_of, link_row, no_spans, over, peer_no, peer_rows, round_at, round_rows, row_on, span_in, topic_row, topics_in, widened_at, with_more}
use Rattle.gs_counts.proofs.OneMore.{row_if, row_more}
use Rattle.gs_counts.proofs.Places.{changed}

module _ (hs : List Happening) (h : Happening) where
  abbrev more : List Happening
  more = hs ++ h ∷ []

  -- ---- by numbers

  peers_more : (count : ℕ) → added_at (peer_rows count hs) h.peer.0 h.kind h.amount ≡ peer_rows count more
  peers_more count =
      changed (with_more h.kind h.amount) (λ n. row_where (is_at (peer_no n)) hs) (λ n. row_where (is_at (peer_no n)) more) h.peer.0 (λ n is. row_if (is_at (peer_no n)) hs h true is) (λ n is. row_if (is_at (peer_no n)) hs h false is) count

  rounds_more : (round_ms count : ℕ) → added_at (round_rows round_ms count hs) (round_at round_ms h.at) h.kind h.amount ≡ round_rows round_ms count more
  rounds_more round_ms count =
      changed (with_more h.kind h.amount) (λ r. row_where (is_in round_ms r) hs) (λ r. row_where (is_in round_ms r) more) (round_at round_ms h.at) (λ r is. row_if (is_in round_ms r) hs h true is) (λ r is. row_if (is_in round_ms r) hs h false is) count

  -- ---- by links

  links_more : (p q : PeerNo) → over more p q ≡ (if goes_over p q (link_of h) then counted (over hs p q) h.kind h.amount else over hs p q)
  links_more p q = row_if (λ x. goes_over p q (link_of x)) hs h (goes_over p q (link_of h)) refl

  -- ---- by topics

  topics_more : topics_in more ≡ topics_in hs ++ option_to_list h.topic
  topics_more =
      flat_map-append (λ (x : Happening). option_to_list x.topic) hs (h ∷ [])
      ∙ ap (λ (ts : List Topic). topics_in hs ++ ts) (append-nil (option_to_list h.topic))

  or_false : (b : Bool) → (b || false) ≡ b
  or_false true = refl
  or_false false = refl

  named : (t : Topic) (o : Option Topic) → list_any (same_topic t) (option_to_list o) ≡ is_on t o
  named t None = refl
  named t (Some u) = or_false (same_topic t u) ∙ nat_list_eq_equiv.symm t.0 u.0

  any_more : (t : Topic) → list_any (same_topic t) (topics_in more) ≡ (list_any (same_topic t) (topics_in hs) || is_on t h.topic)
  any_more t =
      ap (list_any (same_topic t)) topics_more
      ∙ list_any-append (same_topic t) (topics_in hs) (option_to_list h.topic)
      ∙ ap (λ (b : Bool). list_any (same_topic t) (topics_in hs) || b) (named t h.topic)

-- nothing stands in the row of a topic that nothing is on
none_on : (t : Topic) (hs : List Happening) → list_any (same_topic t) (topics_in hs) ≡ false → filter (λ x. is_on t x.topic) hs ≡ []
none_on t [] none = refl
none_on t (h ∷ hs) none = by (list_any (same_topic t) (option_to_list h.topic)) (list_any (same_topic t) (topics_in hs)) (is_on t h.topic) (named [] h t h.topic) refl (sym (list_any-append (same_topic t) (option_to_list h.topic) (topics_in hs)) ∙ none) (none_on t hs)
  where
    by : (a b c : Bool) → a ≡ c → list_any (same_topic t) (topics_in hs) ≡ b → (a || b) ≡ false → (list_any (same_topic t) (topics_in hs) ≡ false → filter (λ x. is_on t x.topic) hs ≡ []) → (if c then h ∷ filter (λ x. is_on t x.topic) hs else filter (λ x. is_on t x.topic) hs) ≡ []
    by true b c same is clash rest = absurd cc
    by false true c same is clash rest = absurd cc
    by false false true same is clash rest = absurd cc
    by false false false same is clash rest = rest is

pub topic_more : (t : Topic) (hs : List Happening) (h : Happening) → row_on (hs ++ h ∷ []) t ≡ (if is_on t h.topic then Some (counted (unwrap_or (row_on hs t) no_counts) h.kind h.amount) else row_on hs t)
topic_more t hs h = by (list_any (same_topic t) (topics_in hs)) refl (is_on t h.topic) refl
  where
    row : List Happening → Counts
    row xs = row_where (λ x. is_on t x.topic) xs

    by : (any : Bool) → list_any (same_topic t) (topics_in hs) ≡ any → (on : Bool) → is_on t h.topic ≡ on → row_on (hs ++ h ∷ []) t ≡ (if on then Some (counted (unwrap_or (row_on hs t) no_counts) h.kind h.amount) else row_on hs t)
    by true any true on =
        ap (λ (b : Bool). if b then Some (row (hs ++ h ∷ [])) else None) (any_more hs h t ∙ ap (λ (b : Bool). b || is_on t h.topic) any)
        ∙ ap (λ (c : Counts). Some c) (row_if (λ x. is_on t x.topic) hs h true on)
        ∙ ap (λ (b : Bool). Some (counted (unwrap_or (if b then Some (row hs) else None) no_counts) h.kind h.amount)) (sym any)
    by false any true on =
        ap (λ (b : Bool). if b then Some (row (hs ++ h ∷ [])) else None) (any_more hs h t ∙ ap₂ (λ (b c : Bool). b || c) any on)
        ∙ ap (λ (c : Counts). Some c) (row_if (λ x. is_on t x.topic) hs h true on)
        ∙ ap (λ (xs : List Happening). Some (counted (row_of xs) h.kind h.amount)) (none_on t hs any)
        ∙ ap (λ (b : Bool). Some (counted (unwrap_or (if b then Some (row hs) else None) no_counts) h.kind h.amount)) (sym any)
    by any is false on =
        ap (λ (b : Bool). if b then Some (row (hs ++ h ∷ [])) else None) (any_more hs h t ∙ ap₂ (λ (b c : Bool). b || c) is on ∙ or_false hs h any)
        ∙ ap (λ (c : Counts). if any then Some c else None) (row_if (λ x. is_on t x.topic) hs h false on)
        ∙ ap (λ (b : Bool). if b then Some (row hs) else None) (sym is)

-- ---- all tables

pub noted : (plan : Plan) (old new : Tables) (hs : List Happening) (sizes : List MeshSize) (h : Happening)
    → Shows plan old hs sizes
    → new.round_ms ≡ old.round_ms
    → new.all ≡ counted old.all h.kind h.amount
    → new.peers.items ≡ added_at old.peers.items h.peer.0 h.kind h.amount
    → new.rounds.items ≡ added_at old.rounds.items (round_at old.round_ms h.at) h.kind h.amount
    → new.spans.items ≡ old.spans.items
    → ((p q : PeerNo) → link_row new.links p q ≡ (if goes_over p q (link_of h) then counted (link_row old.links p q) h.kind h.amount else link_row old.links p q))
    → ((t : Topic) → topic_row new.topics t ≡ (if is_on t h.topic then Some (counted (unwrap_or (topic_row old.topics t) no_counts) h.kind h.amount) else topic_row old.topics t))
    → Shows plan new (hs ++ h ∷ []) sizes
noted plan old new hs sizes h was round_ms all peers rounds spans links topics = record {
  round_ms = round_ms ∙ was.round_ms;
  peers = peers ∙ ap (λ (rows : List Counts). added_at rows h.peer.0 h.kind h.amount) was.peers ∙ peers_more hs h (length plan.peers);
  rounds = rounds
      ∙ ap₂ (λ (rows : List Counts) (ms : ℕ). added_at rows (round_at ms h.at) h.kind h.amount) was.rounds was.round_ms
      ∙ rounds_more hs h plan.round_ms (plan.rounds + 1);
  spans = spans ∙ was.spans;
  links = λ p q.
      links p q
      ∙ ap (λ (row : Counts). if goes_over p q (link_of h) then counted row h.kind h.amount else row) (was.links p q)
      ∙ sym (links_more hs h p q);
  topics = λ t.
      topics t
      ∙ ap (λ (o : Option Counts). if is_on t h.topic then Some (counted (unwrap_or o no_counts) h.kind h.amount) else o) (was.topics t)
      ∙ sym (topic_more t hs h);
  all = all ∙ ap (λ (row : Counts). counted row h.kind h.amount) was.all ∙ sym (row_more hs h);
}

-- ---- sizes of meshes

span_if : (round_ms r : ℕ) (sizes : List MeshSize) (x : MeshSize) (b : Bool) → nat_eq (round_at round_ms x.0) r ≡ b → span_in round_ms r (sizes ++ x ∷ []) ≡ (if b then widened (span_in round_ms r sizes) (pos x.1) else span_in round_ms r sizes)
span_if round_ms r sizes x b is =
    ap (λ (xs : List MeshSize). span_of (map (λ y. pos y.1) xs)) (filter-append lies sizes (x ∷ []))
    ∙ ap (λ (c : Bool). span_of (map (λ (y : MeshSize). pos y.1) (filter lies sizes ++ (if c then x ∷ [] else [])))) is
    ∙ by b
  where
    lies : MeshSize → Bool
    lies y = nat_eq (round_at round_ms y.0) r

    by : (c : Bool) → span_of (map (λ (y : MeshSize). pos y.1) (filter lies sizes ++ (if c then x ∷ [] else []))) ≡ (if c then widened (span_in round_ms r sizes) (pos x.1) else span_in round_ms r sizes)
    by true =
        ap span_of (map-append (λ (y : MeshSize). pos y.1) (filter lies sizes) (x ∷ []))
        ∙ fold-append widened None (map (λ (y : MeshSize). pos y.1) (filter lies sizes)) (pos x.1 ∷ [])
    by false = ap (λ (xs : List MeshSize). span_of (map (λ (y : MeshSize). pos y.1) xs)) (append-nil (filter lies sizes))

pub size_noted : (plan : Plan) (old new : Tables) (hs : List Happening) (sizes : List MeshSize) (x : MeshSize)
    → Shows plan old hs sizes
    → new ≡ record old { spans = new.spans }
    → new.spans.items ≡ widened_at old.spans.items (round_at old.round_ms x.0) x.1
    → Shows plan new hs (sizes ++ x ∷ [])
size_noted plan old new hs sizes x was same spans = record {
  round_ms = ap (λ (t : Tables). t.round_ms) same ∙ was.round_ms;
  peers = ap (λ (t : Tables). t.peers.items) same ∙ was.peers;
  rounds = ap (λ (t : Tables). t.rounds.items) same ∙ was.rounds;
  spans = spans
      ∙ ap₂ (λ (rows : List (Option Span)) (ms : ℕ). widened_at rows (round_at ms x.0) x.1) was.spans was.round_ms
      ∙ changed (λ span. widened span (pos x.1)) (λ r. span_in plan.round_ms r sizes) (λ r. span_in plan.round_ms r (sizes ++ x ∷ [])) (round_at plan.round_ms x.0) (λ r is. span_if plan.round_ms r sizes x true is) (λ r is. span_if plan.round_ms r sizes x false is) (plan.rounds + 1);
  links = λ p q. ap (λ (t : Tables). link_row t.links p q) same ∙ was.links p q;
  topics = λ t. ap (λ (s : Tables). topic_row s.topics t) same ∙ was.topics t;
  all = ap (λ (t : Tables). t.all) same ∙ was.all;
}

-- ---- loops

-- the happenings so far, and one more
pub one_more : {A : Type 0} (first xs : List A) (i : ℕ) (x d : A) → i < length xs → x ≡ get_or xs i d → (first ++ take i xs) ++ x ∷ [] ≡ first ++ take (i + 1) xs
one_more first xs i x d below is =
    append_assoc first (take i xs) (x ∷ [])
    ∙ ap (λ zs. first ++ zs) (ap (λ y. take i xs ++ y ∷ []) is ∙ sym (take_more xs i d below))

-- tables in which nothing stands
pub nothing_shown : (plan : Plan) (tables : Tables)
    → tables.round_ms ≡ plan.round_ms
    → tables.peers.items ≡ empty_rows (length plan.peers)
    → tables.rounds.items ≡ empty_rows (plan.rounds + 1)
    → tables.spans.items ≡ no_spans (plan.rounds + 1)
    → ((p q : PeerNo) → link_row tables.links p q ≡ no_counts)
    → ((t : Topic) → topic_row tables.topics t ≡ None)
    → tables.all ≡ no_counts
    → Shows plan tables [] []
nothing_shown plan tables round_ms peers rounds spans links topics all = record {
  round_ms = round_ms;
  peers = peers;
  rounds = rounds;
  spans = spans;
  links = links;
  topics = topics;
  all = all;
}
