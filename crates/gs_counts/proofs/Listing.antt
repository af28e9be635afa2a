-- Rows of tables in their order.
use Rattle.std.proofs.Common.{◌≡◌, ◌<◌, ℕ, zero, suc, ◌+◌, List, [], ◌∷◌, ◌++◌, get_or, length, map, take, refl, sym, ap, ap₂, ◌∙◌, append-nil, append_assoc, arith, add-one, zero-add}
use Rattle.std.specs.List.{AllByRecursion, flat_map, range_with_len}
use Rattle.std.proofs.lemmas.List.{map-append, take_more}
use Rattle.std.proofs.lemmas.List.FromFn.{get_or-map-range_with_len, length-map-range_with_len, map-range_with_len_more}
use Rattle.gs_base.specs.declared.names.PeerNo.{PeerNo}
use Rattle.gs_base.specs.declared.neighbour.Neighbour.{Neighbour}
use Rattle.gs_base.specs.Names.{peers_of}
use Rattle.gs_plan.specs.declared.plan.Plan.{Plan}
use Rattle.gs_rules.specs.Tables.{ascending}
use Rattle.gs_seats.specs.Rounds.{neighbour_in}
use Rattle.gs_counts.specs.declared.counts.Counts.{Counts}
use Rattle.gs_counts.specs.declared.happening.Happening.{Happening}
use Rattle.gs_counts.specs.declared.run.LinkCounts.{LinkCounts}
use Rattle.gs_counts.specs.declared.run.PeerCounts.{PeerCounts}
use Rattle.gs_counts.specs.declared.run.RunCounts.{RunCounts}
use Rattle.gs_counts.specs.declared.tables.Tables.{Tables}
use Rattle.gs_counts.specs.Listing.{all_links, by_number, links_by, peer_row, round_row}
use Rattle.gs_counts.specs.Rows.{row_where}
use Rattle.gs_counts.specs.Runs.{counts_of, peer_counts, topic_counts}
use Rattle.gs_counts.specs.Standing.{MeshSize, Shows, is_at, is_in, over, peer_no, span_in, topics_in}

-- ---- each of a list

pub all_at : {A : Type 0} (P : A → Type 0) (xs : List A) (i : ℕ) (d : A) → AllByRecursion P xs → i < length xs → P (get_or xs i d)
all_at P [] i d h low = absurd (omega (arith, low))
all_at P (x ∷ xs) zero d h low = h.0
all_at P (x ∷ xs) (suc i) d h low = all_at P xs i d h.1 (omega (arith, low))

-- ---- by number

pub numbered_at : {R : Type 0} (f : ℕ → R) (count : ℕ) (rows : List R) (k n : ℕ) (d : R) → rows ≡ by_number f count → k ≡ n → n < count → get_or rows k d ≡ f n
numbered_at f count rows k n d is same below =
    ap₂ (λ xs i. get_or xs i d) is same ∙ get_or-map-range_with_len f 0 count n n d below (zero-add n)

pub numbered_more : {R : Type 0} (f : ℕ → R) (n : ℕ) (old new : List R) (x : R) → old ≡ by_number f n → x ≡ f n → new ≡ old ++ x ∷ [] → new ≡ by_number f (n + 1)
numbered_more f n old new x had is more =
    more ∙ ap₂ (λ xs y. xs ++ y ∷ []) had is ∙ sym (map-range_with_len_more f 0 n n (zero-add n))

flat_from : {B : Type 0} (f : ℕ → List B) (a n j : ℕ) → a + n ≡ j → flat_map f (range_with_len a (suc n)) ≡ flat_map f (range_with_len a n) ++ f j
flat_from f a zero j is = append-nil (f a) ∙ ap f (omega (arith, is))
flat_from f a (suc n) j is =
    ap (λ ys. f a ++ ys) (flat_from f (a + 1) n j (omega (arith, is)))
    ∙ sym (append_assoc (f a) (flat_map f (range_with_len (a + 1) n)) (f j))

pub flat_numbered : {B : Type 0} (f : ℕ → List B) (n : ℕ) → flat_map f (range_with_len 0 (n + 1)) ≡ flat_map f (range_with_len 0 n) ++ f n
flat_numbered f n = ap (λ k. flat_map f (range_with_len 0 k)) (add-one n) ∙ flat_from f 0 n n (zero-add n)

pub as_many : {R : Type 0} (f : ℕ → R) (count : ℕ) (rows : List R) → rows ≡ by_number f count → length rows ≡ count
as_many f count rows is = ap (λ xs. length xs) is ∙ length-map-range_with_len f 0 count

-- ---- links

-- the neighbours of a peer by their numbers
pub numbers_named : (plan : Plan) (p : PeerNo) (qs : List PeerNo) → peers_of (map (neighbour_in plan p) qs) ≡ qs
numbers_named plan p [] = refl
numbers_named plan p (q ∷ qs) = ap (λ (ps : List PeerNo). q ∷ ps) (numbers_named plan p qs)

-- one more link from a peer
pub one_link : (first : List LinkCounts) (p : PeerNo) (row : PeerNo → Counts) (ns : List Neighbour) (i : ℕ) (n : Neighbour) → i < length ns → n ≡ get_or ns i n → (first ++ links_by p row (peers_of (take i ns))) ++ links_by p row (n.peer ∷ []) ≡ first ++ links_by p row (peers_of (take (i + 1) ns))
one_link first p row ns i n below is =
    append_assoc first (links_by p row (peers_of (take i ns))) (links_by p row (n.peer ∷ []))
    ∙ ap (λ (xs : List LinkCounts). first ++ xs)
    (sym (map-append (λ (q : PeerNo). record { from = p; to = q; counts = row q }) (peers_of (take i ns)) (n.peer ∷ []))
    ∙ ap (links_by p row) (sym (map-append (λ (m : Neighbour). m.peer) (take i ns) (n ∷ [])) ∙ ap peers_of (ap (λ (m : Neighbour). take i ns ++ m ∷ []) is ∙ sym (take_more ns i n below))))

-- ---- tables

peers_listed : (hs : List Happening) (ns : List ℕ) → map (peer_row (λ n. row_where (is_at (peer_no n)) hs)) ns ≡ map (peer_counts hs) (map peer_no ns)
peers_listed hs [] = refl
peers_listed hs (n ∷ ns) = ap (λ (rows : List PeerCounts). peer_counts hs (peer_no n) ∷ rows) (peers_listed hs ns)

pub listed : (plan : Plan) (tables : Tables) (hs : List Happening) (sizes : List MeshSize) (out : RunCounts)
    → Shows plan tables hs sizes
    → out.peers ≡ by_number (peer_row (λ n. row_where (is_at (peer_no n)) hs)) (length plan.peers)
    → out.links ≡ all_links plan (over hs)
    → out.topics ≡ map (topic_counts hs) (ascending (topics_in hs))
    → out.rounds ≡ by_number (round_row (λ r. row_where (is_in plan.round_ms r) hs) (λ r. span_in plan.round_ms r sizes)) (plan.rounds + 1)
    → out.all ≡ tables.all
    → out ≡ counts_of plan hs sizes
listed plan tables hs sizes out shows peers links topics rounds all = λ i. record {
  peers = (peers ∙ peers_listed hs (range_with_len 0 (length plan.peers))) i;
  links = links i;
  topics = topics i;
  rounds = rounds i;
  all = (all ∙ shows.all) i;
}
