-- In which row of each table a happening stands, and the tables of happenings.
use Rattle.std.specs.Prelude.{◌≡◌, ℕ, ◌+◌, ◌/◌, max, pos, Bool, false, nat_eq, ◌&&◌, if◌then◌else◌, List, filter, length, map, Option, None, Some, option_to_list, unwrap_or}
use Rattle.std.specs.List.{flat_map, list_any, range_with_len}
use Rattle.std.specs.Map.{lookup}
use Rattle.std.specs.Ordering.{is_eq}
use Rattle.std.specs.BTreeMap.{BTreeMap}
use Rattle.indexmap.specs.IndexMap.{IndexMap}
use Rattle.gs_base.specs.declared.names.Millis.{Millis}
use Rattle.gs_base.specs.declared.names.PeerNo.{PeerNo}
use Rattle.gs_base.specs.declared.names.Topic.{Topic}
use Rattle.gs_base.specs.Names.{same_peer, same_topic}
use Rattle.gs_plan.specs.declared.plan.Plan.{Plan}
use Rattle.gs_rules.specs.Tables.{topic_order}
use Rattle.gs_counts.specs.declared.counts.Counts.{Counts}
use Rattle.gs_counts.specs.declared.happening.Happening.{Happening}
use Rattle.gs_counts.specs.declared.kind.Kind.{Kind}
use Rattle.gs_counts.specs.declared.span.Span.{Span}
use Rattle.gs_counts.specs.declared.tables.Tables.{Tables}
use Rattle.gs_counts.specs.Kinds.{is_of_sender}
use Rattle.gs_counts.specs.Meshes.{span_of, widened}
use Rattle.gs_counts.specs.Rows.{changed_at, counted, no_counts, row_of, row_where}

-- ---- who stands where

-- at a peer
abbrev pub is_at : PeerNo → Happening → Bool
is_at p h = same_peer h.peer p

-- the round that a moment lies in
abbrev pub round_at : ℕ → Millis → ℕ
round_at round_ms at = at.0 / max 1 round_ms

-- in a round
abbrev pub is_in : ℕ → ℕ → Happening → Bool
is_in round_ms r h = nat_eq (round_at round_ms h.at) r

-- on a topic
abbrev pub is_on : Topic → Option Topic → Bool
is_on t None = false
is_on t (Some u) = same_topic u t

-- The link that a happening concerns, as the peer that it comes from and the peer that it leads to. If the peer is the
-- sender, the link comes from it. If it heard, the link leads to it.
abbrev pub link_of : Happening → Option (PeerNo × PeerNo)
link_of h = elim h.neighbour [ None ↦ None | Some q ↦ Some (if is_of_sender h.kind then (h.peer, q) else (q, h.peer)) ]

-- over the link from one peer to another
abbrev pub goes_over : PeerNo → PeerNo → Option (PeerNo × PeerNo) → Bool
goes_over p q None = false
goes_over p q (Some link) = same_peer link.0 p && same_peer link.1 q

-- ---- tables by numbers

abbrev pub peer_no : ℕ → PeerNo
peer_no n = record { 0 = n }

abbrev pub peer_rows : ℕ → List Happening → List Counts
peer_rows count hs = map (λ n. row_where (is_at (peer_no n)) hs) (range_with_len 0 count)

abbrev pub round_rows : ℕ → ℕ → List Happening → List Counts
round_rows round_ms count hs = map (λ r. row_where (is_in round_ms r) hs) (range_with_len 0 count)

abbrev pub empty_rows : ℕ → List Counts
empty_rows count = map (λ n. no_counts) (range_with_len 0 count)

-- ---- the table by links

-- the row of the link from one peer to another
abbrev pub over : List Happening → PeerNo → PeerNo → Counts
over hs p q = row_where (λ h. goes_over p q (link_of h)) hs

-- ---- the table by topics

-- the topics that these are on, each as often as it occurs
abbrev pub topics_in : List Happening → List Topic
topics_in hs = flat_map (λ h. option_to_list h.topic) hs

-- ---- sizes of meshes

-- the size of a mesh at a moment
abbrev pub MeshSize : Type 0
MeshSize = Millis × ℕ

-- the smallest and the largest of those in a round
abbrev pub span_in : ℕ → ℕ → List MeshSize → Option Span
span_in round_ms r sizes = span_of (map (λ x. pos x.1) (filter (λ (x : MeshSize). nat_eq (round_at round_ms x.0) r) sizes))

abbrev pub span_rows : ℕ → ℕ → List MeshSize → List (Option Span)
span_rows round_ms count sizes = map (λ r. span_in round_ms r sizes) (range_with_len 0 count)

abbrev pub no_spans : ℕ → List (Option Span)
no_spans count = map (λ r. None) (range_with_len 0 count)

-- ---- one more

-- a row with more of a kind
abbrev pub with_more : Kind → ℕ → Counts → Counts
with_more kind amount counts = counted counts kind amount

abbrev pub added_at : List Counts → ℕ → Kind → ℕ → List Counts
added_at rows place kind amount = changed_at (with_more kind amount) rows place

abbrev pub widened_at : List (Option Span) → ℕ → ℕ → List (Option Span)
widened_at spans place size = changed_at (λ span. widened span (pos size)) spans place

-- ---- tables in memory

-- the row of a link; nothing stands in it where the table has none
abbrev pub link_row : {S : Type 0} → IndexMap (PeerNo × PeerNo) Counts S → PeerNo → PeerNo → Counts
link_row rows p q =
    unwrap_or (lookup (λ (link : PeerNo × PeerNo). same_peer p link.0 && same_peer q link.1) rows.entries) no_counts

-- the row of a topic, if there is one
abbrev pub topic_row : BTreeMap Topic Counts → Topic → Option Counts
topic_row rows t = lookup (λ u. is_eq (topic_order t u)) rows.entries

-- the row that a topic is to have: none where nothing is on it
abbrev pub row_on : List Happening → Topic → Option Counts
row_on hs t = if list_any (same_topic t) (topics_in hs) then Some (row_where (λ h. is_on t h.topic) hs) else None

-- The tables show these happenings, and these sizes of meshes.
pub record Shows (plan : Plan) (tables : Tables) (hs : List Happening) (sizes : List MeshSize) : Type 0 where
  pub round_ms : tables.round_ms ≡ plan.round_ms
  pub peers : tables.peers.items ≡ peer_rows (length plan.peers) hs
  pub rounds : tables.rounds.items ≡ round_rows plan.round_ms (plan.rounds + 1) hs
  pub spans : tables.spans.items ≡ span_rows plan.round_ms (plan.rounds + 1) sizes
  pub links : (p q : PeerNo) → link_row tables.links p q ≡ over hs p q
  pub topics : (t : Topic) → topic_row tables.topics t ≡ row_on hs t
  pub all : tables.all ≡ row_of hs
