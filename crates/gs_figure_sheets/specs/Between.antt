-- Figures between some peers of a run and others: scores, traffic over links, and places in meshes.
use Rattle.std.specs.Prelude.{ℕ, ℤ, ◌&&◌, List, filter, fold, length, map, Option, None, Some}
use Rattle.std.specs.List.{flat_map}
use Rattle.gs_base.specs.declared.names.PeerNo.{PeerNo}
use Rattle.gs_base.specs.declared.names.Topic.{Topic}
use Rattle.gs_counts.specs.declared.kind.Kind.{Kind}
use Rattle.gs_counts.specs.declared.run.LinkCounts.{LinkCounts}
use Rattle.gs_counts.specs.declared.span.Span.{Span}
use Rattle.gs_counts.specs.Meshes.{span_of}
use Rattle.gs_counts.specs.Rows.{count_at, plus}
use Rattle.gs_opinions.specs.declared.opinion.Lowest.{Lowest}
use Rattle.gs_opinions.specs.declared.run.PairOpinion.{PairOpinion}
use Rattle.gs_reach.specs.declared.chosen.Chosen.{Chosen}
use Rattle.gs_reach.specs.Chosen.{is_chosen}
use Rattle.gs_figure_sheets.specs.declared.standing.Standing.{Standing}
use Rattle.gs_figure_sheets.specs.Rows.{lower}

-- ---- scores

-- those of these scores that some peers receive
abbrev pub scores_about : Chosen → List (PeerNo × ℤ) → List ℤ
scores_about about scores = map (λ (x : PeerNo × ℤ). x.1) (filter (λ (x : PeerNo × ℤ). is_chosen about x.0) scores)

-- the peers that are chosen
abbrev pub only_by : Chosen → List Standing → List Standing
only_by by peers = filter (λ (x : Standing). is_chosen by x.peer) peers

-- the scores that some peers give some others at the end
abbrev pub scores_between : Chosen → Chosen → List Standing → List ℤ
scores_between by about peers = flat_map (λ (x : Standing). scores_about about x.remains.scores) (only_by by peers)

-- the lowest and the highest of these scores
abbrev pub span_between : Chosen → Chosen → List Standing → Option Span
span_between by about peers = span_of (scores_between by about peers)

-- The lowest score that each of some peers gives each of some others over the run, with its first moment. Also, the lowest of
-- all these.
abbrev pub opinions_between : Chosen → Chosen → List PairOpinion → List PairOpinion
opinions_between by about pairs =
    filter (λ (x : PairOpinion). is_chosen by x.by && is_chosen about x.of) pairs

abbrev pub lowest_between : Chosen → Chosen → List PairOpinion → Option Lowest
lowest_between by about pairs =
    fold (λ low (x : PairOpinion). lower low (Some x.lowest)) None (opinions_between by about pairs)

-- ---- links

-- the links from some peers to some others, and the total of a kind over them
abbrev pub links_between : Chosen → Chosen → List LinkCounts → List LinkCounts
links_between from to links =
    filter (λ (x : LinkCounts). is_chosen from x.from && is_chosen to x.to) links

abbrev pub over_between : Chosen → Chosen → Kind → List LinkCounts → ℕ
over_between from to kind links =
    fold (λ sum (x : LinkCounts). plus sum (count_at x.counts kind)) 0 (links_between from to links)

-- ---- meshes

-- how many places some peers hold in some meshes
abbrev pub places_for : Chosen → List (Topic × PeerNo) → ℕ
places_for to members = length (filter (λ (x : Topic × PeerNo). is_chosen to x.1) members)

-- how many places some peers hold in the meshes of some others at the end: one for each mesh that a peer is in
abbrev pub places_between : Chosen → Chosen → List Standing → ℕ
places_between from to peers =
    fold (λ sum (x : Standing). plus sum (places_for to x.remains.meshes)) 0 (only_by from peers)
