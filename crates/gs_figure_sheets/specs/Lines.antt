-- The rows of figures: for peers and groups, for rounds, for topics and for links.
use Rattle.std.specs.Prelude.{ℕ, ℤ, ◌||◌, codes, List, [], ◌∷◌, ◌++◌, filter, map, Option, None, Some, option_map, slice_get, unwrap_or}
use Rattle.gs_base.specs.declared.names.PeerNo.{PeerNo}
use Rattle.gs_counts.specs.declared.counts.Counts.{Counts}
use Rattle.gs_counts.specs.declared.kind.Kind.TheVariants.{BytesSent, RawBytesSent}
use Rattle.gs_counts.specs.declared.run.LinkCounts.{LinkCounts}
use Rattle.gs_counts.specs.declared.run.PeerCounts.{PeerCounts}
use Rattle.gs_counts.specs.declared.run.RoundCounts.{RoundCounts}
use Rattle.gs_counts.specs.declared.run.TopicCounts.{TopicCounts}
use Rattle.gs_counts.specs.declared.span.Span.{Span}
use Rattle.gs_counts.specs.Listing.{over_links}
use Rattle.gs_counts.specs.Rows.{no_counts}
use Rattle.gs_opinions.specs.declared.run.Opinions.{Opinions}
use Rattle.gs_opinions.specs.declared.run.RoundOpinions.{RoundOpinions}
use Rattle.gs_plan.specs.declared.plan.Plan.{Plan}
use Rattle.gs_reach.specs.declared.chosen.Chosen.{Chosen}
use Rattle.gs_reach.specs.declared.chosen.Chosen.TheVariants.{Any, Only}
use Rattle.gs_reach.specs.Chosen.{is_chosen}
use Rattle.gs_report.specs.Text.{name_of}
use Rattle.gs_figure_sheets.specs.declared.figures.Label.{Label}
use Rattle.gs_figure_sheets.specs.declared.figures.Label.TheVariants.{Named, Numbered}
use Rattle.gs_figure_sheets.specs.declared.figures.Line.{Line}
use Rattle.gs_figure_sheets.specs.declared.figures.PeerFigures.{PeerFigures}
use Rattle.gs_figure_sheets.specs.declared.figures.RowFigures.{RowFigures}
use Rattle.gs_figure_sheets.specs.declared.known.Known.{Known}
use Rattle.gs_figure_sheets.specs.declared.party.Party.{Party}
use Rattle.gs_figure_sheets.specs.declared.standing.Standing.{Standing}
use Rattle.gs_figure_sheets.specs.Between.{lowest_between, only_by, span_between}
use Rattle.gs_figure_sheets.specs.Rows.{joined_of, only_counts}

-- a row that does not report groups
abbrev pub line_of : List Label → Option RowFigures → Line
line_of labels figures = record { labels = labels; figures = figures; groups = [] }

-- ---- peers

-- what all peers put on links
abbrev pub all_links : Known → List LinkCounts
all_links known = elim known.all [ None ↦ known.counts.links | Some all ↦ all.links ]

-- the counts of a peer
abbrev pub counts_of_peer : Known → PeerNo → Counts
counts_of_peer known p = unwrap_or (option_map (λ (x : PeerCounts). x.counts) (slice_get known.counts.peers p.0)) no_counts

-- a choice of only one peer
abbrev pub just : PeerNo → Chosen
just p = Only (p ∷ [])

-- the figures of a peer, where only the traces of some peers count
abbrev pub peer_figures : Known → Chosen → List Standing → Standing → PeerFigures
peer_figures known among peers x = record {
  peer = x.peer;
  figures = record {
    counts = counts_of_peer known x.peer;
    bytes_heard = over_links (all_links known) x.peer BytesSent;
    raw_bytes_heard = over_links (all_links known) x.peer RawBytesSent;
    meshes = x.meshes;
    scores = span_between among (just x.peer) peers;
    lowest = lowest_between among (just x.peer) known.opinions.pairs;
  };
}

-- the figures of each peer whose trace counts
abbrev pub figures_of_peers : Known → Chosen → List Standing → List PeerFigures
figures_of_peers known among peers = map (peer_figures known among peers) (only_by among peers)

-- a row with a name as its label
abbrev pub named_line : List ℕ → Option RowFigures → Line
named_line name figures = line_of (Named name ∷ []) figures

abbrev pub peer_line : Plan → PeerFigures → Line
peer_line plan row = named_line (name_of plan row.peer) (Some row.figures)

-- the row of a group: the rows of its peers, joined, if there are any
abbrev pub party_line : List PeerFigures → Party → Line
party_line rows g = named_line (codes "(" ++ g.name ++ codes ")") (joined_of g.told rows)

-- the row of all peers: their rows, joined, if there are any
abbrev pub all_line : List PeerFigures → Line
all_line rows = named_line (codes "(all)") (joined_of Any rows)

-- the rows of each peer, of each group, and of all peers together
abbrev pub peer_lines : Plan → List Party → List PeerFigures → List Line
peer_lines plan parties rows = map (peer_line plan) rows ++ map (party_line rows) parties ++ all_line rows ∷ []

-- ---- rounds

-- the lowest scores of a round
abbrev pub opinions_in : Opinions → ℕ → Option RoundOpinions
opinions_in opinions r = slice_get opinions.rounds r

-- a span of one value
abbrev pub point : ℤ → Span
point z = record { lowest = z; highest = z }

abbrev pub round_figures : RoundCounts → Option Span → RowFigures
round_figures x scores = record {
  counts = x.counts;
  bytes_heard = 0;
  raw_bytes_heard = 0;
  meshes = x.members;
  scores = scores;
  lowest = None;
}

abbrev pub round_with : RoundCounts → RoundOpinions → Line
round_with x given = record {
  labels = Numbered x.round ∷ [];
  figures = Some (round_figures x (option_map point given.lowest));
  groups = given.groups;
}

abbrev pub round_without : RoundCounts → Line
round_without x = line_of (Numbered x.round ∷ []) (Some (round_figures x None))

abbrev pub round_line : Opinions → RoundCounts → Line
round_line opinions x = elim (opinions_in opinions x.round) [ None ↦ round_without x | Some given ↦ round_with x given ]

-- ---- topics and links

abbrev pub topic_line : TopicCounts → Line
topic_line x = named_line x.topic.0 (Some (only_counts x.counts))

abbrev pub link_line : Plan → LinkCounts → Line
link_line plan x = line_of (Named (name_of plan x.from) ∷ Named (name_of plan x.to) ∷ []) (Some (only_counts x.counts))

-- those links that have at least one end whose trace counts
abbrev pub links_at : Chosen → List LinkCounts → List LinkCounts
links_at among links = filter (λ (x : LinkCounts). is_chosen among x.from || is_chosen among x.to) links
