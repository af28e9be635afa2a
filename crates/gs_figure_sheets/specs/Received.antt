-- What others sent to a peer, and how they score it.
use Rattle.std.specs.Prelude.{ℕ, ℤ, List, fold, None, Some, unwrap_or}
use Rattle.std.specs.Map.{lookup}
use Rattle.indexmap.specs.IndexMap.{IndexMap}
use Rattle.gs_base.specs.declared.names.PeerNo.{PeerNo}
use Rattle.gs_base.specs.Names.{same_peer}
use Rattle.gs_counts.specs.declared.kind.Kind.TheVariants.{BytesSent, RawBytesSent}
use Rattle.gs_counts.specs.declared.run.LinkCounts.{LinkCounts}
use Rattle.gs_counts.specs.Listing.{over_links, with_links}
use Rattle.gs_counts.specs.Meshes.{widened}
use Rattle.gs_counts.specs.Rows.{count_at, plus}
use Rattle.gs_opinions.specs.declared.run.PairOpinion.{PairOpinion}
use Rattle.gs_reach.specs.declared.chosen.Chosen.{Chosen}
use Rattle.gs_figure_sheets.specs.declared.known.Known.{Known}
use Rattle.gs_figure_sheets.specs.declared.received.Gift.{Gift}
use Rattle.gs_figure_sheets.specs.declared.received.Gift.TheVariants.{Sent, Score, Lowest}
use Rattle.gs_figure_sheets.specs.declared.received.Received.{Received}
use Rattle.gs_figure_sheets.specs.declared.standing.Standing.{Standing}
use Rattle.gs_figure_sheets.specs.Between.{lowest_between, span_between}
use Rattle.gs_figure_sheets.specs.Lines.{all_links, just}
use Rattle.gs_figure_sheets.specs.Rows.{lower}

-- ---- what a peer received

-- over all links to it, from the scores that some peers give at the end, and from those that they give over the run
abbrev pub received_from : Known → Chosen → List Standing → PeerNo → Received
received_from known among peers p = record {
  bytes = over_links (all_links known) p BytesSent;
  raw_bytes = over_links (all_links known) p RawBytesSent;
  scores = span_between among (just p) peers;
  lowest = lowest_between among (just p) known.opinions.pairs;
}

abbrev pub nothing_received : Received
nothing_received = record { bytes = 0; raw_bytes = 0; scores = None; lowest = None }

-- what a row says; nothing was received by a peer that has none
abbrev pub received_in : {S : Type 0} → IndexMap PeerNo Received S → PeerNo → Received
received_in rows p = unwrap_or (lookup (same_peer p) rows.entries) nothing_received

-- ---- one more thing

abbrev pub received_with : Received → Gift → Received
received_with r (Sent counts) =
    record r {
      bytes = plus r.bytes (count_at counts.now BytesSent);
      raw_bytes = plus r.raw_bytes (count_at counts.now RawBytesSent);
    }
received_with r (Score z) = record r { scores = widened r.scores z }
received_with r (Lowest x) = record r { lowest = lower r.lowest (Some x) }

-- ---- several things

-- what goes over these links is added
abbrev pub sent_over : Received → List LinkCounts → Received
sent_over r links =
    record r { bytes = with_links BytesSent r.bytes links; raw_bytes = with_links RawBytesSent r.raw_bytes links }

-- these scores at the end are added
abbrev pub scored : Received → List ℤ → Received
scored r zs = record r { scores = fold widened r.scores zs }

-- the lowest scores of these pairs are added
abbrev pub judged : Received → List PairOpinion → Received
judged r pairs = record r { lowest = fold (λ low (x : PairOpinion). lower low (Some x.lowest)) r.lowest pairs }
