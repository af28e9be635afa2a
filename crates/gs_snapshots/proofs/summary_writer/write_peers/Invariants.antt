use Rattle.std.proofs.Common.{◌≡◌, take}
use Rattle.std.specs.List.{flat_map}
use Rattle.gs_trace.specs.Pages.{Adds}
use Rattle.gs_snapshots.specs.Summing.{is_text, summaries_if}
use Rattle.gs_snapshots.specs.Wishes.{wishes_of}
use Rattle.gs_snapshots.proofs.summary_writer.write_peers.Given as goal

-- the summaries of the peers so far came onto the page
abbrev pub invariant-loop-peer : goal.invariant-loop-peer
invariant-loop-peer g l = record {
  any : l.is_any ≡ is_text (flat_map (summaries_if (wishes_of l.wanted) l.plan) (take l.peer-index l.peers));
  added : Adds (flat_map (summaries_if (wishes_of l.wanted) l.plan) (take l.peer-index l.peers))
      l.initial.page.items l.page.items (g.W.Write.contents l.initial.output) (g.W.Write.contents l.output);
}
