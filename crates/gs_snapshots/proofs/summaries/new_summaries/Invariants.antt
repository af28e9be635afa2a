use Rattle.std.proofs.Common.{◌≡◌, [], map, take}
use Rattle.gs_base.specs.declared.names.PeerNo.{PeerNo}
use Rattle.gs_params.specs.declared.params.Thresholds.{Thresholds}
use Rattle.gs_snapshots.specs.Summary.{summary_of}
use Rattle.gs_snapshots.proofs.summaries.new_summaries.Given as goal

-- one for each so far
abbrev pub invariant-loop-neighbour : goal.invariant-loop-neighbour
invariant-loop-neighbour l =
    (thresholds : Thresholds) → l.summaries.items ≡ map (λ (q : PeerNo). summary_of thresholds q [] []) (take l.neighbour-index l.neighbours)
