-- What goes out to one neighbour in a whole trace.
use Rattle.std.specs.Prelude.{List, [], ◌∷◌, ◌++◌}
use Rattle.gs_base.specs.declared.names.PeerNo.{PeerNo}
use Rattle.gs_rules.specs.Tables.{Entries}
use Rattle.gs_counts.specs.declared.happening.Happening.{Happening}
use Rattle.gs_counts.specs.Happenings.{of_peer}
use Rattle.gs_counts.specs.Lanes.{lane_happenings, lane_of}

-- What a trace of a peer puts out to a neighbour, the oldest entry first: frames and raw bytes. These are among the peer's
-- happenings over that link. Others are for the parts that it sends.
abbrev pub lane_told : PeerNo → PeerNo → Entries → List Happening
lane_told p q [] = []
lane_told p q (e ∷ L) = lane_told p q L ++ lane_happenings (of_peer e.at p) (lane_of L q) e
