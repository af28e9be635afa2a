-- Until when neighbours may not be grafted.
use Rattle.std.specs.Prelude.{max, List, unwrap_or}
use Rattle.std.specs.Map.{lookup}
use Rattle.gs_base.specs.declared.names.PeerNo.{PeerNo}
use Rattle.gs_base.specs.declared.names.Millis.{Millis}
use Rattle.gs_base.specs.Names.{same_peer}

-- the moment from which a neighbour may be grafted: 0 if it was never pruned
abbrev pub until : List (PeerNo × Millis) → PeerNo → Millis
until ends q = unwrap_or (lookup (same_peer q) ends) (record { 0 = 0 })

abbrev pub later : Millis → Millis → Millis
later a b = record { 0 = max a.0 b.0 }
