-- Sets of peers.
use Rattle.std.specs.Prelude.{Bool, false, slice_get, unwrap_or}
use Rattle.gs_base.specs.declared.names.PeerNo.{PeerNo}
use Rattle.gs_router.specs.declared.peer_set.PeerSet.{PeerSet}

abbrev pub has : PeerSet → PeerNo → Bool
has set q = unwrap_or (slice_get set.flags.items q.0) false
