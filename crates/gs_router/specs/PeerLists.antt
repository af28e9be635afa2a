-- Places in ascending lists of peers.
use Rattle.std.specs.Prelude.{◌≤◌, List, [], ◌∷◌}
use Rattle.gs_base.specs.declared.names.PeerNo.{PeerNo}

-- the first of these peers, if any, is not below a given peer
abbrev pub IsNotBelow : PeerNo → List PeerNo → Type 0
IsNotBelow p [] = Unit {0}
IsNotBelow p (q ∷ qs) = p.0 ≤ q.0
