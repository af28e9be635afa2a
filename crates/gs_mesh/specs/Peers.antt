-- Lists of peers by who is in them.
use Rattle.std.specs.Prelude.{Bool, not, List, [], ◌∷◌, filter}
use Rattle.std.specs.List.{list_any}
use Rattle.std.specs.Ordering.{nat_cmp}
use Rattle.std.specs.FinMap.Entries.{by_order}
use Rattle.gs_base.specs.declared.names.PeerNo.{PeerNo}
use Rattle.gs_base.specs.Names.{same_peer}

abbrev pub is_among : List PeerNo → PeerNo → Bool
is_among qs p = list_any (same_peer p) qs

-- puts a peer in its place among others that ascend by number; a peer that is already there stays, once
abbrev pub put_in : PeerNo → List PeerNo → List PeerNo
put_in p [] = p ∷ []
put_in p (q ∷ qs) = by_order (nat_cmp q.0 p.0) (q ∷ put_in p qs) (q ∷ qs) (p ∷ q ∷ qs)

-- all except one
abbrev pub without : PeerNo → List PeerNo → List PeerNo
without p qs = filter (λ q. not (same_peer p q)) qs
