-- What is taken out of members that ascend by number ascends.
use Rattle.std.proofs.Common.{List, not}
use Rattle.std.specs.Set.{is_member}
use Rattle.gs_base.specs.declared.names.PeerNo.{PeerNo}
use Rattle.gs_base.specs.Names.{same_peer}
use Rattle.gs_mesh.specs.declared.members.Member.{Member}
use Rattle.gs_params.specs.Picks.{IsAscending}
use Rattle.gs_mesh.specs.Cuts.{outbound_of, outside, peers_of}
use Rattle.gs_mesh.proofs.BestMembers.{ascending_kept}
use Rattle.gs_mesh.specs.MeshSteps.{above_median, is_negative, median_is_below, not_negative}

pub outbound_ascend : (members : List Member) → IsAscending (peers_of members) → IsAscending (peers_of (outbound_of members))
outbound_ascend members up = ascending_kept (λ (m : Member). m.outbound) members up

pub outside_ascend : (peers : List PeerNo) (members : List Member) → IsAscending (peers_of members) → IsAscending (peers_of (outside peers members))
outside_ascend peers members up = ascending_kept (λ (m : Member). not (is_member same_peer peers m.peer)) members up

pub not_negative_ascend : (mesh : List Member) → IsAscending (peers_of mesh) → IsAscending (peers_of (not_negative mesh))
not_negative_ascend mesh up = ascending_kept (λ (m : Member). not (is_negative m)) mesh up

pub above_median_ascend : (members candidates : List Member) → IsAscending (peers_of candidates) → IsAscending (peers_of (above_median members candidates))
above_median_ascend members candidates up = ascending_kept (λ (c : Member). median_is_below members c.score) candidates up
