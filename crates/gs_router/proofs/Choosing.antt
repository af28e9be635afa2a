-- The peers that something is chosen from ascend by number.
use Rattle.std.proofs.Common.{◌<◌, ℕ, Bool, List}
use Rattle.std.specs.Prelude.{◌&&◌, filter, not}
use Rattle.std.proofs.lemmas.List.Kept.{AllPairs-filter}
use Rattle.gs_base.specs.declared.names.PeerNo.{PeerNo}
use Rattle.gs_base.specs.declared.names.Topic.{Topic}
use Rattle.gs_mesh.specs.Peers.{is_among}
use Rattle.gs_params.specs.Picks.{IsAscending}
use Rattle.gs_rules.specs.Peers.{Peer, is_explicit, links_of}
use Rattle.gs_rules.specs.Tables.{Entries, on, up}
use Rattle.gs_rules.specs.Membership.{candidates, is_candidate}
use Rattle.gs_rules.specs.MeshRules.{receivers, those_among, those_outside}
use Rattle.gs_rules.specs.Scoring.{is_passed_over}
use Rattle.gs_rules.specs.Rules.{listeners, ordinary_listeners, without}

filtered : (test : PeerNo → Bool) (qs : List PeerNo) → IsAscending qs → IsAscending (filter test qs)
filtered test qs up = AllPairs-filter (λ (a b : PeerNo). a.0 < b.0) test qs up

pub candidates_ascend : (p : Peer) (L : Entries) (at : ℕ) (t : Topic) → IsAscending (links_of p) → IsAscending (candidates p L at t)
candidates_ascend p L at t ascending = filtered (is_candidate p L at t) (links_of p) ascending

pub among_ascend : (others qs : List PeerNo) → IsAscending qs → IsAscending (those_among others qs)
among_ascend others qs ascending = filtered (is_among others) qs ascending

pub outside_ascend : (others qs : List PeerNo) → IsAscending qs → IsAscending (those_outside others qs)
outside_ascend others qs ascending = filtered (λ q. not (is_among others q)) qs ascending

pub ordinary_ascend : (p : Peer) (L : Entries) (t : Topic) → IsAscending (links_of p) → IsAscending (ordinary_listeners p L t)
ordinary_ascend p L t ascending = filtered (λ q. not (is_explicit p q)) (listeners p L t) (filtered (λ q. up L q && on L q t) (links_of p) ascending)

pub receivers_ascend : (p : Peer) (L : Entries) (at : ℕ) (t : Topic) → IsAscending (links_of p) → IsAscending (receivers p L at t)
receivers_ascend p L at t ascending = filtered (λ q. not (is_passed_over p L at q)) (ordinary_listeners p L t) (ordinary_ascend p L t ascending)

pub without_ascend : (is_out : PeerNo → Bool) (qs : List PeerNo) → IsAscending qs → IsAscending (without is_out qs)
without_ascend is_out qs ascending = filtered (λ q. not (is_out q)) qs ascending
