-- Phases that have begun have begun when more is said.
use Rattle.std.proofs.Common.{suc, List}
use Rattle.std.specs.List.{AllByRecursion}
use Rattle.gs_base.specs.declared.names.PeerNo.{PeerNo}
use Rattle.gs_base.specs.Tokens.{Said}
use Rattle.gs_rules.specs.declared.refusal.RefusedLine.{RefusedLine}
use Rattle.gs_rules.specs.Peers.{links_of}
use Rattle.gs_rules.specs.Tables.{Entries}
use Rattle.gs_rules.specs.Rounds.{Seat, Phase, Playing, Closing}
use Rattle.gs_player.proofs.Growing.{GoesOn, rounds_stay}
use Rattle.gs_peer.specs.Kept.{Begun}
use Rattle.gs_peer.specs.Phases.{rounds_ended}

pub begun_stays : (seat : Seat) (phase : Phase) (said said' : PeerNo → Said) (L : Entries) (refused : List RefusedLine)
    → AllByRecursion (GoesOn (rounds_ended seat phase) said said') (links_of seat.peer)
    → Begun seat said phase L refused
    → Begun seat said' phase L refused
begun_stays seat (Playing r) said said' L refused on (low, after) = (low, rounds_stay seat r said said' L refused on after)
begun_stays seat Closing said said' L refused on (K, after, stops) = (K, rounds_stay seat (suc seat.rounds) said said' K refused on after, stops)
