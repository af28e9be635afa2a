use Rattle.std.specs.Prelude.{false, fold, if◌then◌else◌}
use Rattle.std.proofs.Common.{◌≡◌, take}
use Rattle.gs_base.specs.declared.names.PeerNo.{PeerNo}
use Rattle.gs_reach.specs.declared.listed.Turn.{Turn}
use Rattle.gs_reach.specs.Messages.{is_turn_of}
use Rattle.gs_reach.specs.Tables.{cell}
use Rattle.gs_reach.proofs.tables.subscribed_before.Given as goal

-- what the turns so far say
abbrev pub invariant-loop-turn : goal.invariant-loop-turn
invariant-loop-turn l = (q : PeerNo) →
    cell l.table q ≡ fold (λ before (x : Turn). if is_turn_of q l.at x then x.subscribes else before) false (take l.turn-index l.turns)
