use Rattle.std.proofs.Common.{map, take}
use Rattle.gs_base.specs.declared.names.PeerNo.{PeerNo}
use Rattle.gs_base.specs.Names.{peers_of}
use Rattle.gs_plan.specs.declared.plan.Plan.{Plan}
use Rattle.gs_rules.specs.Tables.{Entries}
use Rattle.gs_opinions.specs.Opinions.{opinion_of}
use Rattle.gs_opinions.specs.Reading.{IsJudgeAfter, ShowsMore}
use Rattle.gs_opinions.proofs.traces.Judge.note_moment.Given as goal

-- the opinions of the neighbours so far are noted
abbrev pub invariant-loop-neighbour : goal.invariant-loop-neighbour
invariant-loop-neighbour l =
    (plan : Plan) (p : PeerNo) (L : Entries) → IsJudgeAfter plan p l.self L
    → ShowsMore plan l.initial.tables l.tables (map (opinion_of plan p L l.at) (peers_of (take l.neighbour-index l.neighbour-items)))
