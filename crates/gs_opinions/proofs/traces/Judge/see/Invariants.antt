use Rattle.std.proofs.Common.{◌++◌, reverse, take}
use Rattle.gs_base.specs.declared.names.PeerNo.{PeerNo}
use Rattle.gs_plan.specs.declared.plan.Plan.{Plan}
use Rattle.gs_rules.specs.Tables.{Entries}
use Rattle.gs_router.specs.Following.{AreInOrder}
use Rattle.gs_opinions.specs.Opinions.{later_opinions}
use Rattle.gs_opinions.specs.Reading.{IsJudgeAfter, ShowsMore}
use Rattle.gs_opinions.proofs.traces.Judge.see.Given as goal

-- the entries so far are seen and noted
abbrev pub invariant-loop-entry : goal.invariant-loop-entry
invariant-loop-entry l =
    (plan : Plan) (p : PeerNo) (L : Entries) → IsJudgeAfter plan p l.initial.self L → AreInOrder (reverse l.entries ++ L)
    → IsJudgeAfter plan p l.self (reverse (take l.entry-index l.entries) ++ L)
    × ShowsMore plan l.initial.tables l.tables (later_opinions plan p (take l.entry-index l.entries) L)
