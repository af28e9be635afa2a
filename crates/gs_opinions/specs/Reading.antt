-- What was seen of a peer, and what tables show after more of it.
use Rattle.std.specs.Prelude.{◌≡◌, List, ◌++◌}
use Rattle.gs_base.specs.declared.names.PeerNo.{PeerNo}
use Rattle.gs_plan.specs.declared.plan.Plan.{Plan}
use Rattle.gs_rules.specs.Tables.{Entries, last_moment}
use Rattle.gs_router.specs.Following.{AreInOrder}
use Rattle.gs_router.specs.Watching.{Watches}
use Rattle.gs_reach.specs.declared.chosen.Chosen.{Chosen}
use Rattle.gs_seats.specs.Rounds.{neighbours_in, peer_in}
use Rattle.gs_opinions.specs.declared.opinion.Opinion.{Opinion}
use Rattle.gs_opinions.specs.declared.tables.Tables.{Tables}
use Rattle.gs_opinions.specs.declared.traces.Judge.{Judge}
use Rattle.gs_opinions.specs.Noting.{Shows}

-- This is the judge of a peer of the plan, after these entries, the newest first.
pub record IsJudgeAfter (plan : Plan) (p : PeerNo) (judge : Judge) (L : Entries) : Type 0 where
  pub number : judge.peer ≡ p
  pub neighbours : judge.neighbours.items ≡ neighbours_in plan p
  pub watches : Watches judge.watcher (peer_in plan p) L
  pub last : judge.last.0 ≡ last_moment L
  pub order : AreInOrder L

-- the later tables show what the earlier ones show, and also these opinions
abbrev pub ShowsMore : Plan → Tables → Tables → List Opinion → Type 0
ShowsMore plan old new more =
    (groups : List Chosen) (os : List Opinion) → Shows plan groups old os → Shows plan groups new (os ++ more)
