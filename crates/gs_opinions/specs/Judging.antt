-- Opinions that are noted while a run goes on.
use Rattle.std.specs.Prelude.{◌≡◌, true, false, if◌then◌else◌, List, [], filter, Option, None, Some}
use Rattle.std.specs.List.{AllZip, flat_map}
use Rattle.gs_base.specs.declared.names.PeerNo.{PeerNo}
use Rattle.gs_plan.specs.declared.plan.Plan.{Plan}
use Rattle.gs_rules.specs.declared.trace.Entry.{Entry}
use Rattle.gs_rules.specs.Tables.{Entries}
use Rattle.gs_reach.specs.declared.chosen.Chosen.{Chosen}
use Rattle.gs_reach.specs.Chosen.{is_chosen}
use Rattle.gs_seats.specs.Rounds.{numbers}
use Rattle.gs_opinions.specs.declared.judging.Judging.{Judging}
use Rattle.gs_opinions.specs.declared.opinion.Opinion.{Opinion}
use Rattle.gs_opinions.specs.declared.traces.Judge.{Judge}
use Rattle.gs_opinions.specs.Noting.{Shows}
use Rattle.gs_opinions.specs.Opinions.{later_opinions, trace_opinions}
use Rattle.gs_opinions.specs.Reading.{IsJudgeAfter}

-- the opinions of the chosen peers of a plan in these traces, peer by peer
abbrev pub opinions_in : Plan → Chosen → (PeerNo → Entries) → List Opinion
opinions_in plan of traces = flat_map (λ p. trace_opinions plan p (traces p)) (filter (is_chosen of) (numbers plan))

-- the opinions at entries of a peer that come after a trace, the oldest of them first, if the peer is chosen
abbrev pub chosen_opinions : Plan → Chosen → PeerNo → List Entry → Entries → List Opinion
chosen_opinions plan of p es L = if is_chosen of p then later_opinions plan p es L else []

-- a peer has a judge exactly if it is chosen, and then its judge has seen its trace
abbrev pub HasItsJudge : Plan → Chosen → (PeerNo → Entries) → PeerNo → Option Judge → Type 0
HasItsJudge plan of traces p None = is_chosen of p ≡ false
HasItsJudge plan of traces p (Some judge) = (is_chosen of p ≡ true) × IsJudgeAfter plan p judge (traces p)

-- The chosen peers of a plan were seen, with these traces. Judges are by number, and other peers have none.
pub record HasJudged (plan : Plan) (of : Chosen) (groups : List Chosen) (judging : Judging)
    (traces : PeerNo → Entries) : Type 0 where
  pub judges : AllZip (HasItsJudge plan of traces) (numbers plan) judging.judges.items
  pub tables : Shows plan groups judging.tables (opinions_in plan of traces)
