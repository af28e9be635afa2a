-- What an observer of a run has gathered for its sheets.
use Rattle.std.specs.Prelude.{◌≡◌, [], length, Option, None, Some}
use Rattle.gs_base.specs.declared.names.PeerNo.{PeerNo}
use Rattle.gs_plan.specs.declared.plan.Plan.{Plan}
use Rattle.gs_rules.specs.Tables.{Entries}
use Rattle.gs_reach.specs.declared.chosen.Chosen.{Chosen}
use Rattle.gs_reach.specs.declared.chosen.Chosen.TheVariants.{Any, Only}
use Rattle.gs_reach.specs.Listing.{HasListed}
use Rattle.gs_counts.specs.declared.counting.Counting.{Counting}
use Rattle.gs_counts.specs.Counting.{HasCounted}
use Rattle.gs_opinions.specs.Judging.{HasJudged}
use Rattle.gs_figure_sheets.specs.declared.gathering.Gathering.{Gathering}
use Rattle.gs_figure_sheets.specs.declared.gathering.Parts.{Parts}
use Rattle.gs_figure_sheets.specs.declared.gathering.Parts.TheVariants as parts
use Rattle.gs_figure_sheets.specs.declared.gathering.RunParts.{RunParts}
use Rattle.gs_figure_sheets.specs.declared.inquiry.Inquiry.{Inquiry}
use Rattle.gs_figure_sheets.specs.declared.wanted.Subject.TheVariants.{Run, Rounds, Topics, Links}

-- the plan of the run that it observes, and what is asked of the run
abbrev pub plan_gathered : Gathering → Plan
plan_gathered g = g.plan.now

abbrev pub inquiry_in : Gathering → Inquiry
inquiry_in g = g.inquiry.now

-- all peers are counted too, if only some are chosen
abbrev pub CountsAll : Plan → Chosen → Option Counting → (PeerNo → Entries) → Type 0
CountsAll plan Any None traces = Unit {0}
CountsAll plan Any (Some counting) traces = ⊥
CountsAll plan (Only peers) None traces = ⊥
CountsAll plan (Only peers) (Some counting) traces = HasCounted plan Any counting traces

-- what only the sheets about a whole run need
pub record GathersRun (plan : Plan) (among : Chosen) (run : RunParts) (traces : PeerNo → Entries) : Type 0 where
  pub listed : HasListed (length plan.peers) run.listing traces
  pub all : CountsAll plan among run.all traces
  pub judged : HasJudged plan among [] run.judging traces

-- what only the sheets about one subject need
abbrev pub GathersParts : Plan → Inquiry → Parts → (PeerNo → Entries) → Type 0
GathersParts plan q (parts.Run run) traces = (q.subject ≡ Run) × GathersRun plan q.among run traces
GathersParts plan q (parts.Rounds judging) traces = (q.subject ≡ Rounds) × HasJudged plan q.among q.groups judging traces
GathersParts plan q parts.Topics traces = q.subject ≡ Topics
GathersParts plan q parts.Links traces = q.subject ≡ Links

-- it has gathered what these traces say for what is asked
pub record HasGathered (plan : Plan) (q : Inquiry) (g : Gathering) (traces : PeerNo → Entries) : Type 0 where
  pub counted : HasCounted plan q.among g.counting traces
  pub parts : GathersParts plan q g.parts traces
