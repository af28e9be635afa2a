-- The traces and the refused lines that a report has. Also, what `a_trace_tells_all` requires of a plan and its report.
use Rattle.std.specs.Prelude.{if◌then◌else◌, List, [], ◌∷◌, map}
use Rattle.std.specs.List.{flat_map}
use Rattle.gs_base.specs.declared.names.PeerNo.{PeerNo}
use Rattle.gs_base.specs.Names.{same_peer}
use Rattle.gs_plan.specs.Plans.{IsInRange}
use Rattle.gs_plan.specs.declared.plan.Plan.{Plan}
use Rattle.gs_rules.specs.declared.refusal.RefusedLine.{RefusedLine}
use Rattle.gs_rules.specs.declared.trace.Entry.{Entry}
use Rattle.gs_report.specs.declared.finished.Finished.{Finished}
use Rattle.gs_report.specs.declared.report.Report.{Report}
use Rattle.gs_seats.specs.Reports.{IsReport}
use Rattle.gs_trace.specs.Lines.{Told, Did, Refused}
use Rattle.gs_trace.specs.Stored.{IsStored}

-- a peer's number and its trace, the newest entry first
abbrev pub traced : PeerNo × Finished → PeerNo × List Entry
traced x = (x.0, x.1.trace)

-- the traces that a report has, by the numbers of their peers
abbrev pub traces : Report → List (PeerNo × List Entry)
traces report = map traced report.peers.items

-- the lines of the script that a peer refused, among everything that a trace says
abbrev pub refusal_of : PeerNo → Told → List RefusedLine
refusal_of q (Did r p e fallen) = []
refusal_of q (Refused r p line) = if same_peer p q then line ∷ [] else []

abbrev pub refusals_in : PeerNo → List Told → List RefusedLine
refusals_in q all = flat_map (refusal_of q) all

-- The report of a run of a plan that was read. Both are as they are in memory.
pub record IsReportOf (plan : Plan) (report : Report) : Type 0 where
  pub in_range : IsInRange plan
  pub run : IsReport plan report
  pub stored : IsStored plan report
