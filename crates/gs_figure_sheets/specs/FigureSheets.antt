-- The sheets of a run that are wanted.
use Rattle.std.specs.Prelude.{List, [], ◌++◌, map, Option, None, Some}
use Rattle.gs_base.specs.declared.names.PeerNo.{PeerNo}
use Rattle.gs_counts.specs.declared.run.RunCounts.{RunCounts}
use Rattle.gs_counts.specs.Runs.{run_counts}
use Rattle.gs_opinions.specs.declared.run.Opinions.{Opinions}
use Rattle.gs_opinions.specs.Runs.{opinions_of}
use Rattle.gs_plan.specs.declared.plan.Plan.{Plan}
use Rattle.gs_reach.specs.declared.chosen.Chosen.{Chosen}
use Rattle.gs_reach.specs.declared.chosen.Chosen.TheVariants.{Any, Only}
use Rattle.gs_reach.specs.Messages.{messages, numbers_of}
use Rattle.gs_report.specs.declared.report.Report.{Report}
use Rattle.gs_sheets.specs.declared.sheet.Sheet.{Sheet}
use Rattle.gs_figure_sheets.specs.declared.figures.Line.{Line}
use Rattle.gs_figure_sheets.specs.declared.found.Found.{Found}
use Rattle.gs_figure_sheets.specs.declared.inquiry.Inquiry.{Inquiry}
use Rattle.gs_figure_sheets.specs.declared.known.Known.{Known}
use Rattle.gs_figure_sheets.specs.declared.wanted.Subject.{Subject}
use Rattle.gs_figure_sheets.specs.declared.wanted.Subject.TheVariants.{Run, Rounds, Topics, Links}
use Rattle.gs_figure_sheets.specs.Choices.{chosen_among}
use Rattle.gs_figure_sheets.specs.Groups.{Dealt, group_pages}
use Rattle.gs_figure_sheets.specs.Lines.{figures_of_peers, link_line, links_at, peer_lines, round_line, topic_line}
use Rattle.gs_figure_sheets.specs.Pages.{figure_pages}
use Rattle.gs_figure_sheets.specs.Parties.{groups_of, parties_of}
use Rattle.gs_figure_sheets.specs.Reach.{sheets_among}
use Rattle.gs_figure_sheets.specs.Standings.{standing_of}
use Rattle.gs_figure_sheets.specs.Wishes.{Wishes}

-- ---- what is asked

-- what is asked of a run of these peers: names stand for peers here
abbrev pub inquiry_of : Plan → List PeerNo → Wishes → Inquiry
inquiry_of plan peers w = record {
  subject = w.subject;
  layout = w.layout;
  by = chosen_among plan peers w.by;
  among = chosen_among plan peers w.among;
  parties = parties_of plan peers (chosen_among plan peers w.among) w.groups;
  groups = groups_of plan peers w.groups;
}

-- ---- the sheets about a whole run

-- the counts from the traces of all peers, if only some peers are chosen
abbrev pub all_counts : Plan → Report → Chosen → Option RunCounts
all_counts plan report Any = None
all_counts plan report (Only peers) = Some (run_counts plan report Any)

abbrev pub known_of : Plan → Report → Chosen → Known
known_of plan report among = record {
  counts = run_counts plan report among;
  all = all_counts plan report among;
  opinions = opinions_of plan report among [];
}

-- what a run shows, where only the traces of some peers count
abbrev pub found_of : Plan → Report → Chosen → Found
found_of plan report among = record {
  messages = messages plan report;
  known = known_of plan report among;
  standings = map (standing_of among) report.peers.items;
}

abbrev pub dealt_in : Found → Dealt
dealt_in found = record {
  messages = found.messages;
  links = found.known.counts.links;
  peers = found.standings;
  opinions = found.known.opinions.pairs;
}

-- the rows of peers, of groups, and of all peers together
abbrev pub lines_of_peers : Plan → Inquiry → Found → List Line
lines_of_peers plan q found = peer_lines plan q.parties (figures_of_peers found.known q.among found.standings)

-- how many subscribers messages reached, then peers, then groups
abbrev pub sheets_with : Plan → Inquiry → Found → List Sheet
sheets_with plan q found =
    sheets_among plan q.by q.among found.messages
    ++ figure_pages q.layout Run q.parties (lines_of_peers plan q found)
    ++ group_pages (dealt_in found) q.parties

abbrev pub run_sheets : Plan → Inquiry → Report → List Sheet
run_sheets plan q report = sheets_with plan q (found_of plan report q.among)

-- ---- other sheets

abbrev pub sheets_of_rounds : Inquiry → Opinions → RunCounts → List Sheet
sheets_of_rounds q opinions counts = figure_pages q.layout Rounds q.parties (map (round_line opinions) counts.rounds)

abbrev pub round_sheets : Plan → Inquiry → Report → List Sheet
round_sheets plan q report =
    sheets_of_rounds q (opinions_of plan report q.among q.groups) (run_counts plan report q.among)

abbrev pub sheets_of_topics : Inquiry → RunCounts → List Sheet
sheets_of_topics q counts = figure_pages q.layout Topics [] (map topic_line counts.topics)

abbrev pub topic_sheets : Plan → Inquiry → Report → List Sheet
topic_sheets plan q report = sheets_of_topics q (run_counts plan report q.among)

abbrev pub sheets_of_links : Plan → Inquiry → RunCounts → List Sheet
sheets_of_links plan q counts = figure_pages q.layout Links [] (map (link_line plan) (links_at q.among counts.links))

abbrev pub link_sheets : Plan → Inquiry → Report → List Sheet
link_sheets plan q report = sheets_of_links plan q (run_counts plan report q.among)

-- the sheets about a subject
abbrev pub sheets_for : Subject → Plan → Inquiry → Report → List Sheet
sheets_for Run = run_sheets
sheets_for Rounds = round_sheets
sheets_for Topics = topic_sheets
sheets_for Links = link_sheets

-- the sheets that answer what is asked
abbrev pub sheets_of : Plan → Inquiry → Report → List Sheet
sheets_of plan q report = sheets_for q.subject plan q report

abbrev pub figure_sheets : Plan → Report → Wishes → List Sheet
figure_sheets plan report w = sheets_of plan (inquiry_of plan (numbers_of report.peers.items) w) report
