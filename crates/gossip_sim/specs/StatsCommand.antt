-- The command `stats`: what it prints of a run, and how it ends.
use Rattle.std.specs.Prelude.{ℕ, false, List, Option, Some, None}
use Rattle.gs_plan.specs.declared.plan.Plan.{Plan}
use Rattle.gs_report.specs.declared.report.Report.{Report}
use Rattle.gs_sheets.specs.declared.sheet.Sheet.{Sheet}
use Rattle.gs_sheets.specs.Sheets.{sheets_csv, sheets_json, sheets_table}
use Rattle.gs_figure_sheets.specs.FigureSheets.{figure_sheets}
use Rattle.gs_figure_sheets.specs.Wishes.{Wishes as SheetWishes}
use Rattle.gs_figure_sheets.specs.declared.wanted.Layout.{Layout}
use Rattle.gs_figure_sheets.specs.declared.wanted.Layout.TheVariants as layout
use Rattle.gs_figure_sheets.specs.declared.wanted.Subject.{Subject}
use Rattle.gs_figure_sheets.specs.declared.wanted.Subject.TheVariants as subject
use Rattle.gs_program.specs.Asked.{EndsAsked}
use Rattle.gs_program.specs.Options.{options_given}
use Rattle.gossip_sim.specs.declared.stats.wishes.Form.{Form}
use Rattle.gossip_sim.specs.declared.stats.wishes.Form.TheVariants as form
use Rattle.gossip_sim.specs.StatsWishes.{Wishes, options, usage, wishes_for}

-- the run as a whole where no other subject is asked for
abbrev pub subject_or_run : Option Subject → Subject
subject_or_run None = subject.Run
subject_or_run (Some s) = s

-- tables are for a person, and other forms for programs
abbrev pub layout_for : Option Form → Layout
layout_for None = layout.Person
layout_for (Some f) = layout.Data

-- which sheets are asked for
abbrev pub sheets_wished : Wishes → SheetWishes
sheets_wished w = record {
  by = w.by;
  among = w.among;
  groups = w.groups;
  subject = subject_or_run w.subject;
  layout = layout_for w.form;
}

-- sheets in a form: tables where no form is asked for
abbrev pub written : Option Form → List Sheet → List ℕ
written None sheets = sheets_table sheets
written (Some form.Csv) sheets = sheets_csv sheets
written (Some form.Json) sheets = sheets_json sheets

-- what is printed of a run for what is asked for
abbrev pub printed : Wishes → Plan → Report → List ℕ
printed w plan report = written w.form (figure_sheets plan report (sheets_wished w))

-- how it ends with these arguments
abbrev pub EndsFor :
    List (List ℕ)
    → (status : ℕ) (input input' output output' errors errors' : Option (List ℕ))
    → Type 0
EndsFor arguments status input input' output output' errors errors' =
    EndsAsked usage printed false wishes_for (options_given options arguments) status
    input input' output output' errors errors'
