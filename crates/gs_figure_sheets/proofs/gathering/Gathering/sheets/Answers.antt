use Rattle.std.proofs.Common.{◌≡◌, ◌∙◌, ap, ap₂, subst, sym}
use Rattle.gs_figure_sheets.specs.declared.gathering.Parts.{Parts}
use Rattle.gs_figure_sheets.specs.declared.wanted.Subject.{Subject}
use Rattle.gs_figure_sheets.specs.FigureSheets.{sheets_for, sheets_of_links, sheets_of_rounds, sheets_of_topics, sheets_with}
use Rattle.gs_figure_sheets.specs.Gathering.{GathersParts, inquiry_in, plan_gathered}
use Rattle.gs_figure_sheets.proofs.Gathered.{if_ok}
use Rattle.gs_figure_sheets.proofs.gathering.Gathering.sheets.Goals as goal

pub returns-in_ok-found-in-Run : goal.returns-in_ok-found-in-Run
returns-in_ok-found-in-Run c =
    let plan = plan_gathered c.args.self in
    let q = inquiry_in c.args.self in
    if_ok c.run_sheets.result _ _ (λ sheets is traces report gathered are leaves.
    let (subject, run) = subst (λ (parts : Parts). GathersParts plan q parts traces) c.in-Run.is gathered.parts in
    is ∙ ap (sheets_with plan q) (c.in_ok-found-in-Run.ensures traces report gathered.counted run are leaves) ∙ ap (λ (s : Subject). sheets_for s plan q report) (sym subject)) c.run_sheets.ensures

pub returns-in_ok-counts-in-Rounds : goal.returns-in_ok-counts-in-Rounds
returns-in_ok-counts-in-Rounds c =
    let plan = plan_gathered c.args.self in
    let q = inquiry_in c.args.self in
    if_ok c.round_sheets.result _ _ (λ sheets is traces report gathered are leaves.
    let (subject, judged) = subst (λ (parts : Parts). GathersParts plan q parts traces) c.in-Rounds.is gathered.parts in
    is
    ∙ ap₂ (sheets_of_rounds q) (c.in_ok-opinions-in-Rounds.ensures q.among q.groups traces report judged are) (c.in_ok-counts-in-Rounds.ensures q.among traces report gathered.counted are (leaves ∙ sym c.deref.ensures.value))
    ∙ ap (λ (s : Subject). sheets_for s plan q report) (sym subject)) c.round_sheets.ensures

pub returns-in_ok-counts-in-Topics : goal.returns-in_ok-counts-in-Topics
returns-in_ok-counts-in-Topics c =
    let plan = plan_gathered c.args.self in
    let q = inquiry_in c.args.self in
    if_ok c.topic_sheets.result _ _ (λ sheets is traces report gathered are leaves.
    let subject = subst (λ (parts : Parts). GathersParts plan q parts traces) c.in-Topics.is gathered.parts in
    is
    ∙ ap (sheets_of_topics q) (c.in_ok-counts-in-Topics.ensures q.among traces report gathered.counted are (leaves ∙ sym c.deref-in-Topics.ensures.value))
    ∙ ap (λ (s : Subject). sheets_for s plan q report) (sym subject)) c.topic_sheets.ensures

pub returns-in_ok-counts-in-Links : goal.returns-in_ok-counts-in-Links
returns-in_ok-counts-in-Links c =
    let plan = plan_gathered c.args.self in
    let q = inquiry_in c.args.self in
    if_ok c.link_sheets.result _ _ (λ sheets is traces report gathered are leaves.
    let subject = subst (λ (parts : Parts). GathersParts plan q parts traces) c.in-Links.is gathered.parts in
    is
    ∙ ap (sheets_of_links plan q) (c.in_ok-counts-in-Links.ensures q.among traces report gathered.counted are (leaves ∙ sym c.deref-in-Links.ensures.value))
    ∙ ap (λ (s : Subject). sheets_for s plan q report) (sym subject)) c.link_sheets.ensures
