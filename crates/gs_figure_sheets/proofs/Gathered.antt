-- What was gathered of all peers.
use Rattle.std.proofs.Common.{◌≡◌, ◌∙◌, [], List, map, Option, Some, Result, Ok, Err, IfOk, OnOk, ap, subst}
use Rattle.gs_base.specs.declared.names.PeerNo.{PeerNo}
use Rattle.gs_counts.specs.declared.counting.Counting.{Counting}
use Rattle.gs_counts.specs.declared.run.RunCounts.{RunCounts}
use Rattle.gs_counts.specs.Counting.{HasCounted}
use Rattle.gs_counts.specs.Runs.{run_counts}
use Rattle.gs_opinions.specs.declared.run.Opinions.{Opinions}
use Rattle.gs_opinions.specs.Runs.{opinions_of}
use Rattle.gs_plan.specs.declared.plan.Plan.{Plan}
use Rattle.gs_reach.specs.declared.chosen.Chosen.{Chosen}
use Rattle.gs_reach.specs.declared.chosen.Chosen.TheVariants.{Any, Only}
use Rattle.gs_reach.specs.declared.messages.MessageReach.{MessageReach}
use Rattle.gs_reach.specs.Messages.{messages}
use Rattle.gs_report.specs.declared.report.Report.{Report}
use Rattle.gs_rules.specs.Tables.{Entries}
use Rattle.gs_figure_sheets.specs.declared.standing.Standing.{Standing}
use Rattle.gs_figure_sheets.specs.FigureSheets.{all_counts, found_of}
use Rattle.gs_figure_sheets.specs.Gathering.{CountsAll}
use Rattle.gs_figure_sheets.specs.Standings.{standing_of}

pub counted_all : (plan : Plan) (among : Chosen) (all : Option Counting) (counting : Counting) (traces : PeerNo → Entries) → all ≡ Some counting → CountsAll plan among all traces → HasCounted plan Any counting traces
counted_all plan Any all counting traces is h = absurd (subst (λ (a : Option Counting). CountsAll plan Any a traces) is h)
counted_all plan (Only ps) all counting traces is h = subst (λ (a : Option Counting). CountsAll plan (Only ps) a traces) is h

pub counts_if : (plan : Plan) (report : Report) (among : Chosen) (all : Option Counting) (counting : Counting) (traces : PeerNo → Entries) (counts : RunCounts) → all ≡ Some counting → CountsAll plan among all traces → (HasCounted plan Any counting traces → counts ≡ run_counts plan report Any) → Some counts ≡ all_counts plan report among
counts_if plan report Any all counting traces counts is h so = absurd (subst (λ (a : Option Counting). CountsAll plan Any a traces) is h)
counts_if plan report (Only ps) all counting traces counts is h so = ap Some (so (counted_all plan (Only ps) all counting traces is h))

-- one more look at all peers
pub seen_all : (plan : Plan) (among : Chosen) (all : Option Counting) (old new : Counting) (before after : PeerNo → Entries) → all ≡ Some old → CountsAll plan among all before → (HasCounted plan Any old before → HasCounted plan Any new after) → CountsAll plan among (Some new) after
seen_all plan Any all old new before after is h so = absurd (subst (λ (a : Option Counting). CountsAll plan Any a before) is h)
seen_all plan (Only ps) all old new before after is h so = so (counted_all plan (Only ps) all old before is h)

pub on_ok : {A E : Type 0} (r : Result A E) (P Q : Type 0) → (P → Q) → OnOk r P → OnOk r Q
on_ok (Ok x) P Q so h = so h
on_ok (Err e) P Q so h = tt

-- what a run shows, part by part
pub found_from : (plan : Plan) (report : Report) (among : Chosen) (messages' : List MessageReach) (counts : RunCounts) (all : Option RunCounts) (opinions : Opinions) (standings : List Standing)
    → messages' ≡ messages plan report
    → counts ≡ run_counts plan report among
    → all ≡ all_counts plan report among
    → opinions ≡ opinions_of plan report among []
    → standings ≡ map (standing_of among) report.peers.items
    → record { messages = messages'; known = record { counts = counts; all = all; opinions = opinions }; standings = standings } ≡ found_of plan report among
found_from plan report among messages' counts all opinions standings m c a o s =
    ap (λ (ms : List MessageReach). record { messages = ms; known = record { counts = counts; all = all; opinions = opinions }; standings = standings }) m
    ∙ ap (λ (cs : RunCounts). record { messages = messages plan report; known = record { counts = cs; all = all; opinions = opinions }; standings = standings }) c
    ∙ ap (λ (each : Option RunCounts). record { messages = messages plan report; known = record { counts = run_counts plan report among; all = each; opinions = opinions }; standings = standings }) a
    ∙ ap (λ (os : Opinions). record { messages = messages plan report; known = record { counts = run_counts plan report among; all = all_counts plan report among; opinions = os }; standings = standings }) o
    ∙ ap (λ (ss : List Standing). record { messages = messages plan report; known = record { counts = run_counts plan report among; all = all_counts plan report among; opinions = opinions_of plan report among [] }; standings = ss }) s

pub if_ok : {A E : Type 0} (r : Result A E) (P Q : A → Type 0) → ((x : A) → P x → Q x) → IfOk r P → IfOk r Q
if_ok (Ok x) P Q so h = so x h
if_ok (Err e) P Q so h = tt
