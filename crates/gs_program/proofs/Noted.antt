-- What lines about the progress of a run add to errors.
use Rattle.std.proofs.Common.{◌≡◌, ◌++◌, ◌∙◌, ℕ, Bool, true, false, List, [], ◌∷◌, Option, Some, None, refl, sym, ap, subst, subst₂, true≢false}
use Rattle.std.specs.Prelude.{Result, Ok, Err, IfErr, IfOk, OnErr, is_ok}
use Rattle.std.specs.Borrow.{GName}
use Rattle.gs_direct.specs.Stages.{HasShownAll, HasShownFirst, HasShownMore}
use Rattle.gs_direct.specs.declared.stages.Stage.{Stage}
use Rattle.gs_plan.specs.declared.limits.Limits.{Limits}
use Rattle.gs_plan.specs.declared.plan.Plan.{Plan}
use Rattle.gs_program.specs.Program.{EndsAs}
use Rattle.gs_program.specs.Progress.{AddsLines, EndsShowing, ExitsShowing, HasProgress, HasToldSince, ProgressStart, TellsAll, has_begun, has_ended, if_wanted, progress_line}
use Rattle.gs_streams.specs.declared.exit_status.ExitStatus.{ExitStatus}
use Rattle.gs_streams.specs.declared.exit_status.ExitStatus.TheVariants.{Unfinished}
use Rattle.gs_streams.specs.Statuses.{status_of}
use Rattle.gs_report.specs.declared.report.Report.{Report}
use Rattle.gs_seats.specs.Reports.{IsReport}
use Rattle.gs_seats.specs.declared.fault.NetFault.{NetFault}
use Rattle.gs_streams.specs.Inputs.{IsScenario}
use Rattle.gs_streams.specs.Streams.{AppendsFront}

-- ---- lines

-- lines and then further lines
tells_more : (rounds : ℕ) (stages later : List Stage) (a b c : Option (List ℕ)) → TellsAll rounds stages a b → TellsAll rounds later b c → TellsAll rounds (stages ++ later) a c
tells_more rounds [] later a b c same then = subst (λ (x : Option (List ℕ)). TellsAll rounds later x c) same then
tells_more rounds (stage ∷ stages) later a b c (between, first, rest) then =
    (between, first, tells_more rounds stages later between b c rest then)

both_wanted : (wanted : Bool) (stages later : List Stage) → if_wanted wanted stages ++ if_wanted wanted later ≡ if_wanted wanted (stages ++ later)
both_wanted true stages later = refl
both_wanted false stages later = refl

-- one line more
pub told_more : (start : ProgressStart) (name name' : GName) (wanted : Bool) (rounds : ℕ) (stage : Stage) (before : List Stage) (a b : Option (List ℕ)) → name' ≡ name → TellsAll rounds (if_wanted wanted (stage ∷ [])) a b → HasToldSince start name wanted rounds before a → HasToldSince start name' wanted rounds (before ++ stage ∷ []) b
told_more start name name' wanted rounds stage before a b same line told = record {
  name_is = same ∙ told.name_is;
  wanted_is = told.wanted_is;
  rounds_is = told.rounds_is;
  lines = subst (λ (stages : List Stage). TellsAll rounds stages start.errors b) (both_wanted wanted before (stage ∷ []))
      (tells_more rounds (if_wanted wanted before) (if_wanted wanted (stage ∷ [])) start.errors a b told.lines line);
}

-- one line, or none if memory ran out for it
pub one_told : (rounds : ℕ) (stage : Stage) (a b : Option (List ℕ)) → AppendsFront a b (progress_line rounds stage) → TellsAll rounds (stage ∷ []) a b
one_told rounds stage a b front = (b, front, refl)

pub none_told : (rounds : ℕ) (stage : Stage) (a : Option (List ℕ)) → TellsAll rounds (stage ∷ []) a a
none_told rounds stage None = (None, (0, tt), refl)
none_told rounds stage (Some xs) = (Some xs, (0, append_none xs), refl)
  where
    append_none : (xs : List ℕ) → xs ≡ xs ++ []
    append_none [] = refl
    append_none (x ∷ xs) = ap (λ (ys : List ℕ). x ∷ ys) (append_none xs)

-- ---- a gauge that is given back

-- What a gauge has written is on errors, if it still writes there.
pub lands : {E : Type 0} → (contents : E → Option (List ℕ)) (start : ProgressStart) (name : GName) (wanted : Bool) (rounds : ℕ) (stages : List Stage) (x y : E) → (start.name ≡ name → x ≡ y) → HasToldSince start name wanted rounds stages (contents y) → TellsAll start.rounds (if_wanted start.wanted stages) start.errors (contents x)
lands contents start name wanted rounds stages x y is told =
    subst₂ (λ (w : Bool) (r : ℕ). TellsAll r (if_wanted w stages) start.errors (contents x)) told.wanted_is told.rounds_is
    (subst (λ (v : Option (List ℕ)). TellsAll rounds (if_wanted wanted stages) start.errors v) (sym (ap contents (is (sym told.name_is)))) told.lines)

pub none_so_far : (wanted : Bool) (rounds : ℕ) (a : Option (List ℕ)) → TellsAll rounds (if_wanted wanted []) a a
none_so_far true rounds a = refl
none_so_far false rounds a = refl

-- ---- ends

module _ {T S : Type 0} (has_shown : T → S → List Stage → Type 0) (old new : T) (wanted : Bool) (plan : Plan)
    (errors errors' : Option (List ℕ))
    (land : (stages : List Stage) → HasShownMore has_shown old new stages → TellsAll plan.rounds (if_wanted wanted stages) errors errors') where
  of_report : (report : Report) → IsReport plan report → HasShownAll has_shown old new plan report → HasProgress wanted plan true errors errors'
  of_report report is shown = record {
    stages = shown.stages;
    lines = land shown.stages shown.shows;
    first = shown.first;
    whole = λ _. (report, is, shown.are);
  }

  of_first : HasShownFirst has_shown old new plan → HasProgress wanted plan false errors errors'
  of_first shown = record {
    stages = shown.stages;
    lines = land shown.stages shown.shows;
    first = shown.first;
    whole = λ never. absurd (true≢false (sym never));
  }

  -- the lines of a run that left a report, or none
  pub progress_ran : (ran : Result Report NetFault) → IfOk ran (IsReport plan) → IfOk ran (HasShownAll has_shown old new plan) → OnErr ran (HasShownFirst has_shown old new plan) → HasProgress wanted plan (is_ok ran) errors errors'
  progress_ran (Ok report) is shown stopped = of_report report is shown
  progress_ran (Err fault) is shown stopped = of_first stopped

  -- the lines of a run of which a text was made, or none
  pub progress_made : {A F : Type 0} → (made : Result A F) → IfOk made (λ text. (report : Report) × IsReport plan report × HasShownAll has_shown old new plan report) → OnErr made (HasShownFirst has_shown old new plan) → HasProgress wanted plan (is_ok made) errors errors'
  progress_made (Ok text) (report, is, shown) stopped = of_report report is shown
  progress_made (Err fault) shown stopped = of_first stopped

-- a program that ends as after a run had one without a fault
pub ran_whole : (X : NetFault → Type 0) (ran : Result Report NetFault) (status : ExitStatus) → IfErr ran (λ fault. (status ≡ Unfinished) × X fault) → has_ended status ≡ true → is_ok ran ≡ true
ran_whole X (Ok report) status fault ended = refl
ran_whole X (Err why) status fault ended = absurd (true≢false (sym ended ∙ ap has_ended fault.0))

-- the lines of a run stay where the program ends, if it only ends as after a run where there was one
pub progress_stays : (wanted : Bool) (plan : Plan) (a b : Bool) (errors errors' : Option (List ℕ)) → (b ≡ true → a ≡ true) → HasProgress wanted plan a errors errors' → HasProgress wanted plan b errors errors'
progress_stays wanted plan a b errors errors' so h = record {
  stages = h.stages;
  lines = h.lines;
  first = h.first;
  whole = λ ended. h.whole (so ended);
}

module _ (limits : Limits) (text_of : Plan → Report → List ℕ) (in_parts : Bool) (needs : Bool) where
  -- after a run
  pub ends_after : (wanted : Bool) (status : ExitStatus) (input input' output output' errors noted errors' : Option (List ℕ)) (plan : Plan) → has_begun status ≡ true → IsScenario limits input plan → HasProgress wanted plan (has_ended status) errors noted → EndsAs limits text_of in_parts needs status input input' output output' noted errors' → EndsShowing limits text_of in_parts needs wanted status input input' output output' errors errors'
  ends_after true status input input' output output' errors noted errors' plan begun scenario progress ends = record {
    noted = noted;
    lines = subst (λ (was_run : Bool). AddsLines was_run limits (has_ended status) input errors noted) (sym begun) (plan, scenario, progress);
    ends = ends;
  }
  ends_after false status input input' output output' errors noted errors' plan begun scenario progress ends =
      subst (λ (told : Option (List ℕ)). EndsAs limits text_of in_parts needs status input input' output output' told errors') progress.lines ends

  -- without a run
  pub ends_unread : (wanted : Bool) (status : ExitStatus) (input input' output output' errors errors' : Option (List ℕ)) → has_begun status ≡ false → EndsAs limits text_of in_parts needs status input input' output output' errors errors' → EndsShowing limits text_of in_parts needs wanted status input input' output output' errors errors'
  ends_unread true status input input' output output' errors errors' unread ends =
      record {
        noted = errors;
        lines = subst (λ (was_run : Bool). AddsLines was_run limits (has_ended status) input errors errors) (sym unread) refl;
        ends = ends;
      }
  ends_unread false status input input' output output' errors errors' unread ends = ends

  -- with the status of the process
  pub exits : (wanted : Bool) (status : ExitStatus) (code : ℕ) (input input' output output' errors errors' : Option (List ℕ)) → code ≡ status_of status → EndsShowing limits text_of in_parts needs wanted status input input' output output' errors errors' → ExitsShowing limits text_of in_parts needs wanted code input input' output output' errors errors'
  exits true status code input input' output output' errors errors' is ends = record { ended = status; ends = ends; status_is = is }
  exits false status code input input' output output' errors errors' is ends = record { ended = status; ends = ends; status_is = is }
