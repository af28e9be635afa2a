-- A program that runs as its options ask ends as the command does.
use Rattle.std.proofs.Common.{◌≡◌, ℕ, Bool, false, List, Option, Some, subst, subst₂}
use Rattle.gs_plan.specs.declared.limits.Limits.{Limits}
use Rattle.gs_plan.specs.declared.plan.Plan.{Plan}
use Rattle.gs_report.specs.declared.report.Report.{Report}
use Rattle.gs_program.specs.Asked.{EndsWished, limits_given, progress_given}
use Rattle.gs_program.specs.Options.{Given}
use Rattle.gs_program.specs.Progress.{ExitsShowing}

pub wished : {W : Type 0} (usage : List ℕ) (text_of : W → Plan → Report → List ℕ) (in_parts : Bool) (given : List Given) (wishes : Option W)
    (w : W) (limits : Limits) (progress : Bool) (status : ℕ) (input input' output output' errors errors' : Option (List ℕ))
    → Some w ≡ wishes → limits ≡ limits_given given → progress ≡ progress_given given
    → ExitsShowing limits (text_of w) in_parts false progress status input input' output output' errors errors'
    → EndsWished usage text_of in_parts given wishes status input input' output output' errors errors'
wished {W} usage text_of in_parts given wishes w limits progress status input input' output output' errors errors' asked limits_is progress_is ends =
    subst (λ (o : Option W). EndsWished usage text_of in_parts given o status input input' output output' errors errors') asked
    (subst₂ (λ (l : Limits) (p : Bool). ExitsShowing l (text_of w) in_parts false p status input input' output output' errors errors') limits_is progress_is ends)
