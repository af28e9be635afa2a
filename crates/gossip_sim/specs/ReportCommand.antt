-- The command without a name: what its options ask for, and how it ends.
use Rattle.std.specs.Prelude.{ℕ, false, true, ◌||◌, List, [], ◌∷◌, codes, Option, Some, None, if◌then◌else◌}
use Rattle.gs_plan.specs.declared.limits.Limits.TheVariants.{Standard}
use Rattle.gs_report.specs.Text.{report_text}
use Rattle.gs_program.specs.Arguments.{IsMisused}
use Rattle.gs_program.specs.Asked.{large, limits_given, progress, progress_given}
use Rattle.gs_program.specs.Options.{Given, Rule, has_option, once, options_given}
use Rattle.gs_program.specs.Program.{EndsWith}
use Rattle.gs_program.specs.Progress.{ExitsShowing}
use Rattle.gossip_sim.specs.declared.report.Way.{Way}
use Rattle.gossip_sim.specs.declared.report.Way.TheVariants.{OverLinks, WithoutLinks}

-- the options that it takes
abbrev pub options : List Rule
options = once (codes "--direct") ∷ large ∷ progress ∷ []

-- How peers are run with these options. Only without links does a run take large scenarios, or show its progress.
abbrev pub way_given : List Given → Option Way
way_given given =
    if has_option given (codes "--direct")
    then Some (WithoutLinks (record { limits = limits_given given; progress = progress_given given }))
    else if has_option given (codes "--large") || has_option given (codes "--progress") then None
    else Some OverLinks

abbrev pub way_asked : Option (List Given) → Option Way
way_asked None = None
way_asked (Some given) = way_given given

-- how these arguments ask for peers to be run; None where they are wrong
abbrev pub asked_for : List (List ℕ) → Option Way
asked_for arguments = way_asked (options_given options arguments)

-- what is written for wrong arguments
abbrev pub usage : List ℕ
usage =
    codes "usage: gossip_sim [--direct [--large] [--progress]]\n--large: up to 4096 peers; a run over links has up to 64\n"

-- how a run in this way ends: over links it needs threads
abbrev pub EndsIn : Way → (status : ℕ) (input input' output output' errors errors' : Option (List ℕ)) → Type 0
EndsIn OverLinks status input input' output output' errors errors' =
    EndsWith Standard report_text false true status input input' output output' errors errors'
EndsIn (WithoutLinks direct) status input input' output output' errors errors' =
    ExitsShowing direct.limits report_text false false direct.progress status input input' output output' errors errors'

-- how the program ends, depending on what is asked for
abbrev pub EndsFor : Option Way → (status : ℕ) (input input' output output' errors errors' : Option (List ℕ)) → Type 0
EndsFor None status input input' output output' errors errors' =
    IsMisused usage status input input' output output' errors errors'
EndsFor (Some way) status input input' output output' errors errors' =
    EndsIn way status input input' output output' errors errors'
