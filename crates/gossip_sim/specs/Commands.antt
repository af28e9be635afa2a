-- Which command the arguments name, and how each ends.
use Rattle.std.specs.Prelude.{ℕ, List, [], ◌∷◌, codes, Option, Some, None, if◌then◌else◌}
use Rattle.gs_program.specs.Options.{same}
use Rattle.gossip_sim.specs.declared.command.Command.{Command}
use Rattle.gossip_sim.specs.declared.command.Command.TheVariants.{Report, Stats, Trace, Scores, Picture, Check, Edit}
use Rattle.gossip_sim.specs.CheckCommand.{EndsFor as EndsChecking}
use Rattle.gossip_sim.specs.EditCommand.{EndsFor as EndsEditing}
use Rattle.gossip_sim.specs.PictureCommand.{EndsFor as EndsDrawing}
use Rattle.gossip_sim.specs.ReportCommand.{asked_for, EndsFor as EndsReporting}
use Rattle.gossip_sim.specs.ScoresCommand.{EndsFor as EndsScoring}
use Rattle.gossip_sim.specs.StatsCommand.{EndsFor as EndsCounting}
use Rattle.gossip_sim.specs.TraceCommand.{EndsFor as EndsTracing}

-- the command that a word names
abbrev pub command_named : List ℕ → Option Command
command_named word =
    if same word (codes "stats") then Some Stats
    else if same word (codes "trace") then Some Trace
    else if same word (codes "scores") then Some Scores
    else if same word (codes "picture") then Some Picture
    else if same word (codes "check") then Some Check
    else if same word (codes "edit") then Some Edit
    else None

-- a command, and its own arguments
pub record Call : Type 0 where
  pub command : Command
  pub arguments : List (List ℕ)

-- the report is what is wanted where the first argument names no command
abbrev pub call_with : Option Command → List ℕ → List (List ℕ) → Call
call_with None first more = record { command = Report; arguments = first ∷ more }
call_with (Some command) first more = record { command = command; arguments = more }

abbrev pub call_in : List (List ℕ) → Call
call_in [] = record { command = Report; arguments = [] }
call_in (first ∷ more) = call_with (command_named first) first more

-- how a command ends with these arguments
abbrev pub EndsBy : Command → List (List ℕ)
    → (status : ℕ) (input input' output output' errors errors' : Option (List ℕ)) → Type 0
EndsBy Report arguments status input input' output output' errors errors' =
    EndsReporting (asked_for arguments) status input input' output output' errors errors'
EndsBy Stats arguments status input input' output output' errors errors' =
    EndsCounting arguments status input input' output output' errors errors'
EndsBy Trace arguments status input input' output output' errors errors' =
    EndsTracing arguments status input input' output output' errors errors'
EndsBy Scores arguments status input input' output output' errors errors' =
    EndsScoring arguments status input input' output output' errors errors'
EndsBy Picture arguments status input input' output output' errors errors' =
    EndsDrawing arguments status input input' output output' errors errors'
EndsBy Check arguments status input input' output output' errors errors' =
    EndsChecking arguments status input input' output output' errors errors'
EndsBy Edit arguments status input input' output output' errors errors' =
    EndsEditing arguments status input input' output output' errors errors'

abbrev pub EndsFor : Call → (status : ℕ) (input input' output output' errors errors' : Option (List ℕ)) → Type 0
EndsFor call status input input' output output' errors errors' =
    EndsBy call.command call.arguments status input input' output output' errors errors'
