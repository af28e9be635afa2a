-- The command `picture`: what its options ask for, and how it ends.
use Rattle.std.specs.Prelude.{ℕ, false, List, [], ◌∷◌, codes, Option, Some, None, unwrap_or}
use Rattle.gs_base.specs.declared.names.Topic.{Topic}
use Rattle.gs_plan.specs.declared.plan.Plan.{Plan}
use Rattle.gs_report.specs.declared.report.Report.{Report}
use Rattle.gs_figure_sheets.specs.Choices.{spelled}
use Rattle.gs_picture.specs.Picture.{picture}
use Rattle.gs_picture.specs.Topics.{first_topic}
use Rattle.gs_program.specs.Asked.{EndsAsked, large, progress}
use Rattle.gs_program.specs.Options.{Given, Rule, once_with_value, options_given, value_of}
use Rattle.gossip_sim.specs.declared.picture.Asked.{Asked}
use Rattle.gossip_sim.specs.declared.picture.Subject.{Subject}
use Rattle.gossip_sim.specs.declared.picture.Subject.TheVariants.{First, Named}

-- the options that it takes
abbrev pub options : List Rule
options = large ∷ progress ∷ once_with_value (codes "--of") ∷ once_with_value (codes "--topic") ∷ []

-- What is asked for: the name of a topic, or None for the first topic; and the names of the peers that count, or None for
-- all.
pub record Wishes : Type 0 where
  pub topic : Option (List ℕ)
  pub among : Option (List ℕ)

-- the name of the topic that is asked for: None where it is the first one
abbrev pub name_in : Subject → Option (List ℕ)
name_in First = None
name_in (Named name) = Some name.now

abbrev pub wishes_of : Asked → Wishes
wishes_of asked = record { topic = name_in asked.topic; among = spelled asked.among }

-- the picture that options ask for
abbrev pub wishes_given : List Given → Wishes
wishes_given given = record { topic = value_of given (codes "--topic"); among = value_of given (codes "--of") }

abbrev pub wishes_for : List Given → Option Wishes
wishes_for given = Some (wishes_given given)

-- the line that is written for wrong arguments
unfoldable pub usage : List ℕ
usage = codes "usage: gossip_picture [--large] [--progress] [--of PEERS] [--topic TOPIC]\n"

-- The topic of a name. Where there is no name, it is the first topic that the script subscribes to, or the empty one where
-- there is none.
abbrev pub topic_in : Plan → Option (List ℕ) → Topic
topic_in plan None = unwrap_or (first_topic plan.script) (record { 0 = [] })
topic_in plan (Some name) = record { 0 = name }

-- the picture of a run for that topic, by these peers
abbrev pub printed : Wishes → Plan → Report → List ℕ
printed w plan report = picture plan report (topic_in plan w.topic) w.among

-- how it ends with these arguments
abbrev pub EndsFor :
    List (List ℕ)
    → (status : ℕ) (input input' output output' errors errors' : Option (List ℕ))
    → Type 0
EndsFor arguments status input input' output output' errors errors' =
    EndsAsked usage printed false wishes_for (options_given options arguments) status
    input input' output output' errors errors'
