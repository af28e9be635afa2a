-- The topic of a picture where none is named.
use Rattle.std.specs.Prelude.{List, [], ◌∷◌, Option, Some, None}
use Rattle.std.specs.Option.{option_or}
use Rattle.gs_base.specs.declared.names.Topic.{Topic}
use Rattle.gs_plan.specs.declared.plan.Line.{Line}
use Rattle.gs_plan.specs.declared.plan.Act.{Act}
use Rattle.gs_plan.specs.declared.plan.Act.TheVariants.{Subscribe, Unsubscribe, Publish, Raw, HangUp}

-- the topic that an act subscribes to, if it does
abbrev pub subscribes_to : Act → Option Topic
subscribes_to (Subscribe t) = Some t
subscribes_to (Unsubscribe t) = None
subscribes_to (Publish t payload) = None
subscribes_to (Raw q bytes) = None
subscribes_to (HangUp q) = None

-- the first one that the script subscribes to, in file order
abbrev pub first_topic : List Line → Option Topic
first_topic [] = None
first_topic (line ∷ lines) = option_or (subscribes_to line.what) (first_topic lines)
