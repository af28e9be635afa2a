-- What stands around the circle and the chart.
use Rattle.std.specs.Prelude.{ℕ, ◌*◌, ◌||◌, max, min, nat_le, nat_lt, if◌then◌else◌, List, ◌++◌, decimal, fold, length}
use Rattle.gs_base.specs.declared.names.Topic.{Topic}
use Rattle.gs_plan.specs.declared.plan.Plan.{Plan}
use Rattle.gs_plan.specs.declared.plan.PlannedPeer.{PlannedPeer}
use Rattle.gs_picture.specs.Places.{are_named, most_level, most_named}
use Rattle.gs_picture.specs.Texts.{escaped_all}
use Rattle.gs_picture.specs.declared.pieces.Piece.TheVariants.{TextEnds}
use Rattle.gs_picture.specs.declared.pieces.Part.TheVariants.{Opening, OpeningTall, ViewBox, ViewBoxTall, OpeningEnds, TitleBegins, Peers, Rounds, Messages, GroupBegins, GroupPlaced}
use Rattle.gs_picture.specs.Pieces.{part, piece}

-- how many bytes the longest name has
abbrev pub longest_name : List PlannedPeer → ℕ
longest_name peers = fold (λ so_far (peer : PlannedPeer). max so_far (length peer.name)) 0 peers

-- how much room names that stand along the radius take above the circle, and below it
abbrev pub room : ℕ → ℕ → ℕ
room count letters = if nat_le count most_level || nat_lt most_named count then 0 else 7 * min 32 letters

abbrev pub room_of : Plan → ℕ
room_of plan = room (length plan.peers) (longest_name plan.peers)

-- how high a picture is without that room
abbrev pub height : ℕ
height = 990

-- how wide it is: where there are too many peers for names, a table stands next to the chart
unfoldable pub width : ℕ → ℕ
width count = if are_named count then 920 else 1_200

unfoldable pub opening : ℕ → ℕ → List ℕ
opening wide tall =
    part Opening ++ decimal wide ++ part OpeningTall ++ decimal tall
    ++ part ViewBox ++ decimal wide ++ part ViewBoxTall ++ decimal tall ++ part OpeningEnds

-- the topic, and how many peers, rounds and drawn messages there are
abbrev pub title_text : Plan → Topic → ℕ → List ℕ
title_text plan t messages =
    part TitleBegins ++ escaped_all t.0
    ++ part Peers ++ decimal (length plan.peers)
    ++ part Rounds ++ decimal plan.rounds
    ++ part Messages ++ decimal messages
    ++ piece TextEnds

-- the beginning of a group that stands this far below its place
abbrev pub lowered : ℕ → List ℕ
lowered down = part GroupBegins ++ decimal down ++ part GroupPlaced
