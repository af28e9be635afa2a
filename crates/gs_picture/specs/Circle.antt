-- The texts of what stands on and in the circle.
use Rattle.std.specs.Prelude.{ℕ, ◌+◌, ◌%◌, Bool, true, false, ◌&&◌, ◌||◌, ◌==◌, nat_le, nat_lt, if◌then◌else◌, List, [], ◌++◌, codes, decimal}
use Rattle.std.specs.List.{flat_map}
use Rattle.gs_base.specs.declared.names.PeerNo.{PeerNo}
use Rattle.gs_plan.specs.declared.plan.Plan.{Plan}
use Rattle.gs_report.specs.Text.{name_of}
use Rattle.gs_picture.specs.declared.discs.Class.{Class}
use Rattle.gs_picture.specs.declared.discs.Class.TheVariants.{Fair, BelowZero, BelowGossip, BelowPublish, BelowGraylist, Unscored}
use Rattle.gs_picture.specs.declared.discs.Disc.{Disc}
use Rattle.gs_picture.specs.declared.edges.Edge.{Edge}
use Rattle.gs_picture.specs.declared.places.Point.{Point}
use Rattle.gs_picture.specs.Places.{are_named, degrees, label_radius, most_level, on_circle, radius_of}
use Rattle.gs_picture.specs.Texts.{escaped_all, place_text}
use Rattle.gs_picture.specs.declared.pieces.Piece.TheVariants.{EdgeBegins, EdgeFrom, EdgeTo, PathEnds, DiscBegins, MarkPlace, DiscMark, DiscEnds, DotRadius, DotEnds, NameBegins, NameTurn, NameText, TagEnds, TextEnds}
use Rattle.gs_picture.specs.declared.pieces.Part.TheVariants.{CrowdBegins, GroupEnds}
use Rattle.gs_picture.specs.Pieces.{part, piece}

-- ---- edges

-- where the disc of a peer stands, of `count` peers
abbrev pub stands : ℕ → PeerNo → Point
stands count p = on_circle (radius_of count p) (degrees count p)

-- an arrow shows that only the one at its tail has the other
abbrev pub edge_kind : Bool → List ℕ
edge_kind true = codes "both"
edge_kind false = codes "one"

abbrev pub edge_text : ℕ → Edge → List ℕ
edge_text count e =
    piece EdgeBegins ++ edge_kind e.both ++ piece EdgeFrom ++ place_text (stands count e.from)
    ++ piece EdgeTo ++ place_text (stands count e.to) ++ piece PathEnds

-- ---- discs

-- the name of a class in the style, its mark in the disc, and its words in the legend
abbrev pub class_name : Class → List ℕ
class_name Fair = codes "fair"
class_name BelowZero = codes "zero"
class_name BelowGossip = codes "gossip"
class_name BelowPublish = codes "publish"
class_name BelowGraylist = codes "graylist"
class_name Unscored = codes "unscored"

abbrev pub class_mark : Class → List ℕ
class_mark Fair = codes "+"
class_mark BelowZero = codes "-"
class_mark BelowGossip = codes "g"
class_mark BelowPublish = codes "p"
class_mark BelowGraylist = codes "x"
class_mark Unscored = codes "?"

unfoldable pub class_words : Class → List ℕ
class_words Fair = codes "0 or more"
class_words BelowZero = codes "below 0"
class_words BelowGossip = codes "below the gossip threshold"
class_words BelowPublish = codes "below the publish threshold"
class_words BelowGraylist = codes "below the graylist threshold"
class_words Unscored = codes "there is no such score"

-- a peer that is not subscribed is hollow
abbrev pub filling : Bool → List ℕ
filling true = []
filling false = codes " off"

abbrev pub disc_begins : Point → Class → Bool → List ℕ
disc_begins p class subscribed =
    piece DiscBegins ++ class_name class ++ filling subscribed ++ piece MarkPlace ++ place_text p

-- how a large disc ends, which has a mark
abbrev pub marked : Class → List ℕ
marked class = piece DiscMark ++ class_mark class ++ piece DiscEnds

-- how a disc ends that has no mark
abbrev pub unmarked_disc : ℕ → List ℕ
unmarked_disc radius = piece DotRadius ++ decimal radius ++ piece DotEnds

-- how large discs are where there are too many peers for names
abbrev pub dot_radius : ℕ → ℕ
dot_radius count = if nat_le count 256 then 3 else 2

-- where there are too many peers for names, discs are small and have no marks
abbrev pub disc_ends : ℕ → Class → List ℕ
disc_ends count class = if are_named count then marked class else unmarked_disc (dot_radius count)

abbrev pub disc_text : ℕ → Disc → List ℕ
disc_text count d = disc_begins (stands count d.peer) d.class d.subscribed ++ disc_ends count d.class

-- ---- names

-- whether a name begins or ends at its place: it goes outward
abbrev pub outward : ℕ → List ℕ
outward a = if nat_lt a 180 then codes "start" else codes "end"

-- one that stands level at the top or the bottom has its middle there
abbrev pub anchor : Bool → ℕ → List ℕ
anchor level a = if level && (a == 0 || a == 180) then codes "middle" else outward a

-- by how many degrees it is turned: not at all, or along the radius
abbrev pub turn : Bool → ℕ → ℕ
turn level a = if level then 0 else if nat_lt a 180 then (a + 270) % 360 else (a + 90) % 360

abbrev pub label_at : Bool → ℕ → List ℕ → List ℕ
label_at level a name =
    piece NameBegins ++ anchor level a ++ piece MarkPlace ++ place_text (on_circle label_radius a)
    ++ piece NameTurn ++ decimal (turn level a) ++ piece NameText ++ escaped_all name ++ piece TextEnds

-- the names stand level where there are few
abbrev pub label_text : Plan → ℕ → Disc → List ℕ
label_text plan count d = label_at (nat_le count most_level) (degrees count d.peer) (name_of plan d.peer)

-- the names of all discs, or none where there are too many
abbrev pub labels_text : Plan → ℕ → List Disc → List ℕ
labels_text plan count discs = if are_named count then flat_map (label_text plan count) discs else []

-- ---- many peers

-- how faint edges are
abbrev pub crowd_kind : ℕ → List ℕ
crowd_kind count = if nat_le count 256 then codes "hundreds" else codes "thousands"

-- where there are too many peers for names, a group around edges and discs
abbrev pub crowd_begins : ℕ → List ℕ
crowd_begins count = if are_named count then [] else part CrowdBegins ++ crowd_kind count ++ piece TagEnds

abbrev pub crowd_ends : ℕ → List ℕ
crowd_ends count = if are_named count then [] else part GroupEnds

-- ---- the circle

unfoldable pub circle_text : Plan → ℕ → List Edge → List Disc → List ℕ
circle_text plan count edges discs =
    crowd_begins count ++ flat_map (edge_text count) edges ++ flat_map (disc_text count) discs ++ crowd_ends count
    ++ labels_text plan count discs
