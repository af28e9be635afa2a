-- The legend: what the discs and the lines between them mean.
use Rattle.std.specs.Prelude.{ℕ, ◌+◌, Bool, true, if◌then◌else◌, List, ◌++◌, decimal, Option}
use Rattle.gs_picture.specs.declared.discs.Class.{Class}
use Rattle.gs_picture.specs.declared.discs.Class.TheVariants.{Fair, BelowZero, BelowGossip, BelowPublish, BelowGraylist, Unscored}
use Rattle.gs_picture.specs.Circle.{class_words, disc_begins, marked, unmarked_disc}
use Rattle.gs_picture.specs.declared.pieces.Piece.TheVariants.{TextEnds, WordsAcross, WordsDown, TagEnds, LegendHead, LegendHeadEnds}
use Rattle.gs_picture.specs.Pieces.{crowd_words, legend_words, piece}
use Rattle.gs_picture.specs.Texts.{among_text}

-- where the discs of its columns and rows stand
abbrev pub first_column : ℕ
first_column = 69

abbrev pub second_column : ℕ
second_column = 329

abbrev pub third_column : ℕ
third_column = 589

abbrev pub first_row : ℕ
first_row = 612

abbrev pub second_row : ℕ
second_row = 636

-- how the disc of a class ends: it has a mark if those of peers have marks
abbrev pub legend_disc_ends : Bool → Class → List ℕ
legend_disc_ends named class = if named then marked class else unmarked_disc 9

-- a class: its disc, and its words beside it
unfoldable pub legend_class : Bool → ℕ → ℕ → Class → List ℕ
legend_class named x y class =
    disc_begins (record { x = x; y = y }) class true ++ legend_disc_ends named class
    ++ piece WordsAcross ++ decimal (x + 16) ++ piece WordsDown ++ decimal (y + 4) ++ piece TagEnds ++ class_words class
    ++ piece TextEnds

-- whose scores colour the discs
abbrev pub legend_head : Option (List ℕ) → List ℕ
legend_head names = piece LegendHead ++ among_text names ++ piece LegendHeadEnds

-- what lines and hollow discs mean, and where peers stand if they have no names
abbrev pub line_words : Bool → List ℕ
line_words named = if named then legend_words else crowd_words

unfoldable pub legend_text : Bool → Option (List ℕ) → List ℕ
legend_text named names =
    legend_head names ++ line_words named
    ++ legend_class named first_column first_row Fair
    ++ legend_class named second_column first_row BelowZero
    ++ legend_class named third_column first_row BelowGossip
    ++ legend_class named first_column second_row BelowPublish
    ++ legend_class named second_column second_row BelowGraylist
    ++ legend_class named third_column second_row Unscored
