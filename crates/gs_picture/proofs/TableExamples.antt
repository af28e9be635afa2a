-- Worked rows of the table next to the chart, and the sizes that depend on the number of peers.
use Rattle.std.proofs.Common.{◌≡◌, ◌+◌, true, false, ◌++◌, codes, refl}
use Rattle.std.specs.Fmt.{digits}
use Rattle.gs_reach.specs.declared.distribution.Within.{Within}
use Rattle.gs_picture.specs.Circle.{dot_radius}
use Rattle.gs_picture.specs.Frame.{width}
use Rattle.gs_picture.specs.Pieces.{part, piece}
use Rattle.gs_picture.specs.Places.{are_named}
use Rattle.gs_picture.specs.Table.{down, percent, row_text}

-- ---- sizes

names_stand_up_to_64_peers : are_named 64 ≡ true
names_stand_up_to_64_peers = refl

a_65th_peer_leaves_all_without : are_named 65 ≡ false
a_65th_peer_leaves_all_without = refl

the_table_takes_280_units : width 65 ≡ width 64 + 280
unfolding width
the_table_takes_280_units = refl

discs_of_256_peers_are_larger : dot_radius 256 ≡ dot_radius 257 + 1
discs_of_256_peers_are_larger = refl

-- ---- rows

-- the axis lies at 940, and the first of 25 rows is still below the circle, which ends at 533
the_last_row_stands_near_the_axis : down 0 ≡ 936
the_last_row_stands_near_the_axis = refl

the_first_of_25_rows_has_24_below_it : down 24 ≡ 576
the_first_of_25_rows_has_24_below_it = refl

-- 5 of 13 are 38.46 percent
percents_are_rounded_down : percent 13 5 ≡ 38
percents_are_rounded_down = refl

all_are_100_percent : percent 13 13 ≡ 100
all_are_100_percent = refl

none_of_none_is_0_percent : percent 0 0 ≡ 0
none_of_none_is_0_percent = refl

abbrev five_of_thirteen : Within
five_of_thirteen = record { limit = 5; reached = 5 }

a_row_has_a_bar_and_its_numbers :
    row_text 13 906 five_of_thirteen
    ≡ codes "<text class=\"end\" x=\"950\" y=\"906\">5</text><path class=\"course bar\" d=\"M960 902h38\"/>"
    ++ codes "<text x=\"1070\" y=\"906\">5 (38%)</text>\n"
unfolding part piece digits
a_row_has_a_bar_and_its_numbers = refl
