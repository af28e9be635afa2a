-- Where peers stand on the circle. The picture's units are whole, from the left and from above.
use Rattle.std.specs.Prelude.{ℕ, Bool, ◌+◌, ◌-◌, ◌*◌, ◌/◌, ◌%◌, max, nat_le, if◌then◌else◌, List, [], ◌∷◌, slice_get, unwrap_or}
use Rattle.gs_base.specs.declared.names.PeerNo.{PeerNo}
use Rattle.gs_picture.specs.declared.places.Point.{Point}

-- how far discs on the outer circle are from the centre, and how far names
abbrev pub disc_radius : ℕ
disc_radius = 220

abbrev pub label_radius : ℕ
label_radius = 238

-- the centre
abbrev pub centre_x : ℕ
centre_x = 460

abbrev pub centre_y : ℕ
centre_y = 310

-- names stand level where there are up to this many peers, and along the radius where there are more
abbrev pub most_level : ℕ
most_level = 16

-- names stand next to discs where there are up to this many peers; discs are small where there are more
abbrev pub most_named : ℕ
most_named = 64

abbrev pub are_named : ℕ → Bool
are_named count = nat_le count most_named

-- How far the disc of a peer is from the centre, of `count` peers. There is one more circle for each 360 peers. Each is 10 units
-- within the one before it, and peers stand on them in turn.
abbrev pub radius_of : ℕ → PeerNo → ℕ
radius_of count p = disc_radius - 10 * (p.0 % (count / 360 + 1))

-- the sines of 0 to 90 degrees, in ten-thousandths
unfoldable pub sines : List ℕ
sines =
    0 ∷ 175 ∷ 349 ∷ 523 ∷ 698 ∷ 872 ∷ 1045 ∷ 1219 ∷ 1392 ∷ 1564 ∷ 1736 ∷ 1908 ∷ 2079 ∷ 2250
    ∷ 2419 ∷ 2588 ∷ 2756 ∷ 2924 ∷ 3090 ∷ 3256 ∷ 3420 ∷ 3584 ∷ 3746 ∷ 3907 ∷ 4067 ∷ 4226 ∷ 4384 ∷ 4540
    ∷ 4695 ∷ 4848 ∷ 5000 ∷ 5150 ∷ 5299 ∷ 5446 ∷ 5592 ∷ 5736 ∷ 5878 ∷ 6018 ∷ 6157 ∷ 6293 ∷ 6428 ∷ 6561
    ∷ 6691 ∷ 6820 ∷ 6947 ∷ 7071 ∷ 7193 ∷ 7314 ∷ 7431 ∷ 7547 ∷ 7660 ∷ 7771 ∷ 7880 ∷ 7986 ∷ 8090 ∷ 8192
    ∷ 8290 ∷ 8387 ∷ 8480 ∷ 8572 ∷ 8660 ∷ 8746 ∷ 8829 ∷ 8910 ∷ 8988 ∷ 9063 ∷ 9135 ∷ 9205 ∷ 9272 ∷ 9336
    ∷ 9397 ∷ 9455 ∷ 9511 ∷ 9563 ∷ 9613 ∷ 9659 ∷ 9703 ∷ 9744 ∷ 9781 ∷ 9816 ∷ 9848 ∷ 9877 ∷ 9903 ∷ 9925
    ∷ 9945 ∷ 9962 ∷ 9976 ∷ 9986 ∷ 9994 ∷ 9998 ∷ 10_000
    ∷ []

-- the sine of this many degrees in ten-thousandths, and 0 above 90
abbrev pub sine : ℕ → ℕ
sine degrees = unwrap_or (slice_get sines degrees) 0

-- the radius times the sine of this many degrees, rounded down
abbrev pub leg : ℕ → ℕ → ℕ
leg radius degrees = (radius * sine degrees) / 10_000

-- The place at this many degrees from the top, clockwise: to the right and up, to the right and down, to the left and
-- down, to the left and up.
abbrev pub on_circle : ℕ → ℕ → Point
on_circle radius a =
    if nat_le a 90 then record { x = centre_x + leg radius a; y = centre_y - leg radius (90 - a) }
    else if nat_le a 180 then record { x = centre_x + leg radius (180 - a); y = centre_y + leg radius (a - 90) }
    else if nat_le a 270 then record { x = centre_x - leg radius (a - 180); y = centre_y + leg radius (270 - a) }
    else record { x = centre_x - leg radius (360 - a); y = centre_y - leg radius (a - 270) }

-- at how many degrees a peer stands, of `count` peers
abbrev pub degrees : ℕ → PeerNo → ℕ
degrees count p = ((p.0 * 360) / max 1 count) % 360
