-- Worked rows of the definitions.
use Rattle.std.proofs.Common.{◌≡◌, Bool, true, false, true≢false, List, [], ◌∷◌, refl, ap}
use Rattle.gs_base.specs.Tokens.{Byte, EndOf, Close as Closing}
use Rattle.gs_link.specs.declared.item.Slot.{Slot}
use Rattle.gs_link.specs.declared.item.Slot.TheVariants.{Piece, Round, Close}
use Rattle.gs_link.specs.Runs.{closes, ClosesLast}
use Rattle.gs_link.specs.Ends.{with_close}
use Rattle.gs_link.specs.Flat.{flat}

-- a frame in two pieces, the end of round 0, a frame in one piece, and the close
said : flat (Piece (3 ∷ 7 ∷ []) ∷ Piece (8 ∷ 1 ∷ []) ∷ Round 0 ∷ Piece (0 ∷ []) ∷ Close ∷ [])
    ≡ Byte 3 ∷ Byte 7 ∷ Byte 8 ∷ Byte 1 ∷ EndOf 0 ∷ Byte 0 ∷ Closing ∷ []
said = refl

unclosed : closes (Piece (0 ∷ []) ∷ Round 4 ∷ []) ≡ false
unclosed = refl

closed : closes (Round 4 ∷ Close ∷ []) ≡ true
closed = refl

closed-now : with_close (Round 4 ∷ []) ≡ Round 4 ∷ Close ∷ []
closed-now = refl

closed-earlier : with_close (Round 4 ∷ Close ∷ []) ≡ Round 4 ∷ Close ∷ []
closed-earlier = refl

abbrev has_more : List Slot → Bool
has_more [] = false
has_more (slot ∷ slots) = true

-- nothing may come after a close, not even a second close
after-a-close : ¬ ClosesLast (Close ∷ Round 4 ∷ [])
after-a-close last = true≢false (ap has_more (last [] (Round 4 ∷ []) refl))

closed-twice : ¬ ClosesLast (Close ∷ Close ∷ [])
closed-twice last = true≢false (ap closes (last [] (Close ∷ []) refl))
