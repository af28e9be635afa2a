-- What a list of slots says: bytes, ends of rounds and a close, in order. How bytes are cut into pieces doesn't show.
use Rattle.std.specs.Prelude.{◌≡◌, ℕ, List, [], ◌∷◌, ◌++◌, map}
use Rattle.gs_base.specs.Tokens.{Byte, EndOf, Close as Closing, Said}
use Rattle.gs_link.specs.declared.item.Slot.{Slot}
use Rattle.gs_link.specs.declared.item.Slot.TheVariants.{Piece, Round, Close}

-- the bytes of its pieces, a mark for each end of a round, and the close
abbrev pub flat : List Slot → Said
flat [] = []
flat (Piece bytes ∷ slots) = map Byte bytes ++ flat slots
flat (Round r ∷ slots) = EndOf r ∷ flat slots
flat (Close ∷ slots) = Closing ∷ flat slots

-- a list says what its front says, and then what its rest says
abbrev pub SaysInOrder : Type 0
SaysInOrder = (front rest : List Slot) → flat (front ++ rest) ≡ flat front ++ flat rest

-- a piece that is cut in two says the same as the whole piece, whatever stands around it
abbrev pub CuttingIsHidden : Type 0
CuttingIsHidden =
    (before behind : List Slot) (bytes more : List ℕ)
    → flat (before ++ Piece (bytes ++ more) ∷ behind)
    ≡ flat (before ++ Piece bytes ∷ Piece more ∷ behind)
