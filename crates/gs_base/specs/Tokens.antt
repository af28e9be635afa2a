use Rattle.std.specs.Prelude.{ℕ, List, [], ◌∷◌}

-- a byte, the end of a round, or the close
pub data Token : Type 0 where
  Byte : ℕ → Token
  EndOf : ℕ → Token
  Close : Token

-- what one peer says to another, in order
abbrev pub Said : Type 0
Said = List Token

-- its bytes, without the ends of rounds and the close
abbrev pub bytes_of : Said → List ℕ
bytes_of [] = []
bytes_of (Byte b ∷ w) = b ∷ bytes_of w
bytes_of (EndOf r ∷ w) = bytes_of w
bytes_of (Close ∷ w) = bytes_of w
