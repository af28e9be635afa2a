-- What is left of a key after a part.
use Rattle.std.specs.Prelude.{ℕ, ◌+◌, ◌*◌, List, [], length, Option, Some, None}
use Rattle.std.specs.Borrow.{Bor}
use Rattle.gs_edit.specs.Keys.{path_of}

-- the parts that are left
abbrev pub rest_of : Option (Bor (List ℕ)) → List (List ℕ)
rest_of None = []
rest_of (Some rest) = path_of rest.now

-- a measure of the text that is left
abbrev pub text_left : Option (Bor (List ℕ)) → ℕ
text_left None = 0
text_left (Some rest) = 2 * length rest.now + 2
