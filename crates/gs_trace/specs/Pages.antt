-- A text that is written page by page.
use Rattle.std.specs.Prelude.{◌≡◌, ◌++◌, ℕ, List, Option}
use Rattle.std.specs.Io.KnownBytes.{Appends}

-- The text comes after what waits on the page. A front of both was added to the output, and the page has the rest.
pub record Adds (text page page' : List ℕ) (output output' : Option (List ℕ)) : Type 0 where
  pub front : List ℕ
  pub written : Appends output output' front
  pub rest : page ++ text ≡ front ++ page'
