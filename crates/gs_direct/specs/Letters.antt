-- What a letter makes its receiver do.
use Rattle.std.specs.Prelude.{List, [], ◌∷◌, ◌++◌, map, Option, None, Some}
use Rattle.std.specs.List.{flat_map, AllByRecursion}
use Rattle.gs_base.specs.declared.names.PeerNo.{PeerNo}
use Rattle.gs_rules.specs.Rounds.{Todo, Hear, HearFault, HearGone}
use Rattle.gs_player.specs.Playing.{RpcsFit}
use Rattle.gs_direct.specs.declared.letter.Letter.{Letter}
use Rattle.gs_direct.specs.declared.letter.Ending.{Ending}
use Rattle.gs_direct.specs.declared.letter.Ending.TheVariants.{Fault, Gone}

-- what the receiver does at an ending
abbrev pub ending_heard : PeerNo → Option Ending → List Todo
ending_heard q None = []
ending_heard q (Some Fault) = HearFault q ∷ []
ending_heard q (Some Gone) = HearGone q ∷ []

-- the receiver hears its RPCs in order, and then its ending
abbrev pub heard_of : Letter → List Todo
heard_of letter = map (Hear letter.from) letter.rpcs.items ++ ending_heard letter.from letter.ending

-- one letter after the other
abbrev pub all_heard : List Letter → List Todo
all_heard letters = flat_map heard_of letters

-- each RPC of these letters fits a frame
abbrev pub LettersFit : List Letter → Type 0
LettersFit letters = AllByRecursion (λ (letter : Letter). RpcsFit letter.rpcs.items) letters
