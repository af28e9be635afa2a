use Rattle.std.proofs.Common.{length, arith}
use Rattle.gs_params.specs.Seeding.{new_seeded}
use Rattle.gs_params.proofs.Seeded.{list_first}
use Rattle.gs_params.proofs.seeded_words.seeded_words_give_their_list_first.Goals as goal

pub returns : goal.returns
returns c = λ list seed peer n. list_first (length list) n (new_seeded list seed peer) (omega arith)
