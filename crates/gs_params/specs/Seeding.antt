-- Random words: those of a list, and then those of a generator.
use Rattle.std.specs.Prelude.{ℕ, ◌+◌, nat_lt, if◌then◌else◌, List, length, slice_index}
use Rattle.rand_pcg.specs.Lcg.{Lcg, started, increment_of}
use Rattle.rand_pcg.specs.Pcg.{multiplier_64, pcg32}
use Rattle.gs_base.specs.declared.names.PeerNo.{PeerNo}

-- the PCG32 generator that begins at the seed, in the stream of the peer's number
abbrev pub generator_of : ℕ → PeerNo → Lcg
generator_of seed peer = started 64 multiplier_64 seed (increment_of 64 peer.0)

abbrev pub generator_word : Lcg → ℕ
generator_word g = (pcg32 g).0

abbrev pub generator_after : Lcg → Lcg
generator_after g = (pcg32 g).1

-- What seeded words were made from, and how far they were drawn.
pub record SeededState : Type 0 where
  -- the whole list
  pub list : List ℕ
  -- how many of the list's words were given
  pub given : ℕ
  pub seed : ℕ
  pub peer : PeerNo
  pub generator : Lcg

-- seeded words before any was drawn
abbrev pub new_seeded : List ℕ → ℕ → PeerNo → SeededState
new_seeded list seed peer =
    record { list = list; given = 0; seed = seed; peer = peer; generator = generator_of seed peer }

-- the next word: the list's, and after its end the generator's
abbrev pub seeded_word : SeededState → ℕ
seeded_word s = if nat_lt s.given (length s.list) then slice_index s.list s.given else generator_word s.generator

abbrev pub seeded_after : SeededState → SeededState
seeded_after s =
    if nat_lt s.given (length s.list) then record s { given = s.given + 1 }
    else record s { generator = generator_after s.generator }
