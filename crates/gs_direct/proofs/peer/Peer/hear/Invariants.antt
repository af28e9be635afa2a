use Rattle.std.proofs.Common.{◌≡◌, []}
use Rattle.gs_params.specs.Seeding.{seeded_after, seeded_word}
use Rattle.gs_rules.specs.Modes.{exact}
use Rattle.gs_player.specs.Playing.{Runs}
use Rattle.gs_direct.specs.Letters.{LettersFit, all_heard}
use Rattle.gs_direct.proofs.peer.Peer.hear.Given as goal

-- those so far are heard, and nothing else has changed
abbrev pub invariant-loop-letter : goal.invariant-loop-letter
invariant-loop-letter g l =
    (goal.iterator-loop-letter g).can_next l.letter-iterator
    × (goal.iterator-loop-letter g).is_finite l.letter-iterator
    × Runs (exact seeded_word seeded_after) l.now (all_heard l.yielded) l.fn.self.router l.fn.self.words l.self.router l.self.words []
    × LettersFit l.letter-iterator.rest.items
    × (l.self ≡ record l.fn.self { router = l.self.router; words = l.self.words })
