use Rattle.std.proofs.Common.{[], map}
use Rattle.gs_params.specs.Seeding.{seeded_after, seeded_word}
use Rattle.gs_rules.specs.Modes.{exact}
use Rattle.gs_rules.specs.Rounds.{Hear}
use Rattle.gs_player.specs.Playing.{RpcsFit, Runs}
use Rattle.gs_direct.proofs.peer.hear_rpcs.Given as goal

-- those so far are heard
abbrev pub invariant-loop-rpc : goal.invariant-loop-rpc
invariant-loop-rpc g l =
    (goal.iterator-loop-rpc g).can_next l.rpc-iterator
    × (goal.iterator-loop-rpc g).is_finite l.rpc-iterator
    × Runs (exact seeded_word seeded_after) l.now (map (Hear l.from) l.yielded) l.fn.router l.fn.words l.router l.words []
    × RpcsFit l.rpc-iterator.rest.items
