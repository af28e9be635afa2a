use Rattle.std.proofs.KnownBytes.{Consumes-trans}
use Rattle.gs_streams.proofs.read_within.Goals as goal

pub returns-then-count-longest-clause-front : goal.returns-then-count-longest-clause-front
returns-then-count-longest-clause-front g c =
    (_, Consumes-trans _ _ _ _ _ c.loop.invariant.taken c.in-Ok.ensures.bytes.0)

pub returns-in_err-extend_from_slice-in-Ok-clause-front :
    goal.returns-in_err-extend_from_slice-in-Ok-clause-front
returns-in_err-extend_from_slice-in-Ok-clause-front g c =
    (_, Consumes-trans _ _ _ _ _ c.loop.invariant.taken c.in-Ok.ensures.bytes.0)
