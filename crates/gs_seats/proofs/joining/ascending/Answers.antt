use Rattle.std.proofs.Common.{◌∙◌, ◌++◌, ap, append-nil, map, sym}
use Rattle.gs_seats.specs.Rounds.{peer_no}
use Rattle.gs_seats.proofs.joining.ascending.Goals as goal

pub returns-clause-numbers : goal.returns-clause-numbers
returns-clause-numbers c =
    sym (append-nil c.loop-number.list.items)
    ∙ ap (λ ns. c.loop-number.list.items ++ map peer_no ns) (sym c.in-None.ensures.steps.0)
    ∙ c.loop-number.invariant
