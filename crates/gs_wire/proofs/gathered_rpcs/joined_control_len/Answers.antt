use Rattle.std.proofs.Common.{◌∙◌, ap, sym}
use Rattle.gs_wire.proofs.JoinedLengths.{both_length_within}
use Rattle.gs_wire.proofs.gathered_rpcs.joined_control_len.Goals as goal

pub returns-in-Some-Some : goal.returns-in-Some-Some
returns-in-Some-Some c = λ o p first second.
    rw c.saturating_add.ensures (both_length_within o p _ _ _ (sym c.in-Some-Some.is-0 ∙ first) (sym c.in-Some-Some.is-1 ∙ second))
