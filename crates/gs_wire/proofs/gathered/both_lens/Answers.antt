use Rattle.std.proofs.Common.{◌∙◌, sym}
use Rattle.gs_wire.proofs.Gathering.{both_length}
use Rattle.gs_wire.proofs.gathered.both_lens.Goals as goal

pub returns-in-Some-Some : goal.returns-in-Some-Some
returns-in-Some-Some c = λ u v first second.
    both_length u.control v.control _ _ (sym c.in-Some-Some.is-0 ∙ first) (sym c.in-Some-Some.is-1 ∙ second)
