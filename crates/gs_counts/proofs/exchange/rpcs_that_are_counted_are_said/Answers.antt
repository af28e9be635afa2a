use Rattle.std.proofs.Common.{ap, sym, ◌∙◌, length}
use Rattle.gs_counts.proofs.Framed.{spelled_are_framed}
use Rattle.gs_counts.proofs.Went.{told_are_framed}
use Rattle.gs_counts.proofs.exchange.rpcs_that_are_counted_are_said.Goals as goal

pub returns : goal.returns
returns c = λ peer p q L rpcs legal quiet spell.
    told_are_framed p q L ∙ sym (ap length (spelled_are_framed peer L q rpcs legal quiet spell))
