use Rattle.std.proofs.Common.{◌∙◌, List, ap, ap₂}
use Rattle.std.proofs.lemmas.Result.{IfOk-weaker}
use Rattle.gs_base.specs.declared.names.PeerNo.{PeerNo}
use Rattle.gs_reach.specs.declared.listed.Listed.{Listed}
use Rattle.gs_reach.specs.Listed.{listed}
use Rattle.gs_reach.specs.Messages.{messages_by, numbers_of}
use Rattle.gs_reach.proofs.messages.messages_of.Goals as goal

pub returns : goal.returns
returns c =
    IfOk-weaker c.messages_by-messages.result _ _
    (λ list tells. tells
    ∙ ap₂ (λ (l : Listed) (numbers : List PeerNo). messages_by c.args.plan.now l numbers)
    (c.in_ok-listed.ensures ∙ ap listed c.as_slice-2.ensures.value)
    (c.as_slice-3.ensures.value ∙ c.in_ok-numbers.ensures ∙ ap numbers_of c.as_slice.ensures.value))
    c.messages_by-messages.ensures
