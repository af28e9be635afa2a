use Rattle.std.proofs.Common.{◌∙◌, ap, map}
use Rattle.std.proofs.lemmas.Result.{IfOk-weaker}
use Rattle.gs_base.specs.declared.names.PeerNo.{PeerNo}
use Rattle.gs_reach.specs.declared.listed.Listed.{Listed}
use Rattle.gs_reach.proofs.Listings.{told}
use Rattle.gs_reach.proofs.listing.Listing.messages.Goals as goal

pub returns : goal.returns
returns c =
    let are =
    c.as_slice-2.ensures.value ∙ c.in_ok-numbers.ensures ∙ ap (map (λ (x : PeerNo × Listed). x.0)) c.as_slice.ensures.value in
    IfOk-weaker c.messages_by-messages.result _ _
    (λ list tells count traces report was lives.
    told traces c.args.plan.now report count c.args.self.peers.items c.in_ok-listed.listed _ list was.peers lives c.in_ok-listed.ensures are tells)
    c.messages_by-messages.ensures
