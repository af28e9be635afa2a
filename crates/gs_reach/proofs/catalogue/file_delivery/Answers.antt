use Rattle.gs_reach.proofs.Filings.{delivered_more}
use Rattle.gs_reach.proofs.catalogue.file_delivery.Goals as goal

pub returns : goal.returns
returns c = λ before files payload.
    delivered_more payload c.args.one.now before _ _ c.in_ok-payload.payload c.arrival_of.result c.in_ok-payload.ensures c.arrival_of.ensures (files payload)
    (c.in_ok-file.ensures (record { 0 = payload }))
