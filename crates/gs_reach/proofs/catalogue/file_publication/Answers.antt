use Rattle.gs_reach.proofs.Filings.{published_more}
use Rattle.gs_reach.proofs.catalogue.file_publication.Goals as goal

pub returns : goal.returns
returns c = λ before files m.
    published_more m c.args.one.now before _ _ c.in_ok-said.said c.arrival_of.result c.in_ok-said.ensures c.arrival_of.ensures (files m)
    (c.in_ok-file.ensures (record { topic = m.topic; payload = m.payload }))
