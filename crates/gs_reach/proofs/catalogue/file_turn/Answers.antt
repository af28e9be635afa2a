use Rattle.gs_reach.proofs.Filings.{turns_more}
use Rattle.gs_reach.proofs.catalogue.file_turn.Goals as goal

pub returns : goal.returns
returns c = λ before files t.
    turns_more t c.args.one.now before _ _ c.in_ok-topic.topic c.turn_of.result c.in_ok-topic.ensures c.turn_of.ensures (files t)
    (c.in_ok-file.ensures t)
