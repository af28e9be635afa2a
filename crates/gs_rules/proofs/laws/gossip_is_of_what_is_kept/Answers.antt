use Rattle.gs_rules.proofs.Gossip.{gossip_few, gossip_is_kept}
use Rattle.gs_rules.proofs.laws.gossip_is_of_what_is_kept.Goals as goal

pub returns-clause-lately : goal.returns-clause-lately
returns-clause-lately c = gossip_is_kept

pub returns-clause-few : goal.returns-clause-few
returns-clause-few c = gossip_few
