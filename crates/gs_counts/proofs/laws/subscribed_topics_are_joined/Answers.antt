use Rattle.gs_counts.proofs.Joining.{subscribed_are_joined}
use Rattle.gs_counts.proofs.laws.subscribed_topics_are_joined.Goals as goal

pub returns : goal.returns
returns c = λ t L. subscribed_are_joined t L
