use Rattle.gs_reach.proofs.Publishers.{no_publishers}
use Rattle.gs_reach.proofs.laws.publishers_are_no_subscribers.Goals as goal

pub returns : goal.returns
returns c = λ plan report. no_publishers plan report
