use Rattle.gs_counts.proofs.OneEnd.{one_end, one_payload}
use Rattle.gs_counts.proofs.laws.each_message_becomes_one_thing.Goals as goal

pub returns-clause-one : goal.returns-clause-one
returns-clause-one c = λ fate s m marks. one_end s m (fate m marks)

pub returns-clause-payload : goal.returns-clause-payload
returns-clause-payload c = λ fate s m marks. one_payload s m (fate m marks)
