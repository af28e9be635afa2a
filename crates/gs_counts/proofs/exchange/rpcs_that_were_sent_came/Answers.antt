use Rattle.gs_counts.proofs.Exchanged.{in_each_row, over_each}
use Rattle.gs_counts.proofs.exchange.rpcs_that_were_sent_came.Goals as goal

pub returns-clause-amounts : goal.returns-clause-amounts
returns-clause-amounts c = λ plan report is. over_each plan report is

pub returns-clause-rows : goal.returns-clause-rows
returns-clause-rows c = λ plan report of is. in_each_row plan report of is
