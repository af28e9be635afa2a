use Rattle.gs_reach.proofs.Counted.{first_is_least, percentages_ascend, ranks_ascend}
use Rattle.gs_reach.proofs.laws.more_subscribers_take_no_fewer_rounds.Goals as goal

pub returns : goal.returns
returns c = record {
  ranks = λ lower higher m n pairs some le e above. ranks_ascend lower higher m n pairs some le e above;
  percentages = λ lower higher m n pairs le e above. percentages_ascend lower higher m n pairs le e above;
  first = λ percent m n pairs e above. first_is_least percent m n pairs e above;
}
