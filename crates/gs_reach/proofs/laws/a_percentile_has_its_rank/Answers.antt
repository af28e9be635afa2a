use Rattle.gs_reach.proofs.Counted.{percentile_none, percentile_not_before, percentile_within}
use Rattle.gs_reach.proofs.laws.a_percentile_has_its_rank.Goals as goal

pub returns : goal.returns
returns c = record {
  within = λ rank n pairs some e. percentile_within rank n pairs some e;
  not_before = λ rank n pairs some above e. percentile_not_before rank n pairs some above e;
  none = λ rank pairs some e. percentile_none rank pairs some e;
}
