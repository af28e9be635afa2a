use Rattle.std.proofs.Common.{rules, zero-add}
use Rattle.std.proofs.lemmas.List.FromFn.{map-range_with_len_more}
use Rattle.gs_counts.specs.Rows.{no_counts}
use Rattle.gs_counts.proofs.tables.rows.Goals as goal

pub loop-preserved : goal.loop-preserved
loop-preserved c = rw (map-range_with_len_more (λ n. no_counts) 0 c.loop.counter c.loop.counter (zero-add c.loop.counter)) (search rules)
