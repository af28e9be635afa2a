use Rattle.std.proofs.Common.{rules, zero-add}
use Rattle.std.specs.Prelude.{Option, None}
use Rattle.std.proofs.lemmas.List.FromFn.{map-range_with_len_more}
use Rattle.gs_counts.specs.declared.span.Span.{Span}
use Rattle.gs_counts.proofs.tables.no_spans.Goals as goal

pub loop-preserved : goal.loop-preserved
loop-preserved c = rw (map-range_with_len_more {X = Option Span} (λ n. None) 0 c.loop.counter c.loop.counter (zero-add c.loop.counter)) (search rules)
