use Rattle.std.proofs.Common.{◌<◌, length, sym, ap, ◌∙◌, length-set}
use Rattle.std.specs.Prelude.{position}
use Rattle.std.proofs.lemmas.Result.{err_from_is_err_and}
use Rattle.gs_cache.specs.declared.message_cache.window.Window.{Window}
use Rattle.gs_cache.specs.Windows.{has}
use Rattle.gs_cache.proofs.Spending.{counted_found, found_within, none_kept, nothing_counted, orders_same, puts_same}
use Rattle.gs_cache.proofs.message_cache.MessageCache.count_answer.Goals as goal

pub returns-in_err-count_answer-in-Some-clause-unchanged : goal.returns-in_err-count_answer-in-Some-clause-unchanged
returns-in_err-count_answer-in-Some-clause-unchanged c =
    let p = err_from_is_err_and c.from_residual.result c.from_residual.ensures.1 in
    let within : c.in-Some.age < length c.self.inside.windows.items =
    found_within c.in-Some.age c.args.id.now c.as_slice.result.now c.self.inside.windows.items c.index_mut.result.now c.as_slice.ensures.value c.in-Some.ensures in
    let same = c.in_err-count_answer-in-Some.ensures.err in
    rw (p.1, ← c.self.view_is)
    (cc (
      length-set c.self.inside.windows.items c.in-Some.age c.count_answer.new.self,
      puts_same c.in-Some.age c.self.inside.windows.items c.index_mut.result.now c.count_answer.new.self within c.index_mut.ensures.value same 0,
      orders_same c.in-Some.age c.self.inside.windows.items c.index_mut.result.now c.count_answer.new.self within c.index_mut.ensures.value same,
    ))

pub returns-in_ok-count_answer-in-Some-clause-holds : goal.returns-in_ok-count_answer-in-Some-clause-holds
returns-in_ok-count_answer-in-Some-clause-holds c = rw (← c.self.view_is)
    (counted_found c.self.inside.answers c.in-Some.age c.args.id.now c.args.peer c.as_slice.result.now c.self.inside.windows.items c.index_mut.result.now c.count_answer.new.self c.as_slice.ensures.value c.in-Some.ensures c.index_mut.ensures.value c.in_ok-count_answer-in-Some.ensures.counts).holds

pub returns-in_ok-count_answer-in-Some-clause-counts : goal.returns-in_ok-count_answer-in-Some-clause-counts
returns-in_ok-count_answer-in-Some-clause-counts c = rw (← c.self.view_is)
    (counted_found c.self.inside.answers c.in-Some.age c.args.id.now c.args.peer c.as_slice.result.now c.self.inside.windows.items c.index_mut.result.now c.count_answer.new.self c.as_slice.ensures.value c.in-Some.ensures c.index_mut.ensures.value c.in_ok-count_answer-in-Some.ensures.counts).counts

pub returns-in_ok-count_answer-in-Some-clause-orders : goal.returns-in_ok-count_answer-in-Some-clause-orders
returns-in_ok-count_answer-in-Some-clause-orders c = rw (← c.self.view_is)
    (counted_found c.self.inside.answers c.in-Some.age c.args.id.now c.args.peer c.as_slice.result.now c.self.inside.windows.items c.index_mut.result.now c.count_answer.new.self c.as_slice.ensures.value c.in-Some.ensures c.index_mut.ensures.value c.in_ok-count_answer-in-Some.ensures.counts).orders

pub returns-in-None-clause-counts : goal.returns-in-None-clause-counts
returns-in-None-clause-counts c = rw (← c.self.view_is)
    (nothing_counted c.self.inside.answers c.args.id.now c.args.peer c.self.inside.windows.items
    (none_kept c.args.id.now c.self.inside.windows.items (sym (c.in-None.ensures ∙ ap (position (λ (v : Window). has v c.args.id.now)) c.as_slice.ensures.value))))
