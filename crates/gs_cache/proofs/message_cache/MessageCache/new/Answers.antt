use Rattle.std.proofs.Common.{◌≡◌, ℕ, ◌+◌, length, sym, ap, ◌∙◌, subst, arith, length-append}
use Rattle.gs_cache.proofs.Making.{AreEmpty, no_order, no_puts, one_empty}
use Rattle.gs_cache.proofs.message_cache.MessageCache.new.Goals as goal

pub loop-preserved : goal.loop-preserved
loop-preserved c = record {
  empty = subst AreEmpty (sym c.in_ok-push.ensures.items) (one_empty c.loop.windows.items c.new.result c.loop.invariant.empty c.new.ensures.order c.new.ensures.puts);
  long = ap length c.in_ok-push.ensures.items ∙ length-append c.loop.windows.items _ ∙ ap (λ (n : ℕ). n + 1) c.loop.invariant.long;
}

pub returns : goal.returns
returns c =
    let long : length c.loop.windows.items ≡ c.args.len = omega (arith, c.loop.invariant.long, c.loop-test.false, c.loop.auto.counter-end) in
    cc (long, no_puts c.loop.windows.items c.loop.invariant.empty 0, no_order c.loop.windows.items c.loop.invariant.empty)
