use Rattle.std.proofs.Common.{◌≡◌, ◌+◌, ℕ, List, Option, [], arith, length, rules, subst, sym}
use Rattle.gs_counts.specs.declared.traces.PeerCounter.{PeerCounter}
use Rattle.gs_counts.specs.Counting.{AreCounters}
use Rattle.gs_counts.proofs.Counters.{no_counters, one_counter_more}
use Rattle.gs_counts.proofs.counting.counters_of.Goals as goal

pub loop-number-init : goal.loop-number-init
loop-number-init c =
    let none : c.new-counters.result.items ≡ [] = search rules in
    subst (λ (counters : List (Option PeerCounter)). AreCounters 0 c.args.plan.now c.args.of.now counters (λ p. [])) (sym {A = List (Option PeerCounter)} none) (no_counters c.args.plan.now c.args.of.now)

pub loop-number-preserved : goal.loop-number-preserved
loop-number-preserved c =
    let plan = c.args.plan.now in
    let of = c.args.of.now in
    let n = c.loop-number.number in
    subst (λ (counters : List (Option PeerCounter)). AreCounters (n + 1) plan of counters (λ p. [])) (sym {A = List (Option PeerCounter)} c.in_ok-push.ensures.items)
    (one_counter_more plan of n c.loop-number.counters.items _ c.loop-number.invariant c.in_ok-counter_if.ensures.chosen c.in_ok-counter_if.ensures.seen)

pub returns : goal.returns
returns c =
    let many = c.len-count.ensures in
    let end : c.loop-number.number ≡ length c.args.plan.now.peers = omega (arith, c.loop-number-test.false, c.loop-number.auto.number-end, many) in
    subst (λ (n : ℕ). AreCounters n c.args.plan.now c.args.of.now c.loop-number.counters.items (λ p. [])) end c.loop-number.invariant
