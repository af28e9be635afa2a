use Rattle.std.proofs.Common.{◌≡◌, drop}
use Rattle.gs_params.specs.Checks.{each_topic_from, first_broken, topic_timing_checks}
use Rattle.gs_params.proofs.params.first_broken_timing.Given as goal

-- the first that fails is of a topic that is still to come
abbrev pub invariant-loop-place : goal.invariant-loop-place
invariant-loop-place l =
    let checks = each_topic_from (λ place one. topic_timing_checks place one.timing) in
    first_broken (checks 0 l.topics) ≡ first_broken (checks l.place (drop l.place l.topics))
