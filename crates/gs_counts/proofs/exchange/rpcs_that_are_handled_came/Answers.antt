use Rattle.std.proofs.Common.{ap, ◌∙◌, Bool, if◌then◌else◌, length}
use Rattle.gs_rules.specs.Saying.{handled}
use Rattle.gs_seats.proofs.Truths.{same_self}
use Rattle.gs_counts.specs.Runs.{trace_happenings}
use Rattle.gs_counts.specs.Standing.{goes_over, link_of}
use Rattle.gs_counts.proofs.Adding.{all_come}
use Rattle.gs_counts.proofs.Came.{trace_came}
use Rattle.gs_counts.proofs.exchange.rpcs_that_are_handled_came.Goals as goal

pub returns : goal.returns
returns c = λ plan p q L.
    all_come (λ h. goes_over q p (link_of h)) (trace_happenings plan p L)
    ∙ trace_came q p plan p L
    ∙ ap (λ (b : Bool). if b then length (handled L q) else 0) (same_self p)
