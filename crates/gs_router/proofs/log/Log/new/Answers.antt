use Rattle.std.proofs.Common.{List, subst, sym}
use Rattle.std.specs.declared.snapshot.Snapshot.{Snapshot}
use Rattle.gs_rules.specs.declared.trace.Entry.{Entry}
use Rattle.gs_router.specs.Log.{IsKept, seen_in}
use Rattle.gs_router.proofs.log.Log.new.Goals as goal

pub invariant_of-result : goal.invariant_of-result
invariant_of-result g c =
    let all = g.K.Retention.keeps_all in
    subst (λ (past : List (Snapshot Entry)). IsKept all c.new.result.trace c.new.result.start c.new.result.is_over (seen_in past)) (sym c.new-2.ensures.items) (c.new.ensures all)
