use Rattle.std.proofs.Common.{refl, sym, subst, ◌∙◌}
use Rattle.std.specs.Option.{IsSome}
use Rattle.std.proofs.lemmas.Result.{err_from_is_err_and}
use Rattle.std.proofs.lemmas.Map.Steps.{set_value_same}
use Rattle.gs_base.specs.Names.{same_id}
use Rattle.gs_cache.specs.declared.message_cache.window.Kept.{Kept}
use Rattle.gs_cache.specs.declared.message_cache.window.Window.{Window}
use Rattle.gs_cache.proofs.Spending.{counted}
use Rattle.gs_cache.proofs.message_cache.window.Window.count_answer.Goals as goal

pub returns-in_err-count-in-Some-clause-err : goal.returns-in_err-count-in-Some-clause-err
returns-in_err-count-in-Some-clause-err c =
    let p = err_from_is_err_and c.from_residual.result c.from_residual.ensures.1 in
    let kept : Kept = record { place = c.in-Some.kept.now.place; topic = c.in-Some.kept.now.topic; message = c.in-Some.kept.now.message; left = c.count.new.self } in
    let h = c.get_mut.follows.holds kept in
    rw p.1 record {
      order = refl;
      puts = h.0 ∙ set_value_same (same_id c.args.id.now) c.args.self.now.puts.entries kept (rw c.in_err-count-in-Some.ensures.err (sym c.in-Some.ensures.value));
    }

pub returns-in_ok-count-in-Some-clause-counts : goal.returns-in_ok-count-in-Some-clause-counts
returns-in_ok-count-in-Some-clause-counts c =
    let kept : Kept = record { place = c.in-Some.kept.now.place; topic = c.in-Some.kept.now.topic; message = c.in-Some.kept.now.message; left = c.count.new.self } in
    let new : Window = record { order = c.args.self.now.order; puts = c.get_mut.follows.lender kept } in
    counted c.args.answers c.args.id.now c.args.peer c.args.self.now new c.in-Some.kept.now kept c.in-Some.ensures.value ((c.get_mut.follows.holds kept).3 (subst IsSome c.in-Some.ensures.value refl)).0 refl refl c.in_ok-count-in-Some.ensures.counts
