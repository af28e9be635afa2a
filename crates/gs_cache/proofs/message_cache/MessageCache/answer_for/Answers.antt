use Rattle.std.proofs.Common.{List, ℕ, ◌<◌, Option, unwrap_or, sym, subst, ap, ◌∙◌, arith}
use Rattle.gs_cache.specs.declared.message_cache.window.Window.{Window}
use Rattle.gs_cache.specs.Windows.{kept_in}
use Rattle.gs_cache.proofs.Finding.{left_found, message_found, nothing_kept}
use Rattle.gs_cache.proofs.message_cache.MessageCache.answer_for.Goals as goal

pub returns-then-left_to-eq0 : goal.returns-then-left_to-eq0
returns-then-left_to-eq0 c = rw (← c.self.view_is)
    (left_found c.self.inside.answers c.as_slice.result.now c.self.inside.windows.items c.args.id.now c.args.peer c.in-Some.kept.now 0 c.as_slice.ensures.value c.in-Some.ensures (sym c.if-left_to-eq0.true ∙ c.left_to.ensures))

pub returns-else-left_to-eq0 : goal.returns-else-left_to-eq0
returns-else-left_to-eq0 c =
    let some : 0 < c.left_to.result = omega (arith, c.if-left_to-eq0.false) in
    rw (← c.self.view_is) (
      message_found c.as_slice.result.now c.self.inside.windows.items c.args.id.now c.in-Some.kept.now c.as_slice.ensures.value c.in-Some.ensures,
      subst (λ (o : Option ℕ). 0 < unwrap_or o 0)
          (sym (left_found c.self.inside.answers c.as_slice.result.now c.self.inside.windows.items c.args.id.now c.args.peer c.in-Some.kept.now c.left_to.result c.as_slice.ensures.value c.in-Some.ensures c.left_to.ensures)) some,
    )

pub returns-in-None : goal.returns-in-None
returns-in-None c = rw (← c.self.view_is)
    (nothing_kept 0 c.self.inside.windows.items c.args.id.now (ap (λ (ws : List Window). kept_in ws c.args.id.now) (sym c.as_slice.ensures.value) ∙ sym c.in-None.ensures))
