use Rattle.std.proofs.Common.{List, Option, unwrap_or, sym, ap, ◌∙◌, ℕ}
use Rattle.std.specs.Prelude.{option_map}
use Rattle.gs_cache.specs.declared.message_cache.window.Kept.{Kept}
use Rattle.gs_cache.specs.declared.message_cache.window.Window.{Window}
use Rattle.gs_cache.specs.CachedMessages.{left_to}
use Rattle.gs_cache.specs.Windows.{kept_in}
use Rattle.gs_cache.proofs.Finding.{left_found, left_kept}
use Rattle.gs_cache.proofs.message_cache.MessageCache.left_for.Goals as goal

pub returns-in-Some : goal.returns-in-Some
returns-in-Some c = rw (← c.self.view_is)
    (sym (ap (λ (o : Option ℕ). unwrap_or o 0)
    (left_found c.self.inside.answers c.as_slice.result.now c.self.inside.windows.items c.args.id.now c.args.peer c.in-Some.kept.now c.left_to.result c.as_slice.ensures.value c.in-Some.ensures c.left_to.ensures)))

pub returns-in-None : goal.returns-in-None
returns-in-None c = rw (← c.self.view_is)
    (sym (ap (λ (o : Option ℕ). unwrap_or o 0)
    (left_kept c.self.inside.answers 0 c.self.inside.windows.items c.args.id.now c.args.peer
    ∙ ap (option_map (λ (k : Kept). left_to c.self.inside.answers c.args.peer k.left)) (ap (λ (ws : List Window). kept_in ws c.args.id.now) (sym c.as_slice.ensures.value) ∙ sym c.in-None.ensures))))
