use Rattle.std.proofs.Common.{◌≡◌, drop}
use Rattle.gs_cache.specs.Windows.{kept_in}
use Rattle.gs_cache.proofs.message_cache.window.find.Given as goal

abbrev pub invariant-loop-window : goal.invariant-loop-window
invariant-loop-window l = kept_in (drop l.window-index l.windows) l.id ≡ kept_in l.windows l.id
