use Rattle.std.proofs.Common.{◌≡◌, drop}
use Rattle.std.specs.Prelude.{filter}
use Rattle.gs_cache.specs.Windows.{is_listed, listed, placed}
use Rattle.gs_cache.proofs.message_cache.announcing.lists_any.Given as goal

-- what was passed is not announced
abbrev pub invariant-loop-place : goal.invariant-loop-place
invariant-loop-place l =
    let x = l.listing in
    filter (is_listed x.newer.now x.window.now x.topic.now) (placed x.window.now.puts.entries l.place (drop l.place x.window.now.order.items))
    ≡ listed x.newer.now x.window.now x.topic.now
