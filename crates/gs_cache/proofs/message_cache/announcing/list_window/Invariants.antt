use Rattle.std.proofs.Common.{◌≡◌, ◌++◌, drop}
use Rattle.std.specs.Prelude.{filter}
use Rattle.gs_cache.specs.Windows.{is_listed, listed, placed}
use Rattle.gs_cache.proofs.message_cache.announcing.list_window.Given as goal

abbrev pub invariant-loop-place : goal.invariant-loop-place
invariant-loop-place l =
    let x = l.listing in
    l.ids.items ++ filter (is_listed x.newer.now x.window.now x.topic.now) (placed x.window.now.puts.entries l.place (drop l.place x.window.now.order.items))
    ≡ l.fn.ids.items ++ listed x.newer.now x.window.now x.topic.now
