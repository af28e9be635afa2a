use Rattle.std.proofs.Common.{◌≡◌, ◌-◌, refl, ap, ◌∙◌, arith}
use Rattle.gs_cache.specs.CachedMessages.{last_of, most_announced}
use Rattle.gs_cache.proofs.Gossiping.{all_done, behind, next_window, none_yet}
use Rattle.gs_cache.proofs.message_cache.announcing.announce.Goals as goal

pub loop-done-init : goal.loop-done-init
loop-done-init c = c.new-ids.ensures.items ∙ none_yet c.args.gossip c.args.topic.now c.args.windows.now (c.min-end.result - 0) (omega (arith, c.min-end.ensures))

pub loop-done-preserved : goal.loop-done-preserved
loop-done-preserved c =
    next_window c.args.gossip c.args.topic.now c.args.windows.now c.min-end.result c.loop-done.done (c.min-end.result - 1 - c.loop-done.done) c.index-windows-age.result c.loop-done.ids.items c.list_window.new.ids.items
    c.min-end.ensures c.loop-done-test.true refl c.index-windows-age.is c.loop-done.invariant c.in_ok-list_window.ensures

pub returns : goal.returns
returns c =
    let zero : c.min-end.result - c.loop-done.done ≡ 0 = omega (arith, c.loop-done-test.false) in
    c.keep_last.ensures ∙ ap (last_of most_announced) (c.loop-done.invariant ∙ ap (behind c.args.windows.now c.args.gossip c.args.topic.now) zero ∙ all_done c.args.gossip c.args.topic.now c.args.windows.now)
