use Rattle.std.proofs.Common.{List, ap, arith, length, sym, ◌∙◌}
use Rattle.std.specs.Prelude.{◌==◌, not}
use Rattle.gs_base.specs.declared.names.MsgId.{MsgId}
use Rattle.gs_cache.proofs.Gossiping.{all_done, heard_here, none_yet, silent_here}
use Rattle.gs_cache.proofs.message_cache.announcing.announces_any.Goals as goal

pub loop-age-init : goal.loop-age-init
loop-age-init c = sym (all_done c.args.gossip c.args.topic.now c.args.windows.now)

pub returns-then-lists_any : goal.returns-then-lists_any
returns-then-lists_any c =
    sym (ap (λ (ids : List MsgId). not (length ids == 0)) c.loop-age.invariant
    ∙ heard_here c.args.gossip c.args.topic.now c.args.windows.now c.loop-age.age c.index-windows-age.result (omega (arith, c.min-end.ensures, c.loop-age-test.true)) (omega (arith, c.min-end.ensures, c.loop-age-test.true)) (sym c.index-windows-age.is)
    (sym c.lists_any.ensures ∙ c.if-lists_any.true))

pub loop-age-preserved : goal.loop-age-preserved
loop-age-preserved c =
    c.loop-age.invariant
    ∙ silent_here c.args.gossip c.args.topic.now c.args.windows.now c.loop-age.age c.index-windows-age.result (omega (arith, c.min-end.ensures, c.loop-age-test.true)) (omega (arith, c.min-end.ensures, c.loop-age-test.true)) (sym c.index-windows-age.is)
    (sym c.lists_any.ensures ∙ c.if-lists_any.false)

pub returns : goal.returns
returns c =
    ap (λ (ids : List MsgId). not (length ids == 0))
    (none_yet c.args.gossip c.args.topic.now c.args.windows.now c.loop-age.age (omega (arith, c.min-end.ensures, c.loop-age-test.false, c.loop-age.auto.age-end)) ∙ sym c.loop-age.invariant)
