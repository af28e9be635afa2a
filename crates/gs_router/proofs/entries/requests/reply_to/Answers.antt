use Rattle.std.proofs.Common.{◌+◌, List, take, drop, sym, subst, arith}
use Rattle.std.proofs.lemmas.List.{drop_all, drop_more, take_more}
use Rattle.gs_base.specs.declared.names.MsgId.{MsgId}
use Rattle.gs_router.specs.Known.{peer_with}
use Rattle.gs_router.proofs.Answering.{Replying, begins, goes_on, ends}
use Rattle.gs_router.proofs.entries.requests.reply_to.Goals as goal

pub loop-id-init : goal.loop-id-init
loop-id-init c = λ L agrees made. begins (peer_with c.args.known.now.setup) L c.args.from c.args.ids.now _ c.none-reply.ensures.sends c.none-reply.ensures.marks c.none-reply.ensures.left

pub loop-id-preserved : goal.loop-id-preserved
loop-id-preserved c = λ L agrees made.
    let p = peer_with c.args.known.now.setup in
    let ids : List MsgId = c.args.ids.now in
    let i = c.loop-id.id-index in
    let behind = drop_more ids i _ c.loop-id-test.true in
    let ahead = take_more ids i _ c.loop-id-test.true in
    let before = subst (λ (left : List MsgId). Replying p L c.args.from ids (take i ids) left c.loop-id.reply) behind (c.loop-id.invariant L agrees made) in
    subst (λ (taken : List MsgId). Replying p L c.args.from ids taken (drop (i + 1) ids) c.answer.new.reply) (sym ahead) (goes_on p L c.args.from ids (take i ids) (drop (i + 1) ids) _ c.loop-id.reply c.answer.new.reply (λ given so_far. c.in_ok-answer.ensures L (take i ids) given agrees made so_far) before)

pub returns : goal.returns
returns c = λ L agrees made.
    let ids : List MsgId = c.args.ids.now in
    let i = c.loop-id.id-index in
    ends (peer_with c.args.known.now.setup) L c.args.from ids (take i ids) (drop i ids) c.loop-id.reply (drop_all i ids (omega (arith, c.loop-id-test.false))) (c.loop-id.invariant L agrees made)
