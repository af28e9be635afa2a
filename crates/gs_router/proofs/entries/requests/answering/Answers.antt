use Rattle.std.proofs.Common.{◌∙◌, ap, ap₂, subst, List, []}
use Rattle.gs_base.specs.declared.names.PeerNo.{PeerNo}
use Rattle.gs_base.specs.declared.names.MsgId.{MsgId}
use Rattle.gs_base.specs.declared.rpc.Rpc.{Rpc}
use Rattle.gs_base.specs.declared.mark.Mark.{Mark}
use Rattle.gs_rules.specs.declared.trace.Effects.{Effects}
use Rattle.gs_rules.specs.Rules.{answers, ids_in, no_effects}
use Rattle.gs_router.specs.Known.{peer_with}
use Rattle.gs_router.specs.Requests.{Gives}
use Rattle.gs_router.proofs.entries.requests.answering.Goals as goal

pub returns : goal.returns
returns c = λ L agrees made.
    let p = peer_with c.args.known.now.setup in
    let q = c.args.from in
    let ids = c.deref.ensures.value ∙ c.in_ok-ids.ensures ∙ ap ids_in c.as_slice.ensures in
    let gives = subst (λ (list : List MsgId). Gives q (answers p L q [] list) c.in_ok-reply.reply) ids (c.in_ok-reply.ensures L agrees made) in
    ap (λ (e : Effects). record e { sends = c.in_ok-reply.reply.sends; marks = c.in_ok-reply.reply.marks }) c.none.ensures
    ∙ ap₂ (λ (sends : List (PeerNo × Rpc)) (marks : List Mark). record no_effects { sends = sends; marks = marks }) gives.sends gives.marks
