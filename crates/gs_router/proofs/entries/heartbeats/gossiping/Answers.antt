use Rattle.std.proofs.Common.{◌∙◌, List, ap, ap₂, map}
use Rattle.gs_base.specs.declared.names.PeerNo.{PeerNo}
use Rattle.gs_base.specs.declared.names.MsgId.{MsgId}
use Rattle.gs_base.specs.declared.rpc.Rpc.{Rpc}
use Rattle.gs_base.specs.Rpcs.{offering}
use Rattle.gs_rules.specs.declared.trace.Effects.{Effects}
use Rattle.gs_rules.specs.Rules.{to_each}
use Rattle.gs_router.specs.Known.{peer_with}
use Rattle.gs_router.proofs.entries.heartbeats.gossiping.Goals as goal

pub returns : goal.returns
returns c = λ L agrees made.
    let ids = c.as_slice.ensures ∙ c.in_ok-ids.ensures (peer_with c.args.known.now.setup) L agrees.messages made.windows made.gossip in
    let rpc = c.in_ok-rpc.ensures ∙ ap (λ (list : List MsgId). offering c.args.topic.now (map (λ (id : MsgId). id.0) list)) ids in
    ap₂ (λ (b : Effects) (sends : List (PeerNo × Rpc)). record b { sends = sends }) c.none.ensures (c.in_ok-sends.ensures ∙ ap (λ (r : Rpc). to_each r c.args.chosen.now) rpc)
