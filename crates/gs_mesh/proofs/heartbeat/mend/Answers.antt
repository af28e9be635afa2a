use Rattle.std.proofs.Common.{◌∙◌, List, sym, subst}
use Rattle.gs_mesh.specs.declared.members.Member.{Member}
use Rattle.gs_params.specs.Picks.{IsAscending}
use Rattle.gs_mesh.specs.Cuts.{peers_of}
use Rattle.gs_mesh.proofs.MemberLists.{outbound_ascend}
use Rattle.gs_mesh.proofs.heartbeat.mend.Goals as goal

pub filled-requires-in-FewOutbound : goal.filled-requires-in-FewOutbound
filled-requires-in-FewOutbound g c =
    subst (λ (ms : List Member). IsAscending (peers_of ms)) (sym (c.deref.ensures.value ∙ c.in_ok-outbound-in-FewOutbound.ensures)) (outbound_ascend c.args.candidates.now c.requires.candidates)
