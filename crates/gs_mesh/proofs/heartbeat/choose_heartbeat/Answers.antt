use Rattle.std.proofs.Common.{◌≡◌, ◌∙◌, List, refl, sym, ap₂, subst, subst₂}
use Rattle.gs_base.specs.declared.names.PeerNo.{PeerNo}
use Rattle.gs_mesh.specs.declared.members.Member.{Member}
use Rattle.gs_params.specs.Picks.{IsAscending}
use Rattle.gs_mesh.specs.Cuts.{peers_of}
use Rattle.gs_mesh.specs.declared.heartbeat.MeshChange.{MeshChange}
use Rattle.gs_mesh.specs.MeshSteps.{mended_by_words, mended_members, mesh_change, not_negative, opportunistic_grafts_by_words, step_by_words}
use Rattle.gs_mesh.proofs.MemberLists.{not_negative_ascend}
use Rattle.gs_mesh.proofs.Stepping.{put_together}
use Rattle.gs_mesh.proofs.heartbeat.choose_heartbeat.Goals as goal

pub mend-requires-clause-members : goal.mend-requires-clause-members
mend-requires-clause-members g c =
    subst (λ (ms : List Member). IsAscending (peers_of ms)) (sym (c.deref.ensures.value ∙ c.in_ok-members.ensures)) (not_negative_ascend c.args.mesh.now c.requires.members)

pub returns : goal.returns
returns g c =
    let mesh = c.args.mesh.now in
    let candidates = c.args.candidates.now in
    let kept : List PeerNo = c.in_ok-mended.mended.kept.items in
    let grafted : List PeerNo = c.in_ok-mended.mended.grafted.items in
    let more : List PeerNo = c.in_ok-more.more.items in
    let members : c.deref.result.now ≡ not_negative mesh = c.deref.ensures.value ∙ c.in_ok-members.ensures in
    let members_again : c.deref-2.result.now ≡ not_negative mesh = c.deref-2.ensures.value ∙ c.in_ok-members.ensures in
    let made : c.deref-5.result.now ≡ mended_members (not_negative mesh) candidates kept grafted = c.deref-5.ensures.value ∙ c.in_ok-made.ensures ∙ rw (members_again, c.deref-3.ensures.value, c.deref-4.ensures.value) refl in
    let first = subst (λ (ms : List Member). mended_by_words g.W.Words.word g.W.Words.after c.args.heartbeat.params.now.degrees ms candidates c.args.words.now ≡ (kept, grafted, c.mend.new.words)) members c.in_ok-mended.ensures in
    let second = subst₂ (λ (ms : List Member) (gs : List PeerNo). opportunistic_grafts_by_words g.W.Words.word g.W.Words.after c.args.heartbeat.params.now c.args.heartbeat.number ms candidates gs c.mend.new.words ≡ (more, c.opportunistic_grafts.new.words)) made c.deref-6.ensures.value c.in_ok-more.ensures in
    let change = c.in_ok-change.ensures ∙ ap₂ (mesh_change mesh candidates) c.deref-7.ensures.value (c.deref-8.ensures.value ∙ c.in_ok-append.ensures.items) in
    subst (λ (x : MeshChange). step_by_words g.W.Words.word g.W.Words.after c.args.heartbeat.params.now c.args.heartbeat.number mesh candidates c.args.words.now ≡ (x, c.opportunistic_grafts.new.words)) (sym change)
    (put_together g.W.Words.word g.W.Words.after c.args.heartbeat.params.now c.args.heartbeat.number mesh candidates c.args.words.now c.mend.new.words c.opportunistic_grafts.new.words kept grafted more first second)
