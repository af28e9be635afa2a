use Rattle.std.proofs.Common.{◌++◌, ◌∙◌, ℕ, List, sym, ap, ap₂, subst}
use Rattle.gs_base.specs.declared.names.PeerNo.{PeerNo}
use Rattle.gs_mesh.specs.declared.members.Member.{Member}
use Rattle.gs_params.specs.Picks.{IsAscending, picked, picked_words}
use Rattle.gs_mesh.specs.Cuts.{first_kept, first_words, outbound_lacking, outbound_of, outbound_picked, outbound_picked_words, outside, peers_of}
use Rattle.gs_mesh.proofs.MemberLists.{outbound_ascend, outside_ascend}
use Rattle.gs_mesh.proofs.cut.first_kept.Goals as goal

pub pick_of-requires : goal.pick_of-requires
pick_of-requires g c =
    let outbound = c.deref-3.ensures.value ∙ c.in_ok-outbound.ensures in
    let are = c.deref-4.ensures.value ∙ c.in_ok-candidates.ensures ∙ ap (outside c.deref-2.result.now) outbound in
    subst (λ (ms : List Member). IsAscending (peers_of ms)) (sym are) (outside_ascend c.deref-2.result.now (outbound_of c.args.members.now) (outbound_ascend c.args.members.now c.requires))

pub returns-clause-kept : goal.returns-clause-kept
unfolding first_kept outbound_picked
returns-clause-kept g c =
    let best = c.in_ok-first.ensures in
    let outbound = c.deref-3.ensures.value ∙ c.in_ok-outbound.ensures in
    let are = c.deref-4.ensures.value ∙ c.in_ok-candidates.ensures ∙ ap₂ outside (c.deref-2.ensures.value ∙ best) outbound in
    let lacking = c.in_ok-lacking.ensures ∙ ap (outbound_lacking c.args.degrees.now c.args.members.now) (c.deref.ensures.value ∙ best) in
    let picks = c.in_ok-picked.ensures.picked ∙ ap₂ (λ (k : ℕ) (ms : List Member). picked g.W.Words.word g.W.Words.after k (peers_of ms) c.args.words.now) lacking are in
    c.in_ok-append.ensures.items ∙ ap₂ (λ (xs ys : List PeerNo). xs ++ ys) best picks

pub returns-clause-words : goal.returns-clause-words
unfolding first_words outbound_picked_words
returns-clause-words g c =
    let best = c.in_ok-first.ensures in
    let outbound = c.deref-3.ensures.value ∙ c.in_ok-outbound.ensures in
    let are = c.deref-4.ensures.value ∙ c.in_ok-candidates.ensures ∙ ap₂ outside (c.deref-2.ensures.value ∙ best) outbound in
    let lacking = c.in_ok-lacking.ensures ∙ ap (outbound_lacking c.args.degrees.now c.args.members.now) (c.deref.ensures.value ∙ best) in
    c.in_ok-picked.ensures.words ∙ ap₂ (λ (k : ℕ) (ms : List Member). picked_words g.W.Words.word g.W.Words.after k (peers_of ms) c.args.words.now) lacking are
