use Rattle.std.proofs.Common.{◌++◌, ◌∙◌, List, filter, ap, ap₂}
use Rattle.std.specs.Set.{is_member}
use Rattle.gs_base.specs.declared.names.PeerNo.{PeerNo}
use Rattle.gs_base.specs.Names.{same_peer}
use Rattle.gs_mesh.specs.Cuts.{cut, cut_words, others_picked, others_picked_words, peers_of}
use Rattle.gs_mesh.proofs.BestMembers.{peers_of_kept}
use Rattle.gs_mesh.proofs.cut.cut.Goals as goal

pub returns-clause-kept : goal.returns-clause-kept
unfolding cut
returns-clause-kept g c =
    let first = c.in_ok-kept.ensures.kept in
    let others = c.in_ok-others.ensures.kept ∙ ap₂ (others_picked g.W.Words.word g.W.Words.after c.args.degrees.now c.args.members.now) (c.deref.ensures.value ∙ first) c.in_ok-kept.ensures.words in
    let all = c.deref-2.ensures.value ∙ c.in_ok-append.ensures.items ∙ ap₂ (λ (xs ys : List PeerNo). xs ++ ys) first others in
    c.in_ok-peers.ensures
    ∙ ap peers_of (c.deref-3.ensures.value ∙ c.in_ok-remaining.ensures)
    ∙ peers_of_kept (is_member same_peer c.deref-2.result.now) c.args.members.now
    ∙ ap (λ (these : List PeerNo). filter (is_member same_peer these) (peers_of c.args.members.now)) all

pub returns-clause-words : goal.returns-clause-words
unfolding cut_words
returns-clause-words g c =
    c.in_ok-others.ensures.words ∙ ap₂ (others_picked_words g.W.Words.word g.W.Words.after c.args.degrees.now c.args.members.now) (c.deref.ensures.value ∙ c.in_ok-kept.ensures.kept) c.in_ok-kept.ensures.words
