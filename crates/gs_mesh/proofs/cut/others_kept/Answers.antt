use Rattle.std.proofs.Common.{◌≡◌, ◌-◌, ◌∙◌, ℕ, List, length, sym, ap₂, subst, rules}
use Rattle.gs_mesh.specs.declared.members.Member.{Member}
use Rattle.gs_params.specs.Picks.{IsAscending, picked, picked_words}
use Rattle.gs_mesh.specs.Cuts.{others_picked, others_picked_words, peers_of}
use Rattle.gs_mesh.proofs.MemberLists.{outside_ascend}
use Rattle.gs_mesh.proofs.cut.others_kept.Goals as goal

pub pick_of-requires : goal.pick_of-requires
pick_of-requires g c =
    subst (λ (ms : List Member). IsAscending (peers_of ms)) (sym (c.deref.ensures.value ∙ c.in_ok-candidates.ensures)) (outside_ascend c.args.first.now c.args.members.now c.requires)

pub returns-clause-kept : goal.returns-clause-kept
unfolding others_picked
returns-clause-kept g c =
    let left : c.saturating_sub-left.result ≡ c.args.degrees.now.d - length c.args.first.now = search rules in
    c.in_ok-picked.ensures.picked ∙ ap₂ (λ (k : ℕ) (ms : List Member). picked g.W.Words.word g.W.Words.after k (peers_of ms) c.args.words.now) left (c.deref.ensures.value ∙ c.in_ok-candidates.ensures)

pub returns-clause-words : goal.returns-clause-words
unfolding others_picked_words
returns-clause-words g c =
    let left : c.saturating_sub-left.result ≡ c.args.degrees.now.d - length c.args.first.now = search rules in
    c.in_ok-picked.ensures.words ∙ ap₂ (λ (k : ℕ) (ms : List Member). picked_words g.W.Words.word g.W.Words.after k (peers_of ms) c.args.words.now) left (c.deref.ensures.value ∙ c.in_ok-candidates.ensures)
