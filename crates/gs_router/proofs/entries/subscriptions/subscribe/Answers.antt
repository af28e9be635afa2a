use Rattle.std.proofs.Common.{◌≡◌, ◌-◌, ◌∙◌, ℕ, List, length, refl, sym, ap, ap₂, subst, subst₂}
use Rattle.gs_base.specs.declared.names.PeerNo.{PeerNo}
use Rattle.gs_params.specs.Picks.{IsAscending}
use Rattle.gs_rules.specs.Meshes.{fanout}
use Rattle.gs_rules.specs.Membership.{candidates}
use Rattle.gs_rules.specs.MeshRules.{joining, those_among, those_outside}
use Rattle.gs_rules.specs.Modes.{IsPick}
use Rattle.gs_router.specs.Known.{peer_with}
use Rattle.gs_router.proofs.Choosing.{among_ascend, candidates_ascend, outside_ascend}
use Rattle.gs_router.proofs.entries.subscriptions.subscribe.Goals as goal

pub pick-requires : goal.pick-requires
pick-requires g c =
    let s = c.args.known.now in
    let fans = c.fanout-fanout.ensures c.requires.knows.0 c.requires.knows.1.agrees.memberships in
    let found = c.deref.ensures.value ∙ c.in_ok-candidates.ensures c.requires.knows.0 c.requires.knows.1 in
    let near = c.deref-2.ensures.value ∙ c.in_ok-near.ensures ∙ ap₂ those_among fans found in
    let ascend = candidates_ascend (peer_with s.setup) c.requires.knows.0 c.args.now.0 c.args.topic.now c.requires.fit.ascending in
    subst IsAscending (sym near) (among_ascend (fanout c.requires.knows.0 c.args.topic.now) (candidates (peer_with s.setup) c.requires.knows.0 c.args.now.0 c.args.topic.now) ascend)

pub pick-requires-2 : goal.pick-requires-2
pick-requires-2 g c =
    let s = c.args.known.now in
    let fans = c.fanout-fanout.ensures c.requires.knows.0 c.requires.knows.1.agrees.memberships in
    let found = c.deref-4.ensures.value ∙ c.in_ok-candidates.ensures c.requires.knows.0 c.requires.knows.1 in
    let far = c.deref-5.ensures.value ∙ c.in_ok-far.ensures ∙ ap₂ those_outside fans found in
    let ascend = candidates_ascend (peer_with s.setup) c.requires.knows.0 c.args.now.0 c.args.topic.now c.requires.fit.ascending in
    subst IsAscending (sym far) (outside_ascend (fanout c.requires.knows.0 c.args.topic.now) (candidates (peer_with s.setup) c.requires.knows.0 c.args.now.0 c.args.topic.now) ascend)

pub returns : goal.returns
returns g c = λ L knows.
    let p = peer_with c.args.known.now.setup in
    let t = c.args.topic.now in
    let d = c.args.known.now.setup.params.degrees.d in
    let fans = c.fanout-fanout.ensures L knows.agrees.memberships in
    let found = c.in_ok-candidates.ensures L knows in
    let ascend = candidates_ascend p L c.args.now.0 t c.requires.fit.ascending in
    let near = c.deref-2.ensures.value ∙ c.in_ok-near.ensures ∙ ap₂ those_among fans (c.deref.ensures.value ∙ found) in
    let far = c.deref-5.ensures.value ∙ c.in_ok-far.ensures ∙ ap₂ those_outside fans (c.deref-4.ensures.value ∙ found) in
    let one = c.in_ok-first.first.items in
    let two = c.in_ok-others.others.items in
    let left : c.left_of-left.result ≡ d - length one = c.left_of-left.ensures ∙ ap (λ (qs : List PeerNo). d - length qs) c.deref-3.ensures.value in
    let first = subst (λ (qs : List PeerNo). IsPick g.W.Words.word g.W.Words.after d qs c.args.words.now one c.pick.new.words) near (record { ascending = subst IsAscending (sym near) (among_ascend (fanout L t) (candidates p L c.args.now.0 t) ascend); chosen_are = c.in_ok-first.ensures.picked; words = c.in_ok-first.ensures.words }) in
    let others = subst₂ (λ (k : ℕ) (qs : List PeerNo). IsPick g.W.Words.word g.W.Words.after k qs c.pick.new.words two c.pick-2.new.words) left far (record { ascending = subst IsAscending (sym far) (outside_ascend (fanout L t) (candidates p L c.args.now.0 t) ascend); chosen_are = c.in_ok-others.ensures.picked; words = c.in_ok-others.ensures.words }) in
    let chosen = c.deref-6.ensures.value ∙ c.in_ok-append.ensures.items in
    let grafted = c.deref-8.ensures.value ∙ c.in_ok-grafted.ensures ∙ ap₂ those_among chosen (c.deref-7.ensures.value ∙ found) in
    (one, c.pick.new.words, first, (two, c.pick-2.new.words, others, (c.in_ok-effects.ensures L knows.agrees ∙ ap (joining p L t) grafted, refl)))
