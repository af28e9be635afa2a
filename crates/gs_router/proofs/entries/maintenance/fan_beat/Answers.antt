use Rattle.std.proofs.Common.{◌-◌, ◌∙◌, ℕ, List, length, refl, sym, ap, ap₂, subst, subst₂}
use Rattle.gs_base.specs.declared.names.PeerNo.{PeerNo}
use Rattle.gs_params.specs.Picks.{IsAscending}
use Rattle.gs_rules.specs.Meshes.{fanout}
use Rattle.gs_rules.specs.MeshRules.{receivers, those_among, those_outside}
use Rattle.gs_rules.specs.BeatRules.{refanning}
use Rattle.gs_rules.specs.Modes.{IsPick}
use Rattle.gs_router.specs.Known.{peer_with}
use Rattle.gs_router.proofs.Choosing.{outside_ascend, receivers_ascend}
use Rattle.gs_router.proofs.entries.maintenance.fan_beat.Goals as goal

pub pick-requires : goal.pick-requires
pick-requires g c =
    let s = c.args.known.now in
    let p = peer_with s.setup in
    let L = c.requires.knows.0 in
    let at = c.args.now.0 in
    let t = c.args.topic.now in
    let fans = c.fanout-fanout.ensures L c.requires.knows.1.agrees.memberships in
    let found = c.deref-2.ensures.value ∙ c.in_ok-receivers.ensures L c.requires.knows.1 in
    let others = c.deref-4.ensures.value ∙ c.in_ok-others.ensures ∙ ap₂ those_outside fans found in
    subst IsAscending (sym others) (outside_ascend (fanout L t) (receivers p L at t) (receivers_ascend p L at t c.requires.fit.ascending))

pub returns : goal.returns
returns g c = λ L knows.
    let s = c.args.known.now in
    let p = peer_with s.setup in
    let at = c.args.now.0 in
    let t = c.args.topic.now in
    let d = s.setup.params.degrees.d in
    let fans = c.fanout-fanout.ensures L knows.agrees.memberships in
    let found = c.in_ok-receivers.ensures L knows in
    let stay = c.in_ok-stay.ensures ∙ ap₂ those_among (c.deref.ensures.value ∙ found) fans in
    let others = c.deref-4.ensures.value ∙ c.in_ok-others.ensures ∙ ap₂ those_outside fans (c.deref-2.ensures.value ∙ found) in
    let left = c.left_of-left.ensures ∙ ap (λ (qs : List PeerNo). d - length qs) (c.deref-3.ensures.value ∙ stay) in
    let chosen = c.in_ok-chosen.chosen.items in
    let ascend = outside_ascend (fanout L t) (receivers p L at t) (receivers_ascend p L at t c.requires.fit.ascending) in
    let picks = subst₂ (λ (k : ℕ) (qs : List PeerNo). IsPick g.W.Words.word g.W.Words.after k qs c.args.words.now chosen c.pick.new.words) left others (record { ascending = subst IsAscending (sym others) ascend; chosen_are = c.in_ok-chosen.ensures.picked; words = c.in_ok-chosen.ensures.words }) in
    let effects = c.in_ok-effects.ensures L c.args.now knows.agrees (c.deref-5.ensures.value ∙ found) ∙ ap (refanning p L c.args.now t) c.deref-6.ensures.value in
    (chosen, c.pick.new.words, picks, (effects, refl))
