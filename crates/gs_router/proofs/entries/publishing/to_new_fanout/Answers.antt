use Rattle.std.proofs.Common.{◌∙◌, List, refl, sym, ap, subst}
use Rattle.gs_base.specs.declared.names.PeerNo.{PeerNo}
use Rattle.gs_params.specs.Picks.{IsAscending}
use Rattle.gs_rules.specs.MeshRules.{publishing}
use Rattle.gs_rules.specs.Modes.{IsPick}
use Rattle.gs_rules.specs.declared.outcome.FanoutUse.TheVariants.{Filled}
use Rattle.gs_router.specs.Known.{peer_with}
use Rattle.gs_router.proofs.Choosing.{receivers_ascend}
use Rattle.gs_router.proofs.entries.publishing.to_new_fanout.Goals as goal

pub pick-requires : goal.pick-requires
pick-requires g c =
    let s = c.args.known.now in
    let p = peer_with s.setup in
    let t = c.args.publishing.topic.now in
    subst IsAscending (sym (c.deref.ensures.value ∙ c.in_ok-receivers.ensures c.requires.knows.0 c.requires.knows.1))
    (receivers_ascend p c.requires.knows.0 c.args.now.0 t c.requires.fit.ascending)

pub returns : goal.returns
returns g c = λ L knows.
    let p = peer_with c.args.known.now.setup in
    let t = c.args.publishing.topic.now in
    let are = c.deref.ensures.value ∙ c.in_ok-receivers.ensures L knows in
    let one = c.in_ok-chosen.chosen.items in
    let ascend = subst IsAscending (sym are) (receivers_ascend p L c.args.now.0 t c.requires.fit.ascending) in
    let picks = subst (λ (qs : List PeerNo). IsPick g.W.Words.word g.W.Words.after c.args.known.now.setup.params.degrees.d qs c.args.words.now one c.pick.new.words) are (record { ascending = ascend; chosen_are = c.in_ok-chosen.ensures.picked; words = c.in_ok-chosen.ensures.words }) in
    let sent = c.in_ok-effects.ensures L knows.agrees knows.explicit ∙ ap (λ (qs : List PeerNo). publishing p L t c.args.publishing.payload.now qs Filled) c.deref-2.ensures.value in
    (one, c.pick.new.words, picks, (sent, refl))
