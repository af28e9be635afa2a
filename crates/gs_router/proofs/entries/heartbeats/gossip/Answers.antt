use Rattle.std.proofs.Common.{◌∙◌, ℕ, List, refl, sym, ap, subst, subst₂}
use Rattle.std.specs.Prelude.{◌||◌, length}
use Rattle.gs_base.specs.declared.names.PeerNo.{PeerNo}
use Rattle.gs_base.specs.declared.names.Topic.{Topic}
use Rattle.gs_params.specs.Picks.{IsAscending}
use Rattle.gs_rules.specs.Peers.{Peer, links_of}
use Rattle.gs_rules.specs.Tables.{Entries}
use Rattle.gs_rules.specs.Gossip.{gossip_size}
use Rattle.gs_rules.specs.Scoring.{is_ignored}
use Rattle.gs_mesh.specs.Peers.{is_among}
use Rattle.gs_rules.specs.Meshes.{fanout, mesh}
use Rattle.gs_rules.specs.Rules.{gossip_candidates, gossiping, ordinary_listeners, without}
use Rattle.gs_rules.specs.Modes.{IsPick}
use Rattle.gs_router.specs.Known.{peer_with}
use Rattle.gs_router.proofs.Choosing.{ordinary_ascend, without_ascend}
use Rattle.gs_router.proofs.entries.heartbeats.gossip.Goals as goal

gossip_candidates_ascend : (p : Peer) (L : Entries) (at : ℕ) (t : Topic) → IsAscending (links_of p) → IsAscending (gossip_candidates p L at t)
gossip_candidates_ascend p L at t ascending =
    without_ascend (is_ignored p L at) (without (λ q. is_among (mesh L t) q || is_among (fanout L t) q) (ordinary_listeners p L t))
    (without_ascend (λ q. is_among (mesh L t) q || is_among (fanout L t) q) (ordinary_listeners p L t) (ordinary_ascend p L t ascending))

pub pick-requires : goal.pick-requires
pick-requires g c =
    let s = c.args.known.now in
    subst IsAscending (sym (c.deref.ensures.value ∙ c.in_ok-gossip_candidates.ensures c.requires.knows.0 c.requires.knows.1)) (gossip_candidates_ascend (peer_with s.setup) c.requires.knows.0 c.args.now.0 c.args.topic.now c.requires.fit.ascending)

pub returns : goal.returns
returns g c = λ L knows.
    let p = peer_with c.args.known.now.setup in
    let found = c.in_ok-gossip_candidates.ensures L knows in
    let are = c.deref.ensures.value ∙ found in
    let size = c.gossip_size-size.ensures ∙ ap (gossip_size p) (c.len.ensures ∙ sym c.deref.ensures.len ∙ ap length are) in
    let ascend = subst IsAscending (sym are) (gossip_candidates_ascend p L c.args.now.0 c.args.topic.now c.requires.fit.ascending) in
    let chosen = c.in_ok-chosen.ensures in
    let picks = subst₂ (λ (k : ℕ) (qs : List PeerNo). IsPick g.W.Words.word g.W.Words.after k qs c.args.words.now c.in_ok-chosen.chosen.items c.pick.new.words) size are (record { ascending = ascend; chosen_are = chosen.picked; words = chosen.words }) in
    (c.in_ok-chosen.chosen.items, c.pick.new.words, picks, (c.in_ok-effects.ensures L knows.agrees knows.made ∙ ap (gossiping p L c.args.topic.now) c.deref-2.ensures.value, refl))
