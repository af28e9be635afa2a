use Rattle.std.proofs.Common.{◌≡◌, ◌++◌, ◌∙◌, List, sym, ap, ap₂, subst}
use Rattle.std.proofs.lemmas.List.{append_assoc}
use Rattle.gs_base.specs.declared.names.PeerNo.{PeerNo}
use Rattle.gs_base.specs.declared.rpc.Rpc.{Rpc}
use Rattle.gs_base.specs.declared.mark.Mark.{Mark}
use Rattle.gs_rules.specs.declared.trace.Effects.{Effects}
use Rattle.gs_rules.specs.Membership.{barring, each_on, entering, leaving}
use Rattle.gs_rules.specs.Rules.{no_effects, to_each}
use Rattle.gs_rules.specs.BeatRules.{mending}
use Rattle.gs_router.specs.Known.{peer_with}
use Rattle.gs_router.proofs.entries.maintenance.mending.Goals as goal

pub returns : goal.returns
returns c = λ L knows.
    let p = peer_with c.args.known.now.setup in
    let t = c.args.topic.now in
    let at = c.args.now.0 in
    let seconds = p.params.timing.prune_backoff_s in
    let gone = c.as_slice-pruned.ensures in
    let come = c.as_slice-grafted.ensures in
    let sends = c.in_ok-send_to_each.ensures
    ∙ ap₂ (λ (ss ts : List (PeerNo × Rpc)). ss ++ ts) (c.in_ok-sends.ensures ∙ ap₂ to_each c.in_ok-pruning.ensures gone) (ap₂ to_each c.in_ok-grafting.ensures come) in
    let part = c.in_ok-marks.ensures L knows ∙ ap (λ (qs : List PeerNo). leaving p L at (each_on t qs) ++ barring at seconds (each_on t qs)) gone in
    let enter = ap entering (c.as_slice.ensures.value ∙ c.in_ok-entering.ensures ∙ ap (each_on t) come) in
    let marks = c.in_ok-enter.ensures
    ∙ ap₂ (λ (ms ns : List Mark). ms ++ ns) part enter
    ∙ append_assoc (leaving p L at (each_on t c.args.change.now.pruned)) (barring at seconds (each_on t c.args.change.now.pruned)) (entering (each_on t c.args.change.now.grafted)) in
    let whole = ap₂ (λ (ss : List (PeerNo × Rpc)) (ms : List Mark). record no_effects { sends = ss; marks = ms }) sends marks in
    subst (λ (b : Effects). record { sends = c.send_to_each.new.sends; delivered = b.delivered; promise = b.promise; marks = c.enter.new.marks } ≡ mending p L c.args.now t c.args.change.now) (sym c.none.ensures) whole
