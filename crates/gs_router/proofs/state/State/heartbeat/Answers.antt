use Rattle.std.proofs.Common.{arith, ◌≡◌, ◌+◌, ◌∙◌, List, [], ◌∷◌, drop, map, refl, sym, ap, subst}
use Rattle.std.proofs.lemmas.List.{drop_all}
use Rattle.gs_base.specs.declared.names.Topic.{Topic}
use Rattle.gs_rules.specs.declared.event.Event.{Event}
use Rattle.gs_rules.specs.declared.event.Event.TheVariants.{BeatBegin, Step}
use Rattle.gs_rules.specs.declared.event.BeatStep.TheVariants.{MeshBeat, GossipBeat, BeatEnd}
use Rattle.gs_rules.specs.Owed.{FanBeats, Gossips, MeshBeats, beats, events_in, gossip_topics, heartbeat_groups}
use Rattle.gs_rules.specs.Modes.{exact}
use Rattle.gs_rules.proofs.Legality.{exact_is_free}
use Rattle.gs_router.specs.declared.setup.Setup.{Setup}
use Rattle.gs_router.specs.declared.state.heartbeat.DueFanout.{DueFanout}
use Rattle.gs_router.specs.Beats.{event_of}
use Rattle.gs_router.specs.Known.{peer_with}
use Rattle.gs_router.specs.State.{Paying}
use Rattle.gs_router.proofs.Beating.{due_owes_none}
use Rattle.gs_router.proofs.Steps.{beats_first, next_due, next_left, pays_all, pays_group, pays_next, pays_some, stops}
use Rattle.gs_router.proofs.state.State.heartbeat.Goals as goal

pub returns-in_err-step : goal.returns-in_err-step
returns-in_err-step g c = stops (exact g.W.Words.word g.W.Words.after) (exact_is_free g.W.Words.word g.W.Words.after) BeatBegin c.args.now c.args.self.now c.step.new.self c.args.words.now c.step.new.words c.from_residual.result c.from_residual.ensures.0 c.requires.ready.current c.in_err-step.ensures.kept c.in_err-step.ensures.setup

pub returns-in_err-own_topics : goal.returns-in_err-own_topics
returns-in_err-own_topics g c =
    let m = exact g.W.Words.word g.W.Words.after in
    let a = c.args.self.now in
    let b = c.step.new.self in
    pays_some m c.args.now BeatBegin [] (heartbeat_groups c.args.now.0) a b b c.args.words.now c.step.new.words c.step.new.words c.from_residual-in_err-own_topics.result c.from_residual-in_err-own_topics.ensures.0 (beats_first m c.args.now a b c.args.words.now c.step.new.words c.in_ok-step.field-0 c.in_ok-step.ensures) refl refl

pub loop-own-init : goal.loop-own-init
loop-own-init g c =
    let m = exact g.W.Words.word g.W.Words.after in
    let a = c.args.self.now in
    let b = c.step.new.self in
    let topics = c.as_slice-own-items.ensures.value ∙ c.in_ok-own_topics.ensures b.trace c.in_ok-step.ensures.current.agrees.topics in
    let begun = beats_first m c.args.now a b c.args.words.now c.step.new.words c.in_ok-step.field-0 c.in_ok-step.ensures in
    subst (λ (ts : List Topic). Paying m c.args.now BeatBegin a c.args.words.now b c.step.new.words (map (λ t. Step (MeshBeat t)) ts) (FanBeats c.args.now.0 ∷ Gossips ∷ [])) (sym topics) (pays_group m c.args.now BeatBegin MeshBeats (FanBeats c.args.now.0 ∷ Gossips ∷ []) a b c.args.words.now c.step.new.words begun)

pub mend_mesh-requires-clause-next : goal.mend_mesh-requires-clause-next
mend_mesh-requires-clause-next g c =
    let m = exact g.W.Words.word g.W.Words.after in
    let topics : List Topic = c.as_slice-own-items.result.now in
    let here = next_left topics c.loop-own.own-index c.own-item.result c.loop-own-test.true c.own-item.is in
    let due = subst (λ (left : List Topic). Paying m c.args.now BeatBegin c.args.self.now c.args.words.now c.loop-own.self c.loop-own.words (map (λ t. Step (MeshBeat t)) left) (FanBeats c.args.now.0 ∷ Gossips ∷ [])) here c.loop-own.invariant in
    next_due m c.args.now BeatBegin (Step (MeshBeat c.own-item.result)) (map (λ t. Step (MeshBeat t)) (drop (c.loop-own.own-index + 1) topics)) (FanBeats c.args.now.0 ∷ Gossips ∷ []) c.args.self.now c.loop-own.self c.args.words.now c.loop-own.words due

pub loop-own-preserved : goal.loop-own-preserved
loop-own-preserved g c =
    let m = exact g.W.Words.word g.W.Words.after in
    let topics : List Topic = c.as_slice-own-items.result.now in
    let here = next_left topics c.loop-own.own-index c.own-item.result c.loop-own-test.true c.own-item.is in
    let due = subst (λ (left : List Topic). Paying m c.args.now BeatBegin c.args.self.now c.args.words.now c.loop-own.self c.loop-own.words (map (λ t. Step (MeshBeat t)) left) (FanBeats c.args.now.0 ∷ Gossips ∷ [])) here c.loop-own.invariant in
    pays_next m c.args.now BeatBegin (Step (MeshBeat c.own-item.result)) (map (λ t. Step (MeshBeat t)) (drop (c.loop-own.own-index + 1) topics)) (FanBeats c.args.now.0 ∷ Gossips ∷ []) c.args.self.now c.loop-own.self c.mend_mesh.new.self c.args.words.now c.loop-own.words c.mend_mesh.new.words c.in_ok-mend_mesh.field-0 due refl c.in_ok-mend_mesh.ensures

pub returns-in_err-fanouts : goal.returns-in_err-fanouts
returns-in_err-fanouts g c =
    pays_some (exact g.W.Words.word g.W.Words.after) c.args.now BeatBegin _ _ c.args.self.now c.loop-own.self c.loop-own.self c.args.words.now c.loop-own.words c.loop-own.words c.from_residual-in_err-fanouts.result c.from_residual-in_err-fanouts.ensures.0 c.loop-own.invariant refl refl

pub loop-fanout-init : goal.loop-fanout-init
loop-fanout-init g c =
    let m = exact g.W.Words.word g.W.Words.after in
    let a = c.args.self.now in
    let b = c.loop-own.self in
    let topics : List Topic = c.as_slice-own-items.result.now in
    let none = drop_all c.loop-own.own-index topics (omega (arith, c.loop-own-test.false)) in
    let all = subst (λ (left : List Topic). Paying m c.args.now BeatBegin a c.args.words.now b c.loop-own.words (map (λ t. Step (MeshBeat t)) left) (FanBeats c.args.now.0 ∷ Gossips ∷ [])) none c.loop-own.invariant in
    let due : map event_of c.as_slice-fanout-items.result.now ≡ events_in (peer_with a.known.setup) b.trace (FanBeats c.args.now.0)
    = ap (map event_of) c.as_slice-fanout-items.ensures.value
    ∙ c.in_ok-fanouts.ensures
    ∙ ap (λ (s : Setup). events_in (peer_with s) b.trace (FanBeats c.args.now.0)) c.loop-own.invariant.setup in
    subst (λ (es : List Event). Paying m c.args.now BeatBegin a c.args.words.now b c.loop-own.words es (Gossips ∷ [])) (sym due) (pays_group m c.args.now BeatBegin (FanBeats c.args.now.0) (Gossips ∷ []) a b c.args.words.now c.loop-own.words all)

pub mend_fanout-requires-clause-next : goal.mend_fanout-requires-clause-next
mend_fanout-requires-clause-next g c =
    let m = exact g.W.Words.word g.W.Words.after in
    let fanouts : List DueFanout = c.as_slice-fanout-items.result.now in
    let here = next_left fanouts c.loop-fanout.fanout-index c.fanout-item.result c.loop-fanout-test.true c.fanout-item.is in
    let due = subst (λ (left : List DueFanout). Paying m c.args.now BeatBegin c.args.self.now c.args.words.now c.loop-fanout.self c.loop-fanout.words (map event_of left) (Gossips ∷ [])) here c.loop-fanout.invariant in
    next_due m c.args.now BeatBegin (event_of c.fanout-item.result) (map event_of (drop (c.loop-fanout.fanout-index + 1) fanouts)) (Gossips ∷ []) c.args.self.now c.loop-fanout.self c.args.words.now c.loop-fanout.words due

pub loop-fanout-preserved : goal.loop-fanout-preserved
loop-fanout-preserved g c =
    let m = exact g.W.Words.word g.W.Words.after in
    let fanouts : List DueFanout = c.as_slice-fanout-items.result.now in
    let here = next_left fanouts c.loop-fanout.fanout-index c.fanout-item.result c.loop-fanout-test.true c.fanout-item.is in
    let due = subst (λ (left : List DueFanout). Paying m c.args.now BeatBegin c.args.self.now c.args.words.now c.loop-fanout.self c.loop-fanout.words (map event_of left) (Gossips ∷ [])) here c.loop-fanout.invariant in
    pays_next m c.args.now BeatBegin (event_of c.fanout-item.result) (map event_of (drop (c.loop-fanout.fanout-index + 1) fanouts)) (Gossips ∷ []) c.args.self.now c.loop-fanout.self c.mend_fanout.new.self c.args.words.now c.loop-fanout.words c.mend_fanout.new.words c.in_ok-mend_fanout.field-0 due (due_owes_none (peer_with c.args.self.now.known.setup) c.loop-fanout.self.trace c.args.now.0 c.fanout-item.result) c.in_ok-mend_fanout.ensures

pub returns-in_err-topics : goal.returns-in_err-topics
returns-in_err-topics g c =
    pays_some (exact g.W.Words.word g.W.Words.after) c.args.now BeatBegin _ _ c.args.self.now c.loop-fanout.self c.loop-fanout.self c.args.words.now c.loop-fanout.words c.loop-fanout.words c.from_residual-in_err-topics.result c.from_residual-in_err-topics.ensures.0 c.loop-fanout.invariant refl refl

pub loop-topic-init : goal.loop-topic-init
loop-topic-init g c =
    let m = exact g.W.Words.word g.W.Words.after in
    let a = c.args.self.now in
    let b = c.loop-fanout.self in
    let fanouts : List DueFanout = c.as_slice-fanout-items.result.now in
    let none = drop_all c.loop-fanout.fanout-index fanouts (omega (arith, c.loop-fanout-test.false)) in
    let all = subst (λ (left : List DueFanout). Paying m c.args.now BeatBegin a c.args.words.now b c.loop-fanout.words (map event_of left) (Gossips ∷ [])) none c.loop-fanout.invariant in
    let topics = c.as_slice-topic-items.ensures.value ∙ c.in_ok-topics.ensures ∙ ap (λ (s : Setup). gossip_topics (peer_with s) b.trace) c.loop-fanout.invariant.setup in
    subst (λ (ts : List Topic). Paying m c.args.now BeatBegin a c.args.words.now b c.loop-fanout.words (beats ts) []) (sym topics) (pays_group m c.args.now BeatBegin Gossips [] a b c.args.words.now c.loop-fanout.words all)

pub loop-topic-preserved : goal.loop-topic-preserved
loop-topic-preserved g c =
    let m = exact g.W.Words.word g.W.Words.after in
    let topics : List Topic = c.as_slice-topic-items.result.now in
    let here = next_left topics c.loop-topic.topic-index c.topic-item.result c.loop-topic-test.true c.topic-item.is in
    let due = subst (λ (left : List Topic). Paying m c.args.now BeatBegin c.args.self.now c.args.words.now c.loop-topic.self c.loop-topic.words (beats left) []) here c.loop-topic.invariant in
    pays_next m c.args.now BeatBegin (Step (GossipBeat c.topic-item.result)) (beats (drop (c.loop-topic.topic-index + 1) topics)) [] c.args.self.now c.loop-topic.self c.gossip.new.self c.args.words.now c.loop-topic.words c.gossip.new.words c.in_ok-gossip.field-0 due refl c.in_ok-gossip.ensures

pub returns : goal.returns
returns g c =
    let m = exact g.W.Words.word g.W.Words.after in
    let topics : List Topic = c.as_slice-topic-items.result.now in
    let none = drop_all c.loop-topic.topic-index topics (omega (arith, c.loop-topic-test.false)) in
    let due = subst (λ (left : List Topic). Paying m c.args.now BeatBegin c.args.self.now c.args.words.now c.loop-topic.self c.loop-topic.words (beats left) []) none c.loop-topic.invariant in
    pays_all m c.args.now BeatBegin c.args.self.now c.step-2.new.self c.args.words.now c.step-2.new.words c.in_ok-step-2.field-0 (pays_next m c.args.now BeatBegin (Step BeatEnd) [] [] c.args.self.now c.loop-topic.self c.step-2.new.self c.args.words.now c.loop-topic.words c.step-2.new.words c.in_ok-step-2.field-0 due refl c.in_ok-step-2.ensures)
