use Rattle.std.proofs.Common.{◌++◌, ◌+◌, ◌∙◌, List, drop, map, sym, ap}
use Rattle.std.specs.List.{flat_map}
use Rattle.std.proofs.lemmas.List.{append_assoc}
use Rattle.std.proofs.lemmas.List.Concat.{flat_map-cons}
use Rattle.gs_base.specs.declared.names.PeerNo.{PeerNo}
use Rattle.gs_base.specs.declared.names.Topic.{Topic}
use Rattle.gs_rules.specs.Tables.{Entries}
use Rattle.gs_rules.specs.Meshes.{mesh}
use Rattle.gs_router.proofs.Steps.{next_left}
use Rattle.gs_router.proofs.state.State.meshes.Goals as goal

-- the members of the mesh of a topic, each with it
abbrev members_on : Entries → Topic → List (Topic × PeerNo)
members_on L t = map (λ (q : PeerNo). (t, q)) (mesh L t)

pub loop-topic-preserved : goal.loop-topic-preserved
loop-topic-preserved g c = λ L agrees.
    let topics : List Topic = c.as_slice-topic-items.result.now in
    let rest = drop (c.loop-topic.topic-index + 1) topics in
    let item = c.topic-item.result in
    let before = c.loop-topic.meshes in
    let here = next_left topics c.loop-topic.topic-index item c.loop-topic-test.true c.topic-item.is in
    ap (λ (ms : List (Topic × PeerNo)). ms ++ flat_map (members_on L) rest) (c.in_ok-list_members.ensures L agrees)
    ∙ append_assoc before (members_on L item) (flat_map (members_on L) rest)
    ∙ ap (λ (ms : List (Topic × PeerNo)). before ++ ms) (sym (flat_map-cons (members_on L) item rest))
    ∙ ap (λ (ts : List Topic). before ++ flat_map (members_on L) ts) (sym here)
    ∙ c.loop-topic.invariant L agrees
