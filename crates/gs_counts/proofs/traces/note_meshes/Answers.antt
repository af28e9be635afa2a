use Rattle.std.proofs.Common.{List, ◌++◌, ap, subst, take}
use Rattle.std.proofs.lemmas.List.{take_all}
use Rattle.gs_base.specs.declared.names.Topic.{Topic}
use Rattle.gs_counts.specs.Meshes.{members_in}
use Rattle.gs_counts.specs.Runs.{sizes_of}
use Rattle.gs_counts.specs.Standing.{Shows}
use Rattle.gs_counts.proofs.Entries.{size_more}
use Rattle.gs_counts.proofs.traces.note_meshes.Goals as goal

pub loop-topic-preserved : goal.loop-topic-preserved
loop-topic-preserved c = λ plan hs sizes was.
    let i = c.loop-topic.topic-index in
    let ts = c.args.topics.now in
    let at = c.args.at in
    let ms = c.args.members.now in
    subst (Shows plan c.note_size.new.self hs) (size_more sizes (λ t. (at, members_in ms t)) ts i c.topic-item.result (at, c.members_in.result) c.loop-topic-test.true c.topic-item.is (ap (λ n. (at, n)) c.members_in.ensures))
    (c.note_size.ensures plan hs (sizes ++ sizes_of at ms (take i ts)) (c.loop-topic.invariant plan hs sizes was))

pub returns : goal.returns
returns c = λ plan hs sizes was.
    subst (λ (ts : List Topic). Shows plan c.loop-topic.tables hs (sizes ++ sizes_of c.args.at c.args.members.now ts)) (take_all c.loop-topic.topic-index c.args.topics.now c.loop-topic-test.false)
    (c.loop-topic.invariant plan hs sizes was)
