use Rattle.std.proofs.Common.{◌≡◌, ◌++◌, List, None, Option, flat_map, take, sym, ap, ◌∙◌}
use Rattle.std.proofs.lemmas.List.{take_all}
use Rattle.std.proofs.lemmas.List.Sums.{fold-append}
use Rattle.gs_snapshots.specs.declared.snapshot.OnTopic.{OnTopic}
use Rattle.gs_snapshots.specs.Loads.{Load, amount_of, loads, loads_of_no_topic, loads_on_topic}
use Rattle.gs_snapshots.specs.Noting.{lower, lower_of_all}
use Rattle.gs_snapshots.proofs.Lowest.{flat_more, lowest_is}
use Rattle.gs_snapshots.proofs.loads.heaviest.Goals as goal

pub loop-told-preserved : goal.loop-told-preserved
loop-told-preserved c =
    let of = loads_on_topic c.args.rules.now in
    let xs = c.as_slice-told-items.result.now in
    let i = c.loop-told.told-index in
    let x = c.told-item.result in
    c.heavier_on_topic-found.ensures
    ∙ ap (λ (found : Option Load). lower_of_all amount_of found (of x)) c.loop-told.invariant
    ∙ sym (fold-append (lower amount_of) None (flat_map of (take i xs)) (of x))
    ∙ ap (λ (all : List Load). lower_of_all amount_of None all) (flat_more of xs i x c.loop-told-test.true c.told-item.is)

pub returns : goal.returns
returns c =
    let of = loads_on_topic c.args.rules.now in
    let xs = c.as_slice-told-items.result.now in
    let parts = c.args.snapshot.now.parts in
    c.heavier_of_no_topic.ensures
    ∙ ap (λ (found : Option Load). lower_of_all amount_of found (loads_of_no_topic parts))
    (c.loop-told.invariant ∙ ap (λ (all : List OnTopic). lower_of_all amount_of None (flat_map of all)) (take_all c.loop-told.told-index xs c.loop-told-test.false))
    ∙ sym (fold-append (lower amount_of) None (flat_map of xs) (loads_of_no_topic parts))
    ∙ ap (λ (topics : List OnTopic). lower_of_all amount_of None (flat_map of topics ++ loads_of_no_topic parts)) c.as_slice-told-items.ensures
    ∙ lowest_is amount_of (loads c.args.rules.now c.args.snapshot.now)
