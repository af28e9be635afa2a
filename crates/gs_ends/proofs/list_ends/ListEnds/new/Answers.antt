use Rattle.std.proofs.Common.{◌≡◌, ◌++◌, [], ◌∷◌, List, map, rules, sym, ap, ◌∙◌, subst}
use Rattle.std.proofs.lemmas.List.{nil_from_length}
use Rattle.std.proofs.lemmas.List.Elements.{All-rest}
use Rattle.std.specs.Vec.Iter.{into_iter_items}
use Rattle.gs_ends.specs.Lists.{BringsSendable, Listed, Source, fresh_ends}
use Rattle.gs_ends.proofs.Fresh.{one_made, all_made, joints_as_fresh, accepted_as_fresh, taken_as_fresh}
use Rattle.gs_ends.proofs.list_ends.ListEnds.new.Goals as goal

pub loop-who-preserved : goal.loop-who-preserved
loop-who-preserved c =
    let source : Source = (c.in-Some.who, c.in-Some.items) in
    let pair : Listed = (c.in-Some.who, c.in_ok-outbound.outbound, c.new-in-loop-who.result) in
    let left : List Source = into_iter_items c.next.new.self in
    let next : into_iter_items c.loop-who.who-iterator ≡ source ∷ left = search rules in
    let fresh : pair ≡ fresh_ends c.args.room source = λ i. (c.in-Some.who, c.in_ok-outbound.ensures i, c.new-in-loop-who.ensures i) in
    let before : c.loop-who.list.items ++ map (fresh_ends c.args.room) (source ∷ left) ≡ map (fresh_ends c.args.room) c.args.inbound.items = ap (λ l. c.loop-who.list.items ++ map (fresh_ends c.args.room) l) (sym next) ∙ c.loop-who.invariant.0 in (
      subst (λ (l : List Listed). l ++ map (fresh_ends c.args.room) left ≡ map (fresh_ends c.args.room) c.args.inbound.items) (sym c.in_ok-push.ensures.items)
          (one_made c.args.room c.loop-who.list.items pair source left (map (fresh_ends c.args.room) c.args.inbound.items) fresh before),
      All-rest BringsSendable source left (into_iter_items c.loop-who.who-iterator) next c.loop-who.invariant.1,
    )

pub returns-clause-joints : goal.returns-clause-joints
returns-clause-joints c =
    let none : into_iter_items c.loop-who.who-iterator ≡ [] = nil_from_length _ (sym c.loop-who.who-iterator.rest.ok.0 ∙ c.in-None.ensures.steps.0) in
    let all : c.loop-who.list.items ≡ map (fresh_ends c.args.room) c.args.inbound.items = all_made c.args.room c.loop-who.list.items _ _ none c.loop-who.invariant.0 in
    joints_as_fresh c.args.room c.args.inbound.items c.loop-who.list.items all

pub returns-clause-accepted : goal.returns-clause-accepted
returns-clause-accepted c =
    let none : into_iter_items c.loop-who.who-iterator ≡ [] = nil_from_length _ (sym c.loop-who.who-iterator.rest.ok.0 ∙ c.in-None.ensures.steps.0) in
    let all : c.loop-who.list.items ≡ map (fresh_ends c.args.room) c.args.inbound.items = all_made c.args.room c.loop-who.list.items _ _ none c.loop-who.invariant.0 in
    accepted_as_fresh c.args.room c.args.inbound.items c.loop-who.list.items all

pub returns-clause-taken : goal.returns-clause-taken
returns-clause-taken c =
    let none : into_iter_items c.loop-who.who-iterator ≡ [] = nil_from_length _ (sym c.loop-who.who-iterator.rest.ok.0 ∙ c.in-None.ensures.steps.0) in
    let all : c.loop-who.list.items ≡ map (fresh_ends c.args.room) c.args.inbound.items = all_made c.args.room c.loop-who.list.items _ _ none c.loop-who.invariant.0 in
    taken_as_fresh c.args.room c.args.inbound.items c.loop-who.list.items all
