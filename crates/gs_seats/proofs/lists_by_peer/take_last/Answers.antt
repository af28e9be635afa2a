use Rattle.std.proofs.Common.{sym, ap, ◌∙◌, ◌++◌, option_to_list, rules, Option, MatchOption, IfNone, None, Some}
use Rattle.gs_seats.proofs.PlaceLists.{list_at-set, list_at-get, list_at-other, nil_by_length}
use Rattle.gs_seats.proofs.lists_by_peer.take_last.Goals as goal

if_none : {A : Type 0} (r : Option A) (P P' Q : Type 0) (F : A → Type 0) → MatchOption r (P × P') F → (P → Q) → IfNone r Q
if_none None P P' Q F h f = f h.0
if_none (Some x) P P' Q F h f = tt

pub returns-clause-taken : goal.returns-clause-taken
returns-clause-taken g c =
    list_at-get c.args.lists.now.items c.args.peer.0 _ c.from.ensures c.index_mut-list.result.now _ c.index_mut-list.ensures.value c.requires.within ∙ c.pop.ensures.items
    ∙ ap (λ l. l ++ option_to_list c.pop.result) (sym (list_at-set c.args.lists.now.items c.args.peer.0 _ c.from.ensures c.pop.new.self c.requires.within))

pub returns-clause-none : goal.returns-clause-none
returns-clause-none g c =
    if_none c.pop.result _ _ _ _ c.pop.ensures.cases (λ len.
    list_at-get c.args.lists.now.items c.args.peer.0 _ c.from.ensures c.index_mut-list.result.now _ c.index_mut-list.ensures.value c.requires.within
    ∙ nil_by_length c.index_mut-list.result.now.items (search rules))

pub returns-clause-others : goal.returns-clause-others
returns-clause-others g c = list_at-other c.args.lists.now.items c.args.peer.0 _ c.from.ensures c.pop.new.self
