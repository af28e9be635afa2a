use Rattle.std.proofs.Common.{sym, ap, ◌∙◌, ◌++◌, ◌∷◌, [], Result, Ok, Err, OnErr}
use Rattle.gs_seats.proofs.PlaceLists.{list_at-set, list_at-get, list_at-other}
use Rattle.gs_seats.proofs.lists_by_peer.put_last.Goals as goal

on_err : {A B : Type 0} (r : Result A B) (P : Type 0) → P → OnErr r P
on_err (Ok x) P p = tt
on_err (Err e) P p = p

pub returns-in_err-push-clause-kept : goal.returns-in_err-push-clause-kept
returns-in_err-push-clause-kept g c =
    on_err c.from_residual.result _ (list_at-set c.args.lists.now.items c.args.peer.0 _ c.from.ensures c.push.new.self c.requires.within ∙ c.in_err-push.ensures.items
    ∙ sym (list_at-get c.args.lists.now.items c.args.peer.0 _ c.from.ensures c.index_mut-list.result.now _ c.index_mut-list.ensures.value c.requires.within))

pub returns-in_err-push-clause-others : goal.returns-in_err-push-clause-others
returns-in_err-push-clause-others g c = list_at-other c.args.lists.now.items c.args.peer.0 _ c.from.ensures c.push.new.self

pub returns-clause-put : goal.returns-clause-put
returns-clause-put g c =
    list_at-set c.args.lists.now.items c.args.peer.0 _ c.from.ensures c.push.new.self c.requires.within ∙ c.in_ok-push.ensures.items
    ∙ ap (λ l. l ++ c.args.value ∷ []) (sym (list_at-get c.args.lists.now.items c.args.peer.0 _ c.from.ensures c.index_mut-list.result.now _ c.index_mut-list.ensures.value c.requires.within))

pub returns-clause-others : goal.returns-clause-others
returns-clause-others g c = list_at-other c.args.lists.now.items c.args.peer.0 _ c.from.ensures c.push.new.self
