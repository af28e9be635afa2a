use Rattle.std.proofs.Common.{◌≡◌, ◌+◌, List, ◌∷◌, cond, drop, Some, sym, ap, ◌∙◌, refl}
use Rattle.std.specs.Prelude.{◌||◌}
use Rattle.std.specs.Map.{lookup}
use Rattle.std.specs.List.{list_any}
use Rattle.std.proofs.lemmas.List.{drop_more}
use Rattle.gs_base.specs.declared.neighbour.Neighbour.{Neighbour}
use Rattle.gs_base.specs.Names.{same_peer}
use Rattle.gs_score.specs.declared.accounts.Account.{Account}
use Rattle.gs_score.specs.Ledgers.{has_account, nothing_counted}
use Rattle.gs_score.proofs.Accounting.{Opens, opens_nothing, opens_all}
use Rattle.gs_score.proofs.accounts.open_accounts.Goals as goal

pub loop-neighbour-preserved : goal.loop-neighbour-preserved
loop-neighbour-preserved c =
    let old = c.loop-neighbour.accounts.entries in
    let new = c.insert.new.self.entries in
    let item : Neighbour = c.neighbour-item.result in
    let ns = c.args.neighbours.now in
    let made : Account = record { topics = c.new.result; misbehaviour = c.new-in-loop-neighbour.result } in
    let same : made ≡ nothing_counted = rw (c.new.ensures, c.new-in-loop-neighbour.ensures) refl in
    let opens : Opens old new item.peer = λ q. c.in_ok-insert.ensures.updates.0 q ∙ ap (λ (a : Account). cond (same_peer item.peer q) (Some a) (lookup (same_peer q) old)) same in
    record {
      nothing = λ q. opens_nothing old new item.peer q opens (c.loop-neighbour.invariant.nothing q);
      all = λ q.
          opens_all old new item.peer q (list_any (λ (n : Neighbour). same_peer q n.peer) (drop (c.loop-neighbour.neighbour-index + 1) ns)) opens
          ∙ ap (λ (xs : List Neighbour). has_account old q || list_any (λ (n : Neighbour). same_peer q n.peer) xs) (sym (drop_more ns c.loop-neighbour.neighbour-index item c.loop-neighbour-test.true ∙ ap (λ y. y ∷ drop (c.loop-neighbour.neighbour-index + 1) ns) (sym c.neighbour-item.is)))
          ∙ c.loop-neighbour.invariant.all q;
    }
