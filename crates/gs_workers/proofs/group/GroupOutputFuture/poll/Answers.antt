use Rattle.std.proofs.Common.{◌≡◌, ap, length, rules, subst, sym, ◌∙◌}
use lib.ListN.{drop}
use Rattle.std.proofs.lemmas.List.{take_at}
use Rattle.std.specs.List.{AllZip}
use Rattle.gs_workers.specs.Groups.{AllEnd, GivesNoMore}
use Rattle.gs_workers.proofs.Ending.{all_done_end, all_less_end, on_pending}
use Rattle.gs_workers.proofs.group.GroupOutputFuture.poll.Goals as goal

pub returns-then-not-advance_all-clause-same : goal.returns-then-not-advance_all-clause-same
returns-then-not-advance_all-clause-same g c =
    let gives = g.F.Future.gives in
    let old = c.args.self.now.members.items in
    let new = c.advance_all.new.members in
    let less : AllZip (GivesNoMore gives) old new = subst (λ l. AllZip (GivesNoMore gives) l new) c.as_mut_slice.ensures.value c.advance_all.ensures.same in
    let len : length new ≡ c.args.self.now.members.len = search rules in
    on_pending c.yield_now-then-not-advance_all.result _ (λ x ends.
    all_less_end gives old new x.items less (subst (λ l. AllEnd gives l x.items) (take_at new (drop (length new) old) c.args.self.now.members.len len) ends))

pub returns-clause-value : goal.returns-clause-value
returns-clause-value g c =
    let gives = g.F.Future.gives in
    let old = c.args.self.now.members.items in
    let new = c.advance_all.new.members in
    let less : AllZip (GivesNoMore gives) old new = subst (λ l. AllZip (GivesNoMore gives) l new) c.as_mut_slice.ensures.value c.advance_all.ensures.same in
    let len : length new ≡ c.args.self.now.members.len = search rules in
    let given = ap (λ v. v.items) c.replace.ensures.value ∙ take_at new (drop (length new) old) c.args.self.now.members.len len in
    subst (AllEnd gives old) (sym given) (all_done_end gives old new less (c.advance_all.ensures.done c.if-not-advance_all.false))
