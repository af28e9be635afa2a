use Rattle.std.proofs.Common.{◌≡◌, ◌++◌, [], ◌∷◌, ◌∙◌, ap, subst, rules}
use Rattle.gs_base.specs.declared.names.PeerNo.{PeerNo}
use Rattle.gs_plan.specs.declared.plan.Line.{Line}
use Rattle.gs_seats.specs.ListsByPeer.{list_at}
use Rattle.gs_seats.specs.Rounds.{lines_in}
use Rattle.gs_seats.proofs.OwnLines.{line_listed, put_own}
use Rattle.gs_seats.proofs.lines.lines_by_peer.Goals as goal

pub loop-place-preserved : goal.loop-place-preserved
loop-place-preserved c =
    let h = c.loop-place.invariant in
    let script = c.args.plan.now.script in
    let added = c.in_ok-put_last.ensures.put ∙ ap (λ (line : Line). list_at c.loop-place.lists.items c.line-item.result.peer.0 ++ (c.loop-place.place, line) ∷ []) c.in_ok-clone_of.ensures in
    record {
      count = search rules;
      own = λ p within. line_listed p c.loop-place.place script _ (list_at c.loop-place.lists.items p.0) _ (lines_in c.args.plan.now p) (rw c.as_slice-line-items.ensures at c.loop-place-test.true) (rw c.as_slice-line-items.ensures at c.line-item.is)
          (put_own p (c.loop-place.place, c.line-item.result) _ _ (λ same. subst (λ (q : PeerNo). list_at c.put_last.new.lists.items q.0 ≡ list_at c.loop-place.lists.items q.0 ++ (c.loop-place.place, c.line-item.result) ∷ []) same added) (c.in_ok-put_last.ensures.others p.0)) (h.own p within);
    }
