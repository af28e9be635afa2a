use Rattle.std.proofs.Common.{◌≡◌, ◌∙◌, true, refl, rules, ap, subst}
use Rattle.std.specs.List.{AllByRecursion}
use Rattle.gs_link.specs.Flat.{flat}
use Rattle.gs_peer.specs.Life.{words_of}
use Rattle.gs_peer.specs.Outboxes.{is_open}
use Rattle.gs_peer.specs.Running.{seat_with}
use Rattle.gs_peer.proofs.Beginning.{kept_new}
use Rattle.gs_peer.proofs.running.Running.new.Goals as goal

pub returns-clause-kept : goal.returns-clause-kept
returns-clause-kept g c =
    let h = c.requires in
    let same : c.deref.result.now ≡ c.args.assignment.neighbours.items = search rules in
    let opens = subst (AllByRecursion (λ q. is_open c.in_ok-inboxes.field-0.outboxes q ≡ true)) (same ∙ h.neighbours) c.in_ok-inboxes.ensures.open in
    record {
      small = h.small;
      known = h.known;
      kept = kept_new (seat_with c.args.assignment c.args.chooser.router.peer) (words_of (g.S.Ends.taken c.args.ends)) (words_of (g.S.Ends.accepted c.args.ends)) _ _ c.args.chooser.router _ _ c.args.chooser.words refl h.ascending h.fresh h.running (search rules)
          (λ q. ap flat (h.none_taken q)) (λ q. ap flat (h.none_accepted q)) (search rules)
          opens (search rules) (search rules) (search rules);
    }
