use Rattle.std.proofs.Common.{◌++◌, ◌∷◌, ℕ, List, sym, ap, ◌∙◌, subst}
use Rattle.std.proofs.lemmas.Result.{on_ok_weaker}
use Rattle.gs_base.specs.declared.names.PeerNo.{PeerNo}
use Rattle.gs_rules.specs.Tables.{Entries}
use Rattle.gs_snapshots.specs.declared.moments.Moment.{Moment}
use Rattle.gs_snapshots.specs.Moments.{occasion_of}
use Rattle.gs_snapshots.specs.Telling.{FollowsPeer, told_of_each}
use Rattle.gs_snapshots.proofs.Fronts.{moment_given}
use Rattle.gs_snapshots.proofs.scores.push_entry.Goals as goal

pub returns-in-Some : goal.returns-in-Some
returns-in-Some c =
    let asked = c.args.asked.now in
    let plan = asked.plan.now in
    let e = c.args.entry.now in
    let m = c.in-Some.moment in
    let out = c.args.out.now.items in
    let given = λ (L : Entries). moment_given plan asked.peer e L (occasion_of e.event) m (sym c.moment_of.ensures ∙ c.in-Some.is) in
    on_ok_weaker
    c.push_moment_if.result
    (λ told L left follows.
    told (e ∷ L) left (subst (λ (p : PeerNo). FollowsPeer c.args.follower.now plan p (e ∷ L) left) (sym (given L).1) follows)
    ∙ ap (λ (ms : List (Moment × Entries)). out ++ told_of_each asked ms) (sym (given L).0))
    c.push_moment_if.ensures
