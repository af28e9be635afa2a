use Rattle.std.proofs.Common.{◌≡◌, ◌++◌, Bool, true, if◌then◌else◌, [], subst, sym, ◌∙◌}
use Rattle.std.specs.Prelude.{OnErr}
use Rattle.gs_streams.specs.Streams.{AppendsFront}
use Rattle.gs_snapshots.specs.Scores.{is_wanted_peer, text_of_peer}
use Rattle.gs_snapshots.specs.Wishes.{wishes_of}
use Rattle.gs_snapshots.proofs.scores.write_peer_if.Goals as goal

pub returns-then-has_name-clause-front : goal.returns-then-has_name-clause-front
returns-then-has_name-clause-front g c =
    let plan = c.args.plan.now in
    let w = wishes_of c.args.wanted.now in
    let x = c.args.peer.now in
    let is : is_wanted_peer w plan x ≡ true = sym c.has_name.ensures ∙ c.if-has_name.true in
    subst
    (λ (b : Bool). OnErr c.write_peer.result (AppendsFront (g.W.Write.contents c.args.output.now) (g.W.Write.contents c.write_peer.new.output) (c.args.page.now.items ++ (if b then text_of_peer w plan x else []))))
    (sym is)
    c.write_peer.ensures.front
