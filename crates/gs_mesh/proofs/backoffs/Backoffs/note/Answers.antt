use Rattle.std.proofs.Common.{◌≡◌, rules}
use Rattle.std.specs.Prelude.{max}
use Rattle.gs_mesh.specs.Backoffs.{until}
use Rattle.gs_mesh.proofs.Noting.{noted}
use Rattle.gs_mesh.proofs.backoffs.Backoffs.note.Goals as goal

pub returns-clause-notes : goal.returns-clause-notes
returns-clause-notes c =
    let latest : c.max.result ≡ max c.args.end.0 (until c.self.inside.ends.entries c.args.peer).0 = search rules in
    rw (← c.self.view_is, ← latest) (noted c.self.inside.ends.entries c.insert.new.self.entries c.args.peer _ c.in_ok-insert.ensures.updates.0)
