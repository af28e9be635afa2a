use Rattle.std.proofs.Common.{sym, subst}
use Rattle.gs_base.specs.declared.mark.Mark.{Mark}
use Rattle.gs_rules.specs.Meshes.{backoff_after, fanout_after, mesh_after, published_after}
use Rattle.gs_router.specs.declared.tables.memberships.Memberships.{Memberships}
use Rattle.gs_router.specs.Tables.{HasMeshes}
use Rattle.gs_router.proofs.Meshing.{barred}
use Rattle.gs_router.proofs.tables.memberships.Memberships.note_mark.Goals as goal

pub returns-in_ok-note_backoff-in-Backoff : goal.returns-in_ok-note_backoff-in-Backoff
returns-in_ok-note_backoff-in-Backoff c = λ members fans publishes bars has.
    let new : Memberships = record { meshes = c.note_backoff.new.self } in
    let noted = c.in_ok-note_backoff-in-Backoff.ensures in
    let mark = c.in-Backoff in
    subst (λ (m : Mark). HasMeshes new (λ t. mesh_after t m (members t)) (λ t. fanout_after t m (fans t)) (λ t. published_after t c.args.at.0 m (publishes t)) (λ q t. backoff_after q t m (bars q t))) (sym mark.is) (barred c.args.self.now new members fans publishes bars mark.peer mark.topic mark.end noted.notes noted.rest has)
