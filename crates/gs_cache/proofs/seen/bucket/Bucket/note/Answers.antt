use Rattle.std.proofs.Common.{refl, sym, ◌∙◌}
use Rattle.std.proofs.lemmas.Result.{err_from_is_err_and}
use Rattle.std.proofs.lemmas.Map.Steps.{set_value_same}
use Rattle.gs_base.specs.Names.{same_id}
use Rattle.gs_cache.proofs.seen.bucket.Bucket.note.Goals as goal

pub returns-in_err-note-in-Some-clause-err : goal.returns-in_err-note-in-Some-clause-err
returns-in_err-note-in-Some-clause-err c =
    let p = err_from_is_err_and c.from_residual.result c.from_residual.ensures.1 in
    let h = c.get_mut.follows.holds c.note.new.self in
    let v = c.in-Some.ensures.value in
    rw p.1 record { sightings = h.0 ∙ set_value_same (same_id c.args.id.now) c.args.self.now.sightings.entries c.note.new.self (rw c.in_err-note-in-Some.ensures.unchanged (sym v)); first = refl; last = refl }
