use Rattle.std.proofs.Common.{refl, sym, ◌∙◌}
use Rattle.std.proofs.lemmas.Result.{err_from_is_err_and}
use Rattle.gs_cache.proofs.Turning.{noted_newer, noted_older}
use Rattle.gs_cache.proofs.seen.SeenCache.note.Goals as goal

pub returns-then-branch-clause-notes : goal.returns-then-branch-clause-notes
returns-then-branch-clause-notes c = rw (← c.self.view_is)
    (noted_newer c.self.inside.ttl.0 c.self.inside.newer.last.0 c.self.inside.newer c.self.inside.older c.note.new.self c.self.inside.older c.args.id.now c.args.peer
    c.in_ok-note.ensures.notes.sightings refl (sym c.in_ok-note.ensures.found ∙ c.if-branch.true))

pub returns-in_err-note-2-clause-unchanged : goal.returns-in_err-note-2-clause-unchanged
returns-in_err-note-2-clause-unchanged c =
    let p = err_from_is_err_and c.from_residual-in_err-note-2.result c.from_residual-in_err-note-2.ensures.1 in
    let h = c.in_ok-note.ensures.none c.if-branch.false in
    rw (p.1, ← c.self.view_is) (cc (h.sightings, h.last, c.in_err-note-2.ensures.err.sightings))

pub returns-clause-notes : goal.returns-clause-notes
returns-clause-notes c = rw (← c.self.view_is)
    (noted_older c.self.inside.ttl.0 c.self.inside.newer.last.0 c.self.inside.newer c.self.inside.older c.note.new.self c.note-2.new.self c.args.id.now c.args.peer
    c.in_ok-note.ensures.notes.sightings c.in_ok-note-2.ensures.notes.sightings)
