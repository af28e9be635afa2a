use Rattle.std.proofs.Common.{arith}
use Rattle.gs_check.proofs.Nearer.{near_edits, no_nearer}
use Rattle.gs_check.proofs.reasons.keys.Candidate.or.Goals as goal

pub returns-then-count-max : goal.returns-then-count-max
returns-then-count-max c seen so_far =
    let key = c.args.key.now in
    let name = c.args.name.now in
    no_nearer key seen _ c.args.self.edits name so_far
    (λ near. absurd (omega (arith, near_edits key name near, c.requires.edits, c.if-count-max.true, c.max.ensures)))
    (λ near. absurd (omega (arith, near_edits key name near, c.requires.edits, c.if-count-max.true, c.max.ensures)))

pub returns-then-count-self : goal.returns-then-count-self
returns-then-count-self c seen so_far =
    let key = c.args.key.now in
    let name = c.args.name.now in
    no_nearer key seen _ c.args.self.edits name so_far
    (λ near. omega (arith, c.requires.edits, c.if-count-self.true))
    (λ near. omega (arith, near_edits key name near, c.max.ensures, c.max.type_inv))
