use Rattle.std.proofs.Common.{Some, None, arith}
use Rattle.std.proofs.lemmas.Str.Pattern.{split_parts}
use Rattle.gs_edit.proofs.Paths.{path_of-cut, path_of-whole}
use Rattle.gs_edit.proofs.keys.first_part.Goals as goal

pub returns-in-Some-clause-parts : goal.returns-in-Some-clause-parts
returns-in-Some-clause-parts c =
    let cut = split_parts 46 c.args.key.now (Some (c.in-Some.part, c.in-Some.rest)) c.in-Some.ensures.cases (omega arith) in
    rw cut.0 (path_of-cut c.in-Some.part.now c.in-Some.rest.now cut.1)

pub returns-in-None-clause-parts : goal.returns-in-None-clause-parts
returns-in-None-clause-parts c =
    path_of-whole c.args.key.now (split_parts 46 c.args.key.now None c.in-None.ensures.cases (omega arith))
