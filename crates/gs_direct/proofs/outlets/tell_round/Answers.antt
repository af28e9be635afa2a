use Rattle.std.proofs.Common.{List, subst, sym}
use Rattle.std.specs.List.{AllZip}
use Rattle.gs_rules.specs.declared.trace.Entry.{Entry}
use Rattle.gs_direct.specs.Outlets.{AllWritten, SaysAll}
use Rattle.gs_direct.proofs.Telling.{written_round}
use Rattle.gs_direct.proofs.outlets.tell_round.Goals as goal

pub tell_all-requires : goal.tell_all-requires
tell_all-requires g c =
    let v = c.args.router.now in
    subst AllWritten (sym c.round.ensures) (written_round v.peer v.trace c.requires)

pub returns : goal.returns
returns g c = subst (λ (entries : List Entry). AllZip (SaysAll entries) c.args.outlets.now c.tell_all.new.outlets) c.round.ensures c.in_ok-tell_all.ensures
