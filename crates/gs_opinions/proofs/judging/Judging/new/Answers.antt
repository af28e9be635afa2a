use Rattle.std.proofs.Common.{subst, sym}
use Rattle.gs_opinions.specs.Noting.{Shows}
use Rattle.gs_opinions.proofs.Judges.{nothing_yet}
use Rattle.gs_opinions.proofs.judging.Judging.new.Goals as goal

pub returns : goal.returns
returns c = record {
  judges = c.in_ok-judges.ensures;
  tables = subst (Shows c.args.plan.now c.args.groups.now c.in_ok-tables.tables) (sym (nothing_yet c.args.plan.now c.args.of.now)) c.in_ok-tables.ensures;
}
