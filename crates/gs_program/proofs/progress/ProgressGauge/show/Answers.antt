use Rattle.std.proofs.Common.{refl}
use Rattle.gs_program.proofs.Noted.{told_more}
use Rattle.gs_program.proofs.progress.ProgressGauge.show.Goals as goal

pub returns : goal.returns
returns g c = λ start before told. told_more start _ _ c.args.self.now.wanted c.args.self.now.rounds c.args.stage before _ _ refl c.tell_stage.ensures told
