use Rattle.std.proofs.Common.{refl, true, arith}
use Rattle.atomic_table.specs.Table.{keeps}
use Rattle.gs_workers.proofs.Flags.{raises}
use Rattle.gs_workers.proofs.stop_flag.StopFlag.set.Goals as goal

pub swap_new_seat-found-requires : goal.swap_new_seat-found-requires
swap_new_seat-found-requires c = (
  omega (arith, c.self.invariant),
  λ s flag homes small. (true, keeps, tt, raises s.words s.views flag, refl),
)
