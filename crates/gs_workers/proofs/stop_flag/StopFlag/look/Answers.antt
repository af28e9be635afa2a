use Rattle.std.proofs.Common.{refl, not, nat_eq, arith}
use Rattle.std.specs.List.{slice_index}
use Rattle.gs_workers.proofs.Flags.{looks}
use Rattle.gs_workers.proofs.stop_flag.StopFlag.look.Goals as goal

pub load_new_seat-found-requires : goal.load_new_seat-found-requires
load_new_seat-found-requires c = (
  omega (arith, c.self.invariant),
  λ s flag homes small. (not (nat_eq (slice_index s.words 0) 0), looks s.words s.views flag, refl),
)
