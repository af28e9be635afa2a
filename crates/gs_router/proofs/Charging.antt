-- What counts against a neighbour at a heartbeat, promise by promise.
use Rattle.std.proofs.Common.{ℕ, Bool, List, map, filter}
use Rattle.std.specs.Prelude.{◌&&◌, nat_le}
use Rattle.gs_base.specs.declared.names.PeerNo.{PeerNo}
use Rattle.gs_base.specs.declared.mark.Mark.{Mark}
use Rattle.gs_base.specs.declared.mark.Mark.TheVariants.{Misbehaviour}
use Rattle.gs_base.specs.Names.{same_peer}
use Rattle.gs_rules.specs.declared.trace.Promise.{Promise}

-- whether a promise is a neighbour's, and its time has come
abbrev pub is_overdue : PeerNo → ℕ → Promise → Bool
is_overdue q at promise = same_peer promise.from q && nat_le promise.until.0 at

-- a mark for each such promise
abbrev pub charged : PeerNo → ℕ → List Promise → List Mark
charged q at promises = map (λ (promise : Promise). Misbehaviour q) (filter (is_overdue q at) promises)
