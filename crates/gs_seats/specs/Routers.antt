-- A router that has done nothing.
use Rattle.std.specs.Prelude.{false, []}
use Rattle.gs_base.specs.declared.names.PeerNo.{PeerNo}
use Rattle.gs_plan.specs.declared.plan.Plan.{Plan}
use Rattle.gs_router.specs.Router.{RouterView}
use Rattle.gs_seats.specs.Rounds.{peer_in}

-- a peer's router before it has done anything
abbrev pub new_router : Plan → PeerNo → RouterView
new_router plan p = record { peer = peer_in plan p; trace = []; is_stopped = false }
