use Rattle.std.proofs.Common.{◌≡◌, ◌++◌, drop, filter}
use Rattle.std.specs.Prelude.{◌&&◌}
use Rattle.gs_rules.specs.Tables.{Entries, on, up}
use Rattle.gs_router.specs.Tables.{Agrees}
use Rattle.gs_router.proofs.entries.selection.explicit_listeners.Given as goal

abbrev pub invariant-loop-peer : goal.invariant-loop-peer
invariant-loop-peer l =
    (L : Entries) → Agrees l.known.tables L
    → l.found.items ++ filter (λ q. up L q && on L q l.topic) (drop l.peer-index l.peer-items) ≡ filter (λ q. up L q && on L q l.topic) l.peer-items
