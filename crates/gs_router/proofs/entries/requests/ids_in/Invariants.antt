use Rattle.std.proofs.Common.{◌≡◌, ◌++◌, drop}
use Rattle.gs_rules.specs.Rules.{ids_in}
use Rattle.gs_router.proofs.entries.requests.ids_in.Given as goal

abbrev pub invariant-loop-bytes : goal.invariant-loop-bytes
invariant-loop-bytes l = l.ids.items ++ ids_in (drop l.bytes-index l.all) ≡ ids_in l.all
