use Rattle.std.proofs.Common.{refl}
use Rattle.gs_ends.proofs.Apart.{three_sources}
use Rattle.gs_run_tests.proofs.tests.ends.given.ends_of.Goals as goal

pub new-requires-clause-apart : goal.new-requires-clause-apart
new-requires-clause-apart c = three_sources _ _ _ _ c.in_ok-inbound.ensures.items refl refl refl
