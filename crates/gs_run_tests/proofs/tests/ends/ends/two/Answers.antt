use Rattle.std.proofs.Common.{refl}
use Rattle.gs_ends.proofs.Apart.{two_sources}
use Rattle.gs_run_tests.proofs.tests.ends.ends.two.Goals as goal

pub new-requires-clause-apart : goal.new-requires-clause-apart
new-requires-clause-apart c = two_sources _ _ _ c.in_ok-inbound.ensures.items refl
