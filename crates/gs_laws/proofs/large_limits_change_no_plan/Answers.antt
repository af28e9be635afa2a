use Rattle.gs_laws.proofs.LargeLimits.{described_within_large}
use Rattle.gs_laws.proofs.large_limits_change_no_plan.Goals as goal

pub returns : goal.returns
returns c = described_within_large
