use Rattle.std.proofs.Common.{◌≡◌, true}
use Rattle.gs_score.proofs.Naming.{named_by_changes}
use Rattle.gs_score.proofs.laws.changes_name_all_that_is_named.Goals as goal

pub returns : goal.returns
returns c = λ test. named_by_changes (λ t. test t ≡ true)
