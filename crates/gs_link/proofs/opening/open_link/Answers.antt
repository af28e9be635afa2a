use Rattle.std.proofs.Common.{rules}
use Rattle.gs_link.proofs.KeepsRule.{makes, splits_sender, splits_receiver}
use Rattle.gs_link.proofs.opening.open_link.Goals as goal

pub ruled-requires-clause-rule : goal.ruled-requires-clause-rule
ruled-requires-clause-rule c = makes

pub another-sender-requires-clause-rule : goal.another-sender-requires-clause-rule
another-sender-requires-clause-rule c = splits_sender _ _ (search rules)

pub another-receiver-requires-clause-rule : goal.another-receiver-requires-clause-rule
another-receiver-requires-clause-rule c = splits_receiver _ _ (search rules)
