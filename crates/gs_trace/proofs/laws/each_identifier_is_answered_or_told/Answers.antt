use Rattle.std.proofs.Common.{[]}
use Rattle.gs_trace.proofs.FallenLaws.{each_is_answered_or_told}
use Rattle.gs_trace.proofs.laws.each_identifier_is_answered_or_told.Goals as goal

pub returns : goal.returns
returns c = λ p L q ids. each_is_answered_or_told p L q [] ids
