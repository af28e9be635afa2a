use Rattle.gs_rules.specs.Modes.{exact}
use Rattle.gs_rules.proofs.Legality.{legal_on, legal_parts, legal_then}
use Rattle.gs_rules.proofs.laws.legal_entries_compose.Goals as goal

pub returns-clause-joined : goal.returns-clause-joined
returns-clause-joined g c = legal_then (exact g.W.Words.word g.W.Words.after)

pub returns-clause-whole : goal.returns-clause-whole
returns-clause-whole g c = legal_on

pub returns-clause-parted : goal.returns-clause-parted
returns-clause-parted g c = λ p s t first later more. legal_parts (exact g.W.Words.word g.W.Words.after) p s t first later more
