use Rattle.gs_rules.proofs.Gossiped.{each, last, stands, whole}
use Rattle.gs_rules.proofs.laws.what_is_kept_is_gossiped.Goals as goal

pub returns-clause-stands : goal.returns-clause-stands
returns-clause-stands c = stands

pub returns-clause-whole : goal.returns-clause-whole
returns-clause-whole c = whole

pub returns-clause-each : goal.returns-clause-each
returns-clause-each c = each

pub returns-clause-last : goal.returns-clause-last
returns-clause-last c = last
