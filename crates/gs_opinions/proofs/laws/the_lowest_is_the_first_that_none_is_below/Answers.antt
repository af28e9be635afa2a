use Rattle.std.proofs.Common.{filter}
use Rattle.gs_opinions.specs.Runs.{is_between}
use Rattle.gs_opinions.proofs.Told.{first, least, only_of_nothing}
use Rattle.gs_opinions.proofs.laws.the_lowest_is_the_first_that_none_is_below.Goals as goal

pub returns-clause-least : goal.returns-clause-least
returns-clause-least c = λ os p q x is. least (filter (is_between p q) os) x is

pub returns-clause-first : goal.returns-clause-first
returns-clause-first c = λ os p q x is. first (filter (is_between p q) os) x is

pub returns-clause-none : goal.returns-clause-none
returns-clause-none c = λ os p q is. only_of_nothing (filter (is_between p q) os) is
