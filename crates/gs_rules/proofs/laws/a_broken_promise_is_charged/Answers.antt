use Rattle.std.proofs.Common.{◌∷◌, ◌++◌}
use Rattle.gs_rules.proofs.Charged.{charged_of, due_of, held, only_left}
use Rattle.gs_rules.proofs.laws.a_broken_promise_is_charged.Goals as goal

pub returns-clause-held : goal.returns-clause-held
returns-clause-held c = held

pub returns-clause-due : goal.returns-clause-due
returns-clause-due c = λ later earlier e promise at makes leaves time. due_of (later ++ e ∷ earlier) promise at time (held later earlier e promise makes leaves)

pub returns-clause-charged : goal.returns-clause-charged
returns-clause-charged c = λ later earlier e promise at makes leaves time is_up.
    charged_of (later ++ e ∷ earlier) promise at time is_up (held later earlier e promise makes leaves)

pub returns-clause-only : goal.returns-clause-only
returns-clause-only c = only_left
