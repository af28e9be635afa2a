use Rattle.std.proofs.Common.{◌≡◌, ◌∷◌, ◌++◌, [], List, reverse, refl, subst, sym}
use Rattle.std.proofs.lemmas.List.{reverse-append}
use Rattle.gs_rules.specs.declared.trace.Entry.{Entry}
use Rattle.gs_rules.specs.Tables.{Entries}
use Rattle.gs_rules.specs.Saying.{Said, out}
use Rattle.gs_rules.proofs.InOrder.{out_stays}
use Rattle.gs_rules.proofs.laws.one_more_entry.Goals as goal

-- the newest entry comes first
newest_first : (entries : List Entry) (e : Entry) → reverse (entries ++ e ∷ []) ≡ e ∷ reverse entries
newest_first entries e = reverse-append entries (e ∷ [])

pub returns-clause-says : goal.returns-clause-says
returns-clause-says c = λ codec entries e q is_up. rw (newest_first entries e, is_up) refl

pub returns-clause-silent : goal.returns-clause-silent
returns-clause-silent c = λ codec entries e q is_down. rw (newest_first entries e, is_down) refl

pub returns-clause-stays : goal.returns-clause-stays
returns-clause-stays c = λ codec entries e q.
    subst (λ (L : Entries). (more : Said) × (out codec L q ≡ out codec (reverse entries) q ++ more)) (sym (newest_first entries e)) (out_stays codec (reverse entries) e q)

pub returns-clause-handles : goal.returns-clause-handles
returns-clause-handles c = λ entries e q. rw (newest_first entries e) refl
