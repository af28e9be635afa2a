-- The table of budgets after one entry.
use Rattle.std.proofs.Common.{◌≡◌, ℕ, ◌+◌, ◌-◌, arith, Bool, true, false, if◌then◌else◌, List, [], ◌∷◌, refl, sym, ap, ◌∙◌}
use Rattle.gs_base.specs.declared.names.PeerNo.{PeerNo}
use Rattle.gs_base.specs.declared.mark.Mark.{Mark}
use Rattle.gs_base.specs.declared.mark.Mark.TheVariants.{Offered, Asked}
use Rattle.gs_base.specs.Names.{same_peer}
use Rattle.gs_rules.specs.declared.trace.Entry.{Entry}
use Rattle.gs_rules.specs.Tables.{Entries, after_marks, asked, asked_after, offers, offers_after}
use Rattle.gs_router.specs.declared.tables.budgets.Budget.{Budget}
use Rattle.gs_router.specs.declared.tables.budgets.Budgets.{Budgets}
use Rattle.gs_router.specs.Tables.{AgreesOnBudgets, budget_after, budget_in, budget_left, unmarked}

-- ---- budgets

-- Where these marks of an entry are left: noted, they lead to what all of them lead to from the table before.
pub record Spending (all left : List Mark) (old new : Budgets) : Type 0 where
  pub folds : (q : PeerNo) → after_marks (budget_after q) left (budget_in new q) ≡ after_marks (budget_after q) all (budget_in old q)
  pub full : new.full ≡ old.full

abbrev spent : Budget → ℕ → ℕ → Budget
spent full n k = record { offers = full.offers - n; ids = full.ids - k }

-- what marks leave of what is left is what is left of what they count
spent_so : (full : Budget) (q : PeerNo) (marks : List Mark) (n k : ℕ)
    → after_marks (budget_after q) marks (spent full n k) ≡ spent full (after_marks (offers_after q) marks n) (after_marks (asked_after q) marks k)
spent_so full q [] n k = refl
spent_so full q (Offered p ∷ marks) n k = by (same_peer p q) (spent_so full q marks)
  where
    by : (same : Bool)
        → ((n k : ℕ) → after_marks (budget_after q) marks (spent full n k) ≡ spent full (after_marks (offers_after q) marks n) (after_marks (asked_after q) marks k))
        → after_marks (budget_after q) marks (if same then record { offers = full.offers - n - 1; ids = full.ids - k } else spent full n k)
        ≡ spent full (after_marks (offers_after q) marks (if same then n + 1 else n)) (after_marks (asked_after q) marks k)
    by true so =
        let less : full.offers - n - 1 ≡ full.offers - (n + 1) = omega arith in
        ap (λ (left : ℕ). after_marks (budget_after q) marks (record { offers = left; ids = full.ids - k })) less ∙ so (n + 1) k
    by false so = so n k
spent_so full q (Asked p m ∷ marks) n k = by (same_peer p q) (spent_so full q marks)
  where
    by : (same : Bool)
        → ((n k : ℕ) → after_marks (budget_after q) marks (spent full n k) ≡ spent full (after_marks (offers_after q) marks n) (after_marks (asked_after q) marks k))
        → after_marks (budget_after q) marks (if same then record { offers = full.offers - n; ids = full.ids - k - m } else spent full n k)
        ≡ spent full (after_marks (offers_after q) marks n) (after_marks (asked_after q) marks (if same then k + m else k))
    by true so =
        let less : full.ids - k - m ≡ full.ids - (k + m) = omega arith in
        ap (λ (left : ℕ). after_marks (budget_after q) marks (record { offers = full.offers - n; ids = left })) less ∙ so n (k + m)
    by false so = so n k
spent_so full q (other ∷ marks) n k = spent_so full q marks n k

-- all marks are noted
pub spent_all : (old new : Budgets) (e : Entry) (L : Entries) (all left : List Mark) → all ≡ e.effects.marks → left ≡ [] → Spending all left old new → AgreesOnBudgets old (unmarked e ∷ L) → AgreesOnBudgets new (e ∷ L)
spent_all old new e L all left are none spending agrees = record {
  leaves = λ q.
      ap (λ (marks : List Mark). after_marks (budget_after q) marks (budget_in new q)) (sym none)
      ∙ spending.folds q
      ∙ ap (λ (marks : List Mark). after_marks (budget_after q) marks (budget_in old q)) are
      ∙ ap (after_marks (budget_after q) e.effects.marks) (agrees.leaves q)
      ∙ spent_so old.full q e.effects.marks (offers (unmarked e ∷ L) q) (asked (unmarked e ∷ L) q)
      ∙ ap (λ (full : Budget). budget_left full (e ∷ L) q) (sym spending.full);
}
