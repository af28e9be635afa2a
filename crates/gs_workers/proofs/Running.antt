-- Futures that were dealt, and what became of them.
use Rattle.std.proofs.Common.{◌≡◌, suc, List, [], ◌∷◌, arith, subst, sym}
use Rattle.std.specs.List.{All, AllByRecursion, AllZip}
use Rattle.futures.specs.Joined.{IsLive}
use Rattle.futures.specs.declared.future.made.maybe_done.MaybeDone.{MaybeDone}
use Rattle.futures.specs.declared.future.made.maybe_done.MaybeDone.TheVariants.{Future}
use Rattle.gs_workers.specs.Deals.{IsDealt}
use Rattle.gs_workers.specs.Groups.{AllEnd, AllLive, EndsAs}
use Rattle.gs_workers.proofs.Dealing.{all_dealt, dealt_through}
use Rattle.gs_workers.proofs.Gathering.{EndsFor}

by_recursion : {A : Type 0} (P : A → Type 0) (xs : List A) → All P xs → AllByRecursion P xs
by_recursion P [] all = tt
by_recursion P (x ∷ xs) all = (all 0 x (omega arith), by_recursion P xs (λ k d low. all (suc k) d (omega (arith, low))))

module _ {F A : Type 0} where
  abbrev pub IsFor : F → MaybeDone F A → Type 0
  IsFor future member = member ≡ Future future

  pub dealt_live : (can_poll : F → Type 0) (futures : List F) (groups : List (List (MaybeDone F A))) → IsDealt IsFor futures groups → All can_poll futures → AllByRecursion (AllLive can_poll) groups
  dealt_live can_poll futures groups dealt ready =
      all_dealt IsFor can_poll (IsLive can_poll) (λ future member is live. subst (IsLive can_poll) (sym is) live) futures groups dealt (by_recursion can_poll futures ready)

  pub dealt_ends : (gives : F → A → Type 0) (futures : List F) (groups started ends : List (List (MaybeDone F A))) → IsDealt IsFor futures groups → started ≡ groups → AllZip (AllEnd gives) started ends → IsDealt (EndsFor gives) futures ends
  dealt_ends gives futures groups started ends dealt same zip =
      dealt_through IsFor (EndsAs gives) (EndsFor gives) (λ future member end is how. subst (λ m. EndsAs gives m end) is how) futures groups ends dealt (subst (λ l. AllZip (AllEnd gives) l ends) same zip)
