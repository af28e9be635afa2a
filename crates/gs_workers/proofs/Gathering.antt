-- Outputs that are gathered from the groups, one more each time.
use Rattle.std.proofs.Common.{◌≡◌, ◌≢◌, List, [], ◌∷◌, ◌++◌, refl, sym, ap, ◌∙◌, subst, append-nil, append_assoc, arith, length, Vec}
use Rattle.std.specs.List.{AllZip}
use Rattle.std.specs.declared.alloc.Global.{Global}
use Rattle.futures.specs.declared.future.made.maybe_done.MaybeDone.{MaybeDone}
use Rattle.futures.specs.declared.future.made.maybe_done.MaybeDone.TheVariants.{Future, Done, Gone}
use Rattle.gs_workers.specs.Deals.{IsDealt, lists_of}
use Rattle.gs_workers.specs.Groups.{EndsAs}
use Rattle.gs_workers.proofs.Dealing.{lists_push, none_fits, none_left, takes_one, zip_push}

module _ {F A : Type 0} (gives : F → A → Type 0) where
  abbrev pub EndsFor : F → MaybeDone F A → Type 0
  EndsFor future member = EndsAs gives (Future future) member

  -- the outputs of the first are here, and the others lie dealt
  abbrev pub IsGathered : List F → List A → List (List (MaybeDone F A)) → Type 0
  IsGathered futures outputs groups =
      (done left : List F) × (futures ≡ done ++ left) × AllZip gives done outputs × IsDealt EndsFor left groups

  pub none_gathered : (futures : List F) (outputs : List A) (groups : List (List (MaybeDone F A))) → outputs ≡ [] → IsDealt EndsFor futures groups → IsGathered futures outputs groups
  none_gathered futures outputs groups none dealt = ([], futures, refl, subst (λ l. AllZip gives [] l) (sym none) tt, dealt)

  pub gathers_one : (futures : List F) (outputs more : List A) (x : A) (group after : Vec (MaybeDone F A) Global) (all rest next : List (Vec (MaybeDone F A) Global))
      → group.items ≡ after.items ++ Done x ∷ [] → all ≡ group ∷ rest → next ≡ rest ++ after ∷ [] → more ≡ outputs ++ x ∷ []
      → IsGathered futures outputs (lists_of all) → IsGathered futures more (lists_of next)
  gathers_one futures outputs more x group after all rest next is first behind one was =
      let took = takes_one EndsFor was.1 group.items after.items (Done x) (lists_of rest) is (subst (λ l. IsDealt EndsFor was.1 (lists_of l)) first was.4) in (
        was.0 ++ took.0 ∷ [],
        took.1,
        was.2 ∙ ap (λ l. was.0 ++ l) took.2 ∙ sym (append_assoc was.0 (took.0 ∷ []) took.1),
        subst (AllZip gives (was.0 ++ took.0 ∷ [])) (sym one) (zip_push gives was.0 outputs took.0 x was.3 took.3),
        subst (IsDealt EndsFor took.1) (sym (ap lists_of behind ∙ lists_push rest after)) took.4,
      )

  all_gathered : (futures : List F) (outputs : List A) (done left : List F) → futures ≡ done ++ left → left ≡ [] → AllZip gives done outputs → AllZip gives futures outputs
  all_gathered futures outputs done left is none zip =
      subst (λ l. AllZip gives l outputs) (sym (is ∙ ap (λ l. done ++ l) none ∙ append-nil done)) zip

  -- where there is no group, all are gathered
  pub no_group : (futures : List F) (outputs : List A) (all : List (Vec (MaybeDone F A) Global)) → length all ≡ 0 → IsGathered futures outputs (lists_of all) → AllZip gives futures outputs
  no_group futures outputs [] empty was = all_gathered futures outputs was.0 was.1 was.2 (none_left EndsFor was.1 was.4) was.3
  no_group futures outputs (group ∷ all) empty was = absurd (omega (arith, empty))

  unfit : (group : List (MaybeDone F A)) → ((below : List (MaybeDone F A)) (x : A) → group ≢ below ++ Done x ∷ []) → (future : F) (below : List (MaybeDone F A)) (member : MaybeDone F A) → group ≡ below ++ member ∷ [] → EndsFor future member → ⊥
  unfit group none future below (Future f) is ends = ends
  unfit group none future below (Done x) is ends = none below x is
  unfit group none future below Gone is ends = ends

  -- where no output is on top of the first, too
  pub no_output : (futures : List F) (outputs : List A) (group : Vec (MaybeDone F A) Global) (all rest : List (Vec (MaybeDone F A) Global))
      → ((below : List (MaybeDone F A)) (x : A) → group.items ≢ below ++ Done x ∷ []) → all ≡ group ∷ rest
      → IsGathered futures outputs (lists_of all) → AllZip gives futures outputs
  no_output futures outputs group all rest none first was =
      all_gathered futures outputs was.0 was.1 was.2 (none_fits EndsFor was.1 group.items (lists_of rest) (unfit group.items none) (subst (λ l. IsDealt EndsFor was.1 (lists_of l)) first was.4)) was.3
