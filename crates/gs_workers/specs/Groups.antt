-- Futures that run side by side. Each is kept here with its output once it is done.
use Rattle.std.specs.Prelude.{List}
use Rattle.std.specs.List.{AllByRecursion, AllZip}
use Rattle.futures.specs.Joined.{IsLive, MayGive}
use Rattle.futures.specs.declared.future.made.maybe_done.MaybeDone.{MaybeDone}
use Rattle.futures.specs.declared.future.made.maybe_done.MaybeDone.TheVariants.{Future, Done, Gone}

module _ {F A : Type 0} where
  -- each may be polled, or is done
  abbrev pub AllLive : (F → Type 0) → List (MaybeDone F A) → Type 0
  AllLive can_poll members = AllByRecursion (IsLive can_poll) members

  -- `new` may give nothing that `old` may not give
  abbrev pub GivesNoMore : (F → A → Type 0) → MaybeDone F A → MaybeDone F A → Type 0
  GivesNoMore gives old new = (x : A) → MayGive gives new x → MayGive gives old x

  -- the second is done, with an output that the first may give
  abbrev pub EndsAs : (F → A → Type 0) → MaybeDone F A → MaybeDone F A → Type 0
  EndsAs gives m (Done x) = MayGive gives m x
  EndsAs gives m (Future f) = ⊥
  EndsAs gives m Gone = ⊥

  -- each has ended with an output that it may give
  abbrev pub AllEnd : (F → A → Type 0) → List (MaybeDone F A) → List (MaybeDone F A) → Type 0
  AllEnd gives members ended = AllZip (EndsAs gives) members ended
