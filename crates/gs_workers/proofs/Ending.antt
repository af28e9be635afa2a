-- Members that give no more than before, and end.
use Rattle.std.proofs.Common.{List, [], ◌∷◌, refl}
use Rattle.std.specs.List.{AllByRecursion, AllZip}
use Rattle.futures.specs.Joined.{IsDone}
use Rattle.futures.specs.Poll.{OnPending}
use Rattle.futures.specs.declared.task.Poll.{Poll}
use Rattle.futures.specs.declared.task.Poll.TheVariants.{Pending, Ready}
use Rattle.futures.specs.declared.future.made.maybe_done.MaybeDone.{MaybeDone}
use Rattle.futures.specs.declared.future.made.maybe_done.MaybeDone.TheVariants.{Future, Done, Gone}
use Rattle.gs_workers.specs.Groups.{AllEnd, EndsAs, GivesNoMore}

module _ {F A : Type 0} (gives : F → A → Type 0) where
  done_ends : (m n : MaybeDone F A) → GivesNoMore gives m n → IsDone n → EndsAs gives m n
  done_ends m (Future f) less done = absurd done
  done_ends m (Done x) less done = less x refl
  done_ends m Gone less done = absurd done

  less_ends : (m n r : MaybeDone F A) → GivesNoMore gives m n → EndsAs gives n r → EndsAs gives m r
  less_ends m n (Future f) less ends = absurd ends
  less_ends m n (Done x) less ends = less x ends
  less_ends m n Gone less ends = absurd ends

  pub all_done_end : (ms ns : List (MaybeDone F A)) → AllZip (GivesNoMore gives) ms ns → AllByRecursion IsDone ns → AllEnd gives ms ns
  all_done_end [] [] less done = tt
  all_done_end [] (n ∷ ns) less done = absurd less
  all_done_end (m ∷ ms) [] less done = absurd less
  all_done_end (m ∷ ms) (n ∷ ns) less done = (done_ends m n less.0 done.0, all_done_end ms ns less.1 done.1)

  pub all_less_end : (ms ns rs : List (MaybeDone F A)) → AllZip (GivesNoMore gives) ms ns → AllEnd gives ns rs → AllEnd gives ms rs
  all_less_end [] [] rs less ends = ends
  all_less_end [] (n ∷ ns) rs less ends = absurd less
  all_less_end (m ∷ ms) [] rs less ends = absurd less
  all_less_end (m ∷ ms) (n ∷ ns) [] less ends = absurd ends
  all_less_end (m ∷ ms) (n ∷ ns) (r ∷ rs) less ends = (less_ends m n r less.0 ends.0, all_less_end ms ns rs less.1 ends.1)

pub on_pending : {A : Type 0} (p : Poll A) (P : Type 0) → P → OnPending p P
on_pending (Ready x) P holds = tt
on_pending Pending P holds = holds
