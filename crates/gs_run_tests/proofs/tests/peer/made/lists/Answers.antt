use Rattle.std.proofs.Common.{◌≡◌, List, [], ◌∷◌, sym, subst}
use Rattle.std.specs.List.{IsDistinct}
use Rattle.std.proofs.lemmas.Map.Keys.{IsDistinct-cons}
use Rattle.gs_base.specs.Names.{same_peer}
use Rattle.gs_ends.specs.Lists.{Source, senders_of}
use Rattle.gs_run_tests.proofs.tests.peer.made.lists.Goals as goal

one_source : (xs : List Source) (x : Source) → xs ≡ x ∷ [] → IsDistinct same_peer (senders_of xs)
unfolding IsDistinct
one_source xs x is = subst (λ l. IsDistinct same_peer (senders_of l)) (sym is) (IsDistinct-cons same_peer x.0 [] tt tt)

pub new-requires-clause-apart : goal.new-requires-clause-apart
new-requires-clause-apart c = one_source _ _ c.in_ok-inbound.ensures.items
