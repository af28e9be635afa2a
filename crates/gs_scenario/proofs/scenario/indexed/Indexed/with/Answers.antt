use Rattle.std.proofs.Common.{rules, ◌≡◌, ◌++◌, [], ◌∷◌, position, subst, sym}
use Rattle.indexmap.specs.IndexMap.{get}
use Rattle.gs_scenario.proofs.Places.{still_placed, newly_placed}
use Rattle.gs_scenario.proofs.scenario.indexed.Indexed.with.Goals as goal
use Rattle.gs_scenario.proofs.scenario.indexed.Indexed.with.Goals.{then-is_none+in_ok-insert, else-is_none}

pub invariant_of-result : goal.invariant_of-result
invariant_of-result g c = elim c.if-is_none.branch [
  | then-is_none+in_ok-insert w ↦ λ k. subst (λ xs. get g.K.PartialEq.eq c.if-is_none.places k ≡ position (λ x. g.K.PartialEq.eq k (g.T.Keyed.key_of x)) xs) (sym c.in_ok-push.ensures.ok)
      (newly_placed g.K.PartialEq.eq g.T.Keyed.key_of (get g.K.PartialEq.eq c.self.inside.places) (get g.K.PartialEq.eq c.if-is_none.places) c.self.inside.list c.args.element c.in_ok-key.key g.met.K.Eq.laws c.self.invariant c.in_ok-key.ensures (search rules) (search rules) k)
  | else-is_none w ↦ λ k. subst (λ xs. get g.K.PartialEq.eq c.if-is_none.places k ≡ position (λ x. g.K.PartialEq.eq k (g.T.Keyed.key_of x)) xs) (sym c.in_ok-push.ensures.ok)
      (subst (λ m. get g.K.PartialEq.eq m k ≡ position (λ x. g.K.PartialEq.eq k (g.T.Keyed.key_of x)) (c.self.inside.list ++ c.args.element ∷ [])) (sym w.places-is) (still_placed g.K.PartialEq.eq g.T.Keyed.key_of (get g.K.PartialEq.eq c.self.inside.places) c.self.inside.list c.args.element c.in_ok-key.key g.met.K.Eq.laws c.self.invariant c.in_ok-key.ensures (search rules) k))
]
