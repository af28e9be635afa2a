-- What is found by its key is what a look at each element finds.
use Rattle.std.proofs.Common.{◌≡◌, ◌∙◌, ℕ, Bool, true, false, nat_eq, nat_le, List, refl, sym, ap, arith}
use Rattle.std.proofs.lemmas.Bool.Decides.{nat_tests}
use Rattle.std.specs.Prelude.{◌&&◌, option_map, is_some, position}
use Rattle.std.specs.List.{list_any}
use Rattle.std.specs.Cmp.Lexicographic.{pointwise, nat_list_eq_equiv}
use Rattle.gs_base.specs.declared.names.PeerNo.{PeerNo}
use Rattle.gs_plan.specs.declared.plan.Dial.{Dial}
use Rattle.gs_plan.specs.declared.plan.PlannedPeer.{PlannedPeer}
use Rattle.gs_plan.specs.Plans.{are_joined, joins}
use Rattle.gs_scenario.specs.ByKey.{joined_pair}
use Rattle.gs_scenario.proofs.Places.{any_alike, any_placed, position_alike, some_shifted}

abbrev numbered : ℕ → PeerNo
numbered n = record { 0 = n }

pub a_name_has_its_place : (peers : List PlannedPeer) (text : List ℕ)
    → position (λ (x : PlannedPeer). pointwise nat_eq text x.name) peers ≡ position (λ (x : PlannedPeer). pointwise nat_eq x.name text) peers
a_name_has_its_place peers text =
    position_alike (λ (x : PlannedPeer). pointwise nat_eq text x.name) (λ (x : PlannedPeer). pointwise nat_eq x.name text)
    (λ (x : PlannedPeer). nat_list_eq_equiv.symm text x.name) peers

pub a_name_is_found : (peers : List PlannedPeer) (text : List ℕ)
    → list_any (λ (x : PlannedPeer). pointwise nat_eq text x.name) peers
    ≡ is_some (option_map numbered (position (λ (x : PlannedPeer). pointwise nat_eq x.name text) peers))
a_name_is_found peers text =
    any_placed (λ (x : PlannedPeer). pointwise nat_eq text x.name) peers
    ∙ ap is_some (a_name_has_its_place peers text)
    ∙ sym (some_shifted numbered (position (λ (x : PlannedPeer). pointwise nat_eq x.name text) peers))

one_pair : (p q f t : PeerNo)
    → (nat_eq (joined_pair p q).0.0 (joined_pair f t).0.0 && nat_eq (joined_pair p q).1.0 (joined_pair f t).1.0)
    ≡ joins p q (record { from = f; to = t })
one_pair p q f t = by (nat_le p.0 q.0) refl (nat_le f.0 t.0) refl
  where
    by : (a : Bool) → nat_le p.0 q.0 ≡ a → (b : Bool) → nat_le f.0 t.0 ≡ b
        → (nat_eq (joined_pair p q).0.0 (joined_pair f t).0.0 && nat_eq (joined_pair p q).1.0 (joined_pair f t).1.0)
        ≡ joins p q (record { from = f; to = t })
    by true is true is' = rw (is, is') (grind (arith, nat_tests, is, is'))
    by true is false is' = rw (is, is') (grind (arith, nat_tests, is, is'))
    by false is true is' = rw (is, is') (grind (arith, nat_tests, is, is'))
    by false is false is' = rw (is, is') (grind (arith, nat_tests, is, is'))

pub a_dial_is_found : (dials : List Dial) (p q : PeerNo)
    → list_any (λ (d : Dial). nat_eq (joined_pair p q).0.0 (joined_pair d.from d.to).0.0 && nat_eq (joined_pair p q).1.0 (joined_pair d.from d.to).1.0) dials
    ≡ are_joined dials p q
a_dial_is_found dials p q = any_alike _ _ (λ (d : Dial). one_pair p q d.from d.to) dials
