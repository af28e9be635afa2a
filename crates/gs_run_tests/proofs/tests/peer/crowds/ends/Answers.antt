use Rattle.std.proofs.Common.{◌≡◌, ◌∙◌, Bool, true, false, List, [], ◌∷◌, map, refl, sym, ap, subst, eq-eqb}
use Rattle.std.specs.Prelude.{◌||◌}
use Rattle.std.specs.List.{AllByRecursion, IsDistinct}
use Rattle.futures.proofs.SentLemmas.{AllByRecursion_weaker}
use Rattle.gs_base.specs.declared.names.PeerNo.{PeerNo}
use Rattle.gs_base.specs.Names.{same_peer}
use Rattle.gs_params.proofs.Picking.{distinct_from_ascending}
use Rattle.gs_ends.specs.Ends.{Joint, has, is_joint_of}
use Rattle.gs_ends.specs.Lists.{Source, joints_in_lists, listed_joint, senders_of}
use Rattle.gs_run_tests.proofs.tests.peer.crowds.ends.Goals as goal

or_true : (a : Bool) → (a || true) ≡ true
or_true true = refl
or_true false = refl

-- there are ends to and from each that is listed
each_has : (xs : List Source) → AllByRecursion (λ q. has (map listed_joint xs) q ≡ true) (senders_of xs)
each_has [] = tt
each_has (x ∷ xs) = (
  ap (λ (b : Bool). b || has (map listed_joint xs) x.0) (eq-eqb x.0.0 x.0.0 refl),
  AllByRecursion_weaker (λ (r : PeerNo). has (map listed_joint xs) r ≡ true) (λ (r : PeerNo). has (map listed_joint (x ∷ xs)) r ≡ true) (senders_of xs)
      (λ r h. ap (λ (b : Bool). is_joint_of r (listed_joint x) || b) h ∙ or_true (is_joint_of r (listed_joint x))) (each_has xs),
)

pub new-requires-clause-apart : goal.new-requires-clause-apart
new-requires-clause-apart c =
    subst (λ (qs : List PeerNo). IsDistinct same_peer qs) (sym c.in_ok-inbound.ensures.senders) (distinct_from_ascending c.args.numbers.now c.requires)

pub returns-clause-known : goal.returns-clause-known
returns-clause-known c =
    let sources = c.in_ok-inbound.inbound.items in
    let known = subst (λ (js : List Joint). AllByRecursion (λ q. has js q ≡ true) (senders_of sources)) (sym c.in_ok-ends.ensures.joints) (each_has sources) in
    subst (λ (qs : List PeerNo). AllByRecursion (λ q. has (joints_in_lists c.in_ok-ends.ends) q ≡ true) qs) c.in_ok-inbound.ensures.senders known
