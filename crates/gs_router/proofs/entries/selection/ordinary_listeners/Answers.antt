use Rattle.std.proofs.Common.{◌≡◌, ◌∙◌, true, List, [], ◌∷◌, length, refl, sym, ap, arith}
use Rattle.std.specs.Prelude.{◌==◌}
use Rattle.std.proofs.lemmas.Bool.Decides.{nat_tests}
use Rattle.gs_base.specs.declared.names.PeerNo.{PeerNo}
use Rattle.gs_rules.specs.MeshRules.{those_outside}
use Rattle.gs_rules.specs.Rules.{listeners}
use Rattle.gs_router.specs.Known.{peer_with}
use Rattle.gs_router.proofs.entries.selection.ordinary_listeners.Goals as goal

none_in : (qs : List PeerNo) → (length qs == 0) ≡ true → qs ≡ []
none_in [] none = refl
none_in (q ∷ qs) none =
    let same : length (q ∷ qs) ≡ 0 = grind (arith, nat_tests) in
    absurd (omega (arith, same))

outside_none : (qs : List PeerNo) → those_outside [] qs ≡ qs
outside_none [] = refl
outside_none (q ∷ qs) = ap (λ (rest : List PeerNo). q ∷ rest) (outside_none qs)

pub returns-then-is_empty : goal.returns-then-is_empty
returns-then-is_empty c = λ L agrees lists.
    let heard : List PeerNo = listeners (peer_with c.args.known.now.setup) L c.args.topic.now in
    let none = sym lists ∙ (sym c.as_slice-explicit.ensures.value ∙ none_in c.as_slice-explicit.result.now (sym c.is_empty.ensures ∙ c.if-is_empty.true)) in
    c.in_ok-listeners.ensures L agrees ∙ sym (ap (λ (explicit : List PeerNo). those_outside explicit heard) none ∙ outside_none heard)
