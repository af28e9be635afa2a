-- The lists of RPCs that are joined: of all of them each list has what each one's has, in order.
use Rattle.std.proofs.Common.{◌≡◌, List, [], ◌∷◌, ◌++◌, map, Option, Some, None, true, false, true≢false, refl, sym, ap, ◌∙◌, append-nil, append_assoc}
use Rattle.std.specs.Prelude.{is_some, unwrap_or}
use Rattle.std.specs.List.{flat_map}
use Rattle.std.proofs.lemmas.List.Folds.{flat_map-map}
use Rattle.gs_base.specs.declared.control.Control.{Control}
use Rattle.gs_base.specs.declared.rpc.Rpc.{Rpc}
use Rattle.gs_base.specs.Rpcs.{empty_rpc}
use Rattle.gs_wire.specs.Controls.{joined_control, no_control}
use Rattle.gs_wire.specs.Joining.{joined_controls, joined_onto, joined_rpc, joined_rpcs, joined_to}
use Rattle.gs_wire.specs.Gathering.{as_one}

-- what holds nothing yet says nothing
pub joined_to-as_one : (held : Option Rpc) (v : Rpc) → joined_to held v ≡ joined_rpc (as_one held) v
joined_to-as_one None v = refl
joined_to-as_one (Some u) v = refl

-- what joining two RPCs appends, as a list, is of all of them each one's list in order
list-onto : {A : Type 0} (list : Rpc → List A) → ((u v : Rpc) → list (joined_rpc u v) ≡ list u ++ list v) → (held : Option Rpc) (vs : List Rpc) → list (as_one (joined_onto held vs)) ≡ list (as_one held) ++ flat_map list vs
list-onto list both held [] = sym (append-nil (list (as_one held)))
list-onto {A} list both held (v ∷ vs) =
    list-onto list both (Some (joined_to held v)) vs ∙ ap (λ (u : Rpc). list u ++ flat_map list vs) (joined_to-as_one held v) ∙ ap (λ (t : List A). t ++ flat_map list vs) (both (as_one held) v) ∙ append_assoc (list (as_one held)) (list v) (flat_map list vs)

pub list-all : {A : Type 0} (list : Rpc → List A) → ((u v : Rpc) → list (joined_rpc u v) ≡ list u ++ list v) → list empty_rpc ≡ [] → (vs : List Rpc) → list (as_one (joined_rpcs vs)) ≡ flat_map list vs
list-all {A} list both nothing vs = list-onto list both None vs ∙ ap (λ (t : List A). t ++ flat_map list vs) nothing

-- a list of both control messages
pub in_both : {A : Type 0} (list : Option Control → List A) → list None ≡ [] → ((c d : Control) → list (Some (joined_control c d)) ≡ list (Some c) ++ list (Some d)) → (o p : Option Control) → list (joined_controls o p) ≡ list o ++ list p
in_both {A} list nothing both None p = ap (λ (t : List A). t ++ list p) (sym nothing)
in_both list nothing both (Some c) None = rw nothing (sym (append-nil (list (Some c))))
in_both list nothing both (Some c) (Some d) = both c d

-- a list of all control messages
pub in_all : {A B : Type 0} (list : Option Control → List A) → list None ≡ [] → ((c d : Control) → list (Some (joined_control c d)) ≡ list (Some c) ++ list (Some d)) → (rpc_of : B → Rpc) (xs : List B) → list (as_one (joined_rpcs (map rpc_of xs))).control ≡ flat_map (λ x. list (rpc_of x).control) xs
in_all list nothing both rpc_of xs =
    list-all (λ (v : Rpc). list v.control) (λ u v. in_both list nothing both u.control v.control) nothing (map rpc_of xs) ∙ flat_map-map (λ (v : Rpc). list v.control) rpc_of xs

-- all of them as one RPC, which has the lists of all
pub rpc_of_all : {A : Type 0} (rpc_of : A → Rpc) (xs : List A)
    → record {
      subs = flat_map (λ x. (rpc_of x).subs) xs;
      publish = flat_map (λ x. (rpc_of x).publish) xs;
      control = (as_one (joined_rpcs (map rpc_of xs))).control;
    } ≡ as_one (joined_rpcs (map rpc_of xs))
rpc_of_all rpc_of xs =
    let subs = list-all (λ (v : Rpc). v.subs) (λ u v. refl) refl (map rpc_of xs) ∙ flat_map-map (λ (v : Rpc). v.subs) rpc_of xs in
    let publish = list-all (λ (v : Rpc). v.publish) (λ u v. refl) refl (map rpc_of xs) ∙ flat_map-map (λ (v : Rpc). v.publish) rpc_of xs in
    rw (← subs, ← publish) refl

-- where there are control messages, they are some
pub some_control : (o : Option Control) → true ≡ is_some o → Some (unwrap_or o no_control) ≡ o
some_control None is = absurd (true≢false is)
some_control (Some c) is = refl
