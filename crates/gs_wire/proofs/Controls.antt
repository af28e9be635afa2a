-- What one more record makes of the control of an RPC.
use Rattle.std.proofs.Common.{◌≡◌, ℕ, List, [], ◌∷◌, ◌++◌, Option, Some, refl, ap, subst, ◌∙◌, append-nil}
use Rattle.std.specs.Prelude.{unwrap_or}
use Rattle.std.proofs.lemmas.Grind.{flat_map-append}
use Rattle.gs_base.specs.declared.control.Control.{Control}
use Rattle.gs_wire.specs.Records.{Record, SpellRecords}
use Rattle.gs_wire.specs.Controls.{SaysControl, SaysMerged, joined, no_control}
use Rattle.gs_wire.proofs.Zips.{AllZip-push, AllZip-split}
use Rattle.gs_wire.proofs.ControlKinds.{none_says}

joined-push : (lists : List (List Record)) (rs : List Record) → joined (lists ++ rs ∷ []) ≡ joined lists ++ rs
joined-push lists rs = flat_map-append (λ (r : List Record). r) lists (rs ∷ []) ∙ ap (λ (t : List Record). joined lists ++ t) (append-nil rs)

joined-middle : (lists : List (List Record)) (rs : List Record) (more : List (List Record)) → joined (lists ++ rs ∷ more) ≡ joined lists ++ (rs ++ joined more)
joined-middle lists rs more = flat_map-append (λ (r : List Record). r) lists (rs ∷ more)

-- one more value
pub merged_one : (values : List (List ℕ)) (before : Option Control) (bytes : List ℕ) (rs : List Record) (v : Control) → SaysMerged values before → SpellRecords bytes rs → ((front : List Record) → SaysControl front (unwrap_or before no_control) → SaysControl (front ++ rs) v) → SaysMerged (values ++ bytes ∷ []) (Some v)
merged_one [] before bytes rs v h spells merges =
    let first = merges [] (rw h none_says) in
    (v, rs ∷ [], refl, (spells, tt), rw (append-nil rs) first)
merged_one (value ∷ values) before bytes rs v h spells merges =
    let says : SaysControl (joined h.1) (unwrap_or before no_control) = rw h.2 h.4 in
    (v, h.1 ++ rs ∷ [], refl, AllZip-push SpellRecords (value ∷ values) h.1 bytes rs h.3 spells, rw (joined-push h.1 rs) (merges (joined h.1) says))

-- a value that can't be merged spoils all
pub unmerged : (before : List (List ℕ)) (bytes : List ℕ) (after : List (List ℕ)) (control : Option Control) → ((front rs more : List Record) (v : Control) → SpellRecords bytes rs → SaysControl (front ++ (rs ++ more)) v → ⊥) → SaysMerged (before ++ bytes ∷ after) control → ⊥
unmerged [] bytes after control none h =
    let s = AllZip-split SpellRecords [] bytes after h.1 h.3 in
    none (joined s.0) s.1 (joined s.2) h.0 s.4 (subst (λ (t : List Record). SaysControl t h.0) (ap joined s.3 ∙ joined-middle s.0 s.1 s.2) h.4)
unmerged (value ∷ before) bytes after control none h =
    let s = AllZip-split SpellRecords (value ∷ before) bytes after h.1 h.3 in
    none (joined s.0) s.1 (joined s.2) h.0 s.4 (subst (λ (t : List Record). SaysControl t h.0) (ap joined s.3 ∙ joined-middle s.0 s.1 s.2) h.4)
