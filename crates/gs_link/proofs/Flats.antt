-- What lists of slots say, put together.
use Rattle.std.proofs.Common.{◌≡◌, ℕ, List, [], ◌∷◌, ◌++◌, map, refl, sym, ap, ◌∙◌, append_assoc}
use Rattle.std.proofs.lemmas.List.{map-append}
use Rattle.gs_base.specs.Tokens.{Byte, EndOf, Close as Closing}
use Rattle.gs_link.specs.declared.item.Slot.{Slot}
use Rattle.gs_link.specs.declared.item.Slot.TheVariants.{Piece, Round, Close}
use Rattle.gs_link.specs.Flat.{flat}

pub flat-append : (before behind : List Slot) → flat (before ++ behind) ≡ flat before ++ flat behind
flat-append [] behind = refl
flat-append (Piece bytes ∷ before) behind = ap (λ w. map Byte bytes ++ w) (flat-append before behind) ∙ sym (append_assoc (map Byte bytes) (flat before) (flat behind))
flat-append (Round r ∷ before) behind = ap (λ w. EndOf r ∷ w) (flat-append before behind)
flat-append (Close ∷ before) behind = ap (λ w. Closing ∷ w) (flat-append before behind)

-- two pieces one after the other say the bytes of both
pub flat-cut : (front rest : List ℕ) (behind : List Slot) → flat (Piece (front ++ rest) ∷ behind) ≡ flat (Piece front ∷ Piece rest ∷ behind)
flat-cut front rest behind = ap (λ w. w ++ flat behind) (map-append Byte front rest) ∙ append_assoc (map Byte front) (map Byte rest) (flat behind)
