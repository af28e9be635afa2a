use Rattle.std.proofs.Common.{◌∷◌, ◌++◌, sym, ap, ◌∙◌}
use Rattle.gs_link.specs.declared.item.Slot.TheVariants.{Piece}
use Rattle.gs_link.specs.Flat.{flat}
use Rattle.gs_link.proofs.Flats.{flat-append, flat-cut}
use Rattle.gs_link.proofs.laws.cutting_does_not_show.Goals as goal

pub returns : goal.returns
returns c = λ before behind front rest.
    flat-append before (Piece (front ++ rest) ∷ behind)
    ∙ ap (λ w. flat before ++ w) (flat-cut front rest behind)
    ∙ sym (flat-append before (Piece front ∷ Piece rest ∷ behind))
