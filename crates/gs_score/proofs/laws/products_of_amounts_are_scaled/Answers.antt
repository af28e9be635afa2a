use Rattle.gs_score.proofs.Bounds.{product_of_amounts}
use Rattle.gs_score.proofs.laws.products_of_amounts_are_scaled.Goals as goal

pub returns : goal.returns
returns c = product_of_amounts
