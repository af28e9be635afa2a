use Rattle.gs_picture.proofs.Together.{all_together}
use Rattle.gs_picture.proofs.laws.the_thick_line_is_of_all_thin_ones.Goals as goal

pub returns : goal.returns
returns c = λ of list. all_together of list
