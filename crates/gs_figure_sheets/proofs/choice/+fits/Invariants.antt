use Rattle.std.proofs.Common.{length}
use Rattle.gs_figure_sheets.proofs.choice.+fits.Given as goal

abbrev pub decreases-fits : goal.decreases-fits
decreases-fits l = length l.word.now
