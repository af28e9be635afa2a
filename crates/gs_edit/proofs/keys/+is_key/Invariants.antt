use Rattle.std.proofs.Common.{length}
use Rattle.gs_edit.proofs.keys.+is_key.Given as goal

abbrev pub decreases-is_key : goal.decreases-is_key
decreases-is_key l = length l.text.now
