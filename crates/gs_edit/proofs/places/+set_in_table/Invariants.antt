use Rattle.std.proofs.Common.{◌+◌, ◌*◌, length}
use Rattle.gs_edit.specs.Rest.{text_left}
use Rattle.gs_edit.proofs.places.+set_in_table.Given as goal

abbrev pub decreases-set_in_table : goal.decreases-set_in_table
decreases-set_in_table l = 2 * length l.key.now + 1

abbrev pub decreases-set_in_list : goal.decreases-set_in_list
decreases-set_in_list l = 2 * length l.key.now + 1

abbrev pub decreases-with_rest : goal.decreases-with_rest
decreases-with_rest l = text_left l.rest
