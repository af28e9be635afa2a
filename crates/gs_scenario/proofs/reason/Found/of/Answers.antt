use Rattle.gs_scenario.proofs.Lists.{item_count_view, view_of_list}
use Rattle.gs_scenario.proofs.reason.Found.of.Goals as goal

pub returns-in-Array : goal.returns-in-Array
returns-in-Array c = rw (c.in-Array.is, view_of_list c.in-Array.list, item_count_view c.in-Array.list.items, c.len.ensures) (search (c.in-Array.list.ok))
