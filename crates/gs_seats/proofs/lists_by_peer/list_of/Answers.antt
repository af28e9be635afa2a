use Rattle.std.proofs.Common.{sym, ◌∙◌}
use Rattle.gs_seats.proofs.PlaceLists.{list_at-get}
use Rattle.gs_seats.proofs.lists_by_peer.list_of.Goals as goal

pub returns : goal.returns
returns g c =
    c.as_slice.ensures.value ∙ sym (list_at-get c.args.lists.now c.args.peer.0 _ c.from.ensures _ c.index-lists-from.result c.index-lists-from.is c.requires)
