use Rattle.gs_player.proofs.Agendas.{first_line}
use Rattle.gs_player.proofs.agenda.add.Goals as goal

pub returns-in_ok-insert-in-None : goal.returns-in_ok-insert-in-None
returns-in_ok-insert-in-None c = λ r.
    let untouched = c.get_mut.follows.holds-at-none in
    let updates = rw untouched at (c.in_ok-insert-in-None.ensures.updates.0 r) in
    first_line c.args.rounds.now c.insert.new.self c.args.line c.in_ok-lines-in-None.lines r c.in-None.ensures.value updates c.in_ok-lines-in-None.ensures.items
