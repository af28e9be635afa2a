use Rattle.gs_ends.proofs.PairLists.{place_alone}
use Rattle.gs_ends.proofs.position.position_near.Goals as goal

pub returns-then-list-place-clause-first : goal.returns-then-list-place-clause-first
returns-then-list-place-clause-first g c = place_alone c.args.list.now c.loop-place.place c.args.who c.index-list-place.result c.requires.apart c.loop-place-test.true c.if-list-place.true
