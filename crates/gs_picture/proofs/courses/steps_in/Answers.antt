use Rattle.gs_picture.proofs.Counting.{found_all}
use Rattle.gs_picture.proofs.courses.steps_in.Goals as goal

pub returns : goal.returns
returns c = λ pairs is. found_all pairs c.args.rounds.now c.loop-place.place c.loop-place.found.items c.loop-place-test.false c.loop-place.invariant is
