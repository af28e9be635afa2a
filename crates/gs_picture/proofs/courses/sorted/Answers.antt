use Rattle.gs_reach.proofs.Ordered.{put_in_order}
use Rattle.gs_picture.proofs.courses.sorted.Goals as goal

pub returns : goal.returns
returns c = put_in_order (λ n. n) c.args.numbers.items c.sort.new.self.items c.in_ok-sort.ensures.sorted c.sort.ensures.stable
