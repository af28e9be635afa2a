use Rattle.std.proofs.Common.{◌∙◌, ℕ, ◌&&◌, ap, length}
use Rattle.std.specs.Prelude.{nat_lt}
use Rattle.gs_plan.specs.Plans.{are_joined}
use Rattle.gs_seats.specs.Rounds.{peer_no}
use Rattle.gs_seats.proofs.Ends.{as_filter}
use Rattle.gs_seats.proofs.joining.joined_by.Goals as goal

pub returns : goal.returns
returns c =
    let plan = c.args.plan.now in
    let dials = c.args.dials.now in
    let p = c.args.peer in
    c.in_ok-list.ensures.numbers
    ∙ as_filter (length plan.peers) (are_joined dials p) c.in_ok-ends.ends c.in_ok-list.ensures.ordered (λ n. c.in_ok-ends.ensures n ∙ ap (λ (m : ℕ). nat_lt n m && are_joined dials p (peer_no n)) c.len.ensures)
