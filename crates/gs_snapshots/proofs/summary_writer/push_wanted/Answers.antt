use Rattle.std.proofs.Common.{◌≡◌, ◌++◌, ℕ, List, length, ap, ◌∙◌, arith}
use Rattle.std.specs.Prelude.{nat_lt}
use Rattle.gs_snapshots.specs.SummaryText.{summaries_of_peer}
use Rattle.gs_snapshots.specs.Wishes.{wishes_of}
use Rattle.gs_snapshots.proofs.Said.{is_longer}
use Rattle.gs_snapshots.proofs.summary_writer.push_wanted.Goals as goal

pub returns-clause-any : goal.returns-clause-any
returns-clause-any c =
    let old = c.args.out.now.items in
    let text = summaries_of_peer (wishes_of c.args.wanted.now) c.args.plan.now c.args.peer.now in
    let now = c.push_peer.new.out.items in
    let before : c.len-before.result ≡ length old = omega (arith, c.len-before.ensures, c.args.out.now.ok.0) in
    let after : c.len.result ≡ length now = omega (arith, c.len.ensures, c.push_peer.new.out.ok.0) in
    let longer : c.len.result ≡ length (old ++ text) = after ∙ ap (λ (l : List ℕ). length l) c.in_ok-push_peer.ensures in
    (λ i. nat_lt (before i) (longer i)) ∙ is_longer old text
