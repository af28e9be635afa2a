use Rattle.std.proofs.Common.{◌≡◌, ◌++◌, ℕ, List, OnOk, subst}
use Rattle.gs_trace.specs.Fallen.{why_member}
use Rattle.gs_trace.proofs.Appended.{and_then, last}
use Rattle.gs_trace.proofs.fallen.push_graft.Goals as goal

pub returns : goal.returns
returns c =
    let out = c.args.out.now.items in
    last out _ _ _ _ (and_then out _ _
    c.in_ok-push_of.ensures
    c.in_ok-push_topic.ensures)
    (subst (λ (word : List ℕ). OnOk c.push_why.result (c.push_why.new.out.items ≡ c.push_topic.new.out.items ++ why_member word))
    c.refusal_word.ensures c.push_why.ensures)
