use Rattle.std.proofs.Common.{◌∙◌, ap}
use Rattle.gs_reach.specs.declared.keys.TopicPayload.{TopicPayload}
use Rattle.gs_reach.specs.Filed.{found, same_said}
use Rattle.gs_reach.proofs.FirstOnes.{first_known, first_new}
use Rattle.gs_reach.proofs.firsts.note_first.Goals as goal

pub returns-then-is_known : goal.returns-then-is_known
returns-then-is_known c = λ before files same.
    first_known c.args.one.now before c.args.list.now.items c.is_published_at-is_known.result c.found.result.now c.is_published_at-is_known.ensures
    (c.found.ensures ∙ ap (λ (k : TopicPayload). found same_said c.args.filed.now k) c.in_ok-said.ensures ∙ files c.args.one.now)
    c.if-is_known.true same

pub returns : goal.returns
returns c = λ before files same.
    first_new c.args.one.now before c.args.list.now.items _ c.is_published_at-is_known.result c.found.result.now c.is_published_at-is_known.ensures
    (c.found.ensures ∙ ap (λ (k : TopicPayload). found same_said c.args.filed.now k) c.in_ok-said.ensures ∙ files c.args.one.now)
    c.if-is_known.false same (rw c.in_ok-clone_of.ensures at c.in_ok-push.ensures.items)
