use Rattle.std.proofs.Common.{◌+◌, ◌++◌, ◌∷◌, ◌∙◌, [], Global, List, Vec, ap, get_or, take, drop, sym, subst, arith}
use Rattle.gs_rules.specs.declared.fallen.Fallen.{Fallen}
use Rattle.gs_rules.specs.declared.fallen.Fallen.TheVariants as fallen
use Rattle.gs_rules.specs.declared.fallen.NoAnswer.{NoAnswer}
use Rattle.std.proofs.lemmas.List.{drop_all, drop_more, take_more}
use Rattle.gs_base.specs.declared.names.MsgId.{MsgId}
use Rattle.gs_router.specs.Known.{peer_with}
use Rattle.gs_router.proofs.Answering.{Missing, begins_missing, ends_missing, goes_on_answered, goes_on_missing}
use Rattle.gs_router.proofs.entries.requests.without_answers.Goals.{then-not-branch+in_ok-push, else-not-branch}
use Rattle.gs_router.proofs.entries.requests.without_answers.Goals as goal

pub loop-id-init : goal.loop-id-init
loop-id-init c = λ L agrees made. begins_missing (peer_with c.args.known.now.setup) L c.args.from c.args.ids.now _ _ c.none-reply.ensures.sends c.none-reply.ensures.marks c.none-reply.ensures.left c.new-list.ensures.items

pub returns : goal.returns
returns c = λ L agrees made.
    let ids : List MsgId = c.args.ids.now in
    let i = c.loop-id.id-index in
    ends_missing (peer_with c.args.known.now.setup) L c.args.from ids (take i ids) (drop i ids) c.loop-id.reply c.loop-id.list.items (drop_all i ids (omega (arith, c.loop-id-test.false))) (c.loop-id.invariant L agrees made)

pub loop-id-preserved : goal.loop-id-preserved
loop-id-preserved c = λ L agrees made.
    let p = peer_with c.args.known.now.setup in
    let q = c.args.from in
    let ids : List MsgId = c.args.ids.now in
    let i = c.loop-id.id-index in
    let x : MsgId = get_or ids i (record { 0 = [] }) in
    let new = c.is_answered.new.reply in
    let list = c.if-not-branch.list in
    let behind = drop_more ids i (record { 0 = [] }) c.loop-id-test.true in
    let ahead = take_more ids i (record { 0 = [] }) c.loop-id-test.true in
    let before = subst (λ (left : List MsgId). Missing p L q ids (take i ids) left c.loop-id.reply c.loop-id.list.items) behind (c.loop-id.invariant L agrees made) in
    let answered = c.in_ok-is_answered.ensures.answered L (take i ids) before.given agrees made before.so_far in
    elim c.if-not-branch.branch [
      | then-not-branch+in_ok-push w ↦ subst (λ (taken : List MsgId). Missing p L q ids taken (drop (i + 1) ids) new list.items) (sym ahead)
          (goes_on_missing p L q ids (take i ids) (drop (i + 1) ids) x c.loop-id.reply new c.loop-id.list.items list.items (λ given so_far. c.in_ok-is_answered.ensures.replies L (take i ids) given agrees made so_far)
          (sym answered ∙ w.if-not-branch.true)
          (ap (λ (v : Vec Fallen Global). v.items) w.list-is ∙ w.in_ok-push.ensures.items ∙ ap (λ (why : NoAnswer). c.loop-id.list.items ++ fallen.Request q x why ∷ []) (w.why_no_answer.ensures L agrees made))
          before)
      | else-not-branch w ↦ subst (λ (taken : List MsgId). Missing p L q ids taken (drop (i + 1) ids) new list.items) (sym ahead)
          (goes_on_answered p L q ids (take i ids) (drop (i + 1) ids) x c.loop-id.reply new list.items (λ given so_far. c.in_ok-is_answered.ensures.replies L (take i ids) given agrees made so_far)
          (sym answered ∙ w.if-not-branch.false)
          (subst (λ (v : Vec Fallen Global). Missing p L q ids (take i ids) (x ∷ drop (i + 1) ids) c.loop-id.reply v.items) (sym w.list-is) before))
    ]
