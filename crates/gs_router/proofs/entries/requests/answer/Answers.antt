use Rattle.std.proofs.Common.{◌≡◌, ℕ, ◌-◌, ◌∙◌, sym, ap, ap₂, arith, option_map}
use Rattle.gs_rules.specs.Rules.{times_in}
use Rattle.gs_rules.specs.Tables.{Keeping, kept}
use Rattle.gs_router.specs.Tables.{answers_left}
use Rattle.gs_router.specs.Known.{peer_with}
use Rattle.gs_router.proofs.Answering.{at_first, gives_none, gives_one}
use Rattle.gs_router.proofs.entries.requests.answer.Goals as goal

pub returns-then-left-eq0 : goal.returns-then-left-eq0
returns-then-left-eq0 c = λ L ahead given agrees made so_far.
    let p = peer_with c.args.known.now.setup in
    let x = c.args.id.now in
    let q = c.args.from in
    let all : c.left_for.result ≡ at_first p L q ahead given x = c.left_for.ensures L agrees.messages ∙ ap₂ (λ (most len : ℕ). answers_left most len L q x) made.answers made.windows in
    let spent = ap (λ (n : ℕ). n - times_in x ahead) (sym all) ∙ sym (so_far.leaves x c.left_for.result all) ∙ sym c.left_now-left.ensures ∙ c.if-left-eq0.true in
    gives_none p L q ahead given x c.args.reply.now spent so_far

pub returns-in_ok-give-in-Some : goal.returns-in_ok-give-in-Some
returns-in_ok-give-in-Some c = λ L ahead given agrees made so_far.
    let p = peer_with c.args.known.now.setup in
    let x = c.args.id.now in
    let q = c.args.from in
    let all : c.left_for.result ≡ at_first p L q ahead given x = c.left_for.ensures L agrees.messages ∙ ap₂ (λ (most len : ℕ). answers_left most len L q x) made.answers made.windows in
    let left = c.left_now-left.ensures ∙ so_far.leaves x c.left_for.result all ∙ ap (λ (n : ℕ). n - times_in x ahead) all in
    gives_one p L q ahead given x c.in-Some.message.now c.left_now-left.result c.args.reply.now c.give.new.self (ap (λ (len : ℕ). option_map (λ (k : Keeping). k.message) (kept len L x)) (sym made.windows) ∙ c.in-Some.ensures.some L agrees.messages) left (omega (arith, c.if-left-eq0.false)) c.in_ok-give-in-Some.ensures.sends c.in_ok-give-in-Some.ensures.marks c.in_ok-give-in-Some.ensures.left so_far

pub returns-in-None : goal.returns-in-None
returns-in-None c = λ L ahead given agrees made so_far.
    let p = peer_with c.args.known.now.setup in
    let x = c.args.id.now in
    let q = c.args.from in
    let none : at_first p L q ahead given x ≡ 0 = ap₂ (λ (most len : ℕ). answers_left most len L q x) (sym made.answers) (sym made.windows) ∙ c.in-None.ensures.none L agrees.messages in
    gives_none p L q ahead given x c.args.reply.now (omega (arith, none)) so_far
