use Rattle.std.proofs.Common.{sym, ◌∙◌, arith}
use Rattle.gs_score.proofs.Decaying.{decayed-fixed, decayed-none, decayed-rest}
use Rattle.gs_score.proofs.counter.Decay.after.Goals as goal

pub returns-then-next-held-clause-value : goal.returns-then-next-held-clause-value
returns-then-next-held-clause-value c =
    sym
    (decayed-fixed c.args.self c.loop-left.held c.loop-left.left
    (sym c.step-next.ensures.value ∙ c.if-next-held.true))
    ∙ c.loop-left.invariant.rest

pub returns-then-next-eq0-clause-value : goal.returns-then-next-eq0-clause-value
returns-then-next-eq0-clause-value c =
    sym
    (decayed-none c.args.self c.loop-left.held c.loop-left.left c.loop-left-test.true
    (sym c.step-next.ensures.value ∙ c.if-next-eq0.true))
    ∙ c.loop-left.invariant.rest

pub loop-left-preserved : goal.loop-left-preserved
loop-left-preserved c = record {
  rest
      = decayed-rest c.args.self c.loop-left.held c.stride-taken.result.1 c.stride-taken.result.0 c.loop-left.left
      c.stride-taken.ensures.most c.stride-taken.ensures.value
      ∙ c.loop-left.invariant.rest;
  falls = omega (arith, c.stride-taken.ensures.falls, c.loop-left.invariant.falls);
}
