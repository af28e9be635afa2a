use Rattle.std.proofs.Common.{◌≡◌, ◌∙◌, ℕ, List, inl, inr, refl, subst}
use Rattle.gs_program.specs.Program.{nameless, run_refusal_line}
use Rattle.gs_streams.specs.Streams.{AppendsFront}
use Rattle.gs_program.proofs.telling.tell_fault.Goals as goal

pub returns-in-Ok : goal.returns-in-Ok
returns-in-Ok g c =
    let line : c.as_str.result.now ≡ run_refusal_line c.args.plan.now c.args.fault = c.as_str.ensures.value ∙ c.in-Ok.ensures in
    record {
      told = c.args.fault;
      which = inl refl;
      line = subst (λ (text : List ℕ). AppendsFront (g.E.Write.contents c.args.errors.now) (g.E.Write.contents c.try_to_write.new.output) text) line c.try_to_write.ensures;
    }

pub returns-in-Err : goal.returns-in-Err
returns-in-Err g c = record {
  told = nameless c.args.fault;
  which = inr refl;
  line = subst (λ (text : List ℕ). AppendsFront (g.E.Write.contents c.args.errors.now) (g.E.Write.contents c.try_to_write-in-Err.new.output) text) (c.nameless_line.ensures c.args.plan.now) c.try_to_write-in-Err.ensures;
}
