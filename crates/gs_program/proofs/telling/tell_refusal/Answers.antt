use Rattle.std.proofs.Common.{◌≡◌, ◌∙◌, ℕ, List, codes, inl, inr, refl, subst}
use Rattle.std.specs.Fmt.{digits}
use Rattle.gs_scenario.specs.declared.fault.ScenarioFault.TheVariants.{NoMemory}
use Rattle.gs_program.specs.Program.{refusal_line}
use Rattle.gs_streams.specs.Streams.{AppendsFront}
use Rattle.gs_program.proofs.telling.tell_refusal.Goals as goal

line_of_no_memory : codes "scenario refused: 32\n" ≡ refusal_line NoMemory
unfolding digits
line_of_no_memory = refl

pub returns-in-Ok : goal.returns-in-Ok
returns-in-Ok g c =
    let line : c.as_str.result.now ≡ refusal_line c.args.fault.now = c.as_str.ensures.value ∙ c.in-Ok.ensures in
    record {
      told = c.args.fault.now;
      which = inl refl;
      line = subst (λ (text : List ℕ). AppendsFront (g.E.Write.contents c.args.errors.now) (g.E.Write.contents c.try_to_write.new.output) text) line c.try_to_write.ensures;
    }

pub returns-in-Err : goal.returns-in-Err
returns-in-Err g c = record {
  told = NoMemory;
  which = inr refl;
  line = subst (λ (text : List ℕ). AppendsFront (g.E.Write.contents c.args.errors.now) (g.E.Write.contents c.try_to_write-in-Err.new.output) text) line_of_no_memory c.try_to_write-in-Err.ensures;
}
