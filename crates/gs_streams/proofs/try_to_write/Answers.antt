use Rattle.std.proofs.Common.{ℕ, List, subst}
use Rattle.gs_streams.specs.Streams.{AppendsFront}
use Rattle.gs_streams.proofs.Fronts.{whole_or_front}
use Rattle.gs_streams.proofs.try_to_write.Goals as goal

pub returns : goal.returns
returns g c =
    let written = whole_or_front c.write_text.result _ _ _ c.write_text.ensures.ok c.write_text.ensures.err in
    subst (λ (line : List ℕ). AppendsFront (g.W.Write.contents c.args.output.now) (g.W.Write.contents c.write_text.new.output) line) c.as_bytes.ensures.value written
