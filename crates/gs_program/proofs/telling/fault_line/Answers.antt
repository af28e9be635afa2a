use Rattle.std.proofs.Common.{arith, ◌≡◌, ◌++◌, ◌∙◌, codes, string_bytes, refl}
use Rattle.std.specs.Prelude.{decimal}
use Rattle.std.proofs.lemmas.Grind.{common_steps}
use Rattle.gs_program.proofs.telling.fault_line.Goals as goal

pub returns : goal.returns
returns c =
    let told : string_bytes c.in_ok-format.field-0 ≡ codes "run refused: " ++ decimal c.number-number.result ++ string_bytes c.in_ok-name.name ++ codes "\n" = grind (arith, common_steps, c.in_ok-format.ensures.ok) in
    told ∙ rw (c.number-number.ensures, c.in_ok-name.ensures, c.peer_of.ensures) refl
