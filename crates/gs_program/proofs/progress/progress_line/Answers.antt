use Rattle.std.proofs.Common.{◌++◌, ◌∙◌, List, ℕ, codes, string_bytes, sym, append_assoc, ap}
use Rattle.std.specs.Prelude.{decimal}
use Rattle.gs_program.proofs.progress.progress_line.Goals as goal

pub returns : goal.returns
returns c =
    let front = string_bytes c.in_ok-front.front in
    let count = decimal c.args.stage.deliveries in
    c.in_ok-format.ensures.ok
    ∙ sym (append_assoc (front ++ codes ", ") count (codes " deliveries\n") ∙ append_assoc front (codes ", ") (count ++ codes " deliveries\n"))
    ∙ ap (λ (text : List ℕ). ((text ++ codes ", ") ++ count) ++ codes " deliveries\n") c.in_ok-front.ensures
