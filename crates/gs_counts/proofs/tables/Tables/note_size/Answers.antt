use Rattle.std.proofs.Common.{ℕ, ap, refl, ◌∙◌}
use Rattle.gs_counts.specs.Standing.{widened_at}
use Rattle.gs_counts.proofs.Noted.{size_noted}
use Rattle.gs_counts.proofs.tables.Tables.note_size.Goals as goal

pub returns : goal.returns
returns c = λ plan hs sizes was.
    size_noted plan c.args.self.now _ hs sizes (c.args.at, c.args.size) was refl
    (c.widen_at.ensures ∙ ap (λ (n : ℕ). widened_at c.args.self.now.spans.items n c.args.size) c.round_at.ensures)
