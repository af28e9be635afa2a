use Rattle.std.proofs.Common.{ℕ, if◌then◌else◌, Option, ap, refl, ◌∙◌}
use Rattle.std.proofs.lemmas.Result.{on_ok_weaker}
use Rattle.gs_base.specs.declared.names.PeerNo.{PeerNo}
use Rattle.gs_counts.specs.Rows.{counted}
use Rattle.gs_counts.specs.Standing.{added_at, goes_over, link_row}
use Rattle.gs_counts.proofs.Noted.{noted}
use Rattle.gs_counts.proofs.tables.Tables.note.Goals as goal

pub returns : goal.returns
returns c =
    let old = c.args.self.now in
    let h = c.args.happening.now in
    on_ok_weaker
    c.add_on.result
    (λ topics plan hs sizes was.
    noted plan old _ hs sizes h was refl c.add.ensures
    (c.add_at.ensures ∙ ap (λ (n : ℕ). added_at old.peers.items n h.kind h.amount) c.from.ensures)
    (c.add_at-2.ensures ∙ ap (λ (n : ℕ). added_at old.rounds.items n h.kind h.amount) c.round_at.ensures)
    refl
    (λ p q. c.in_ok-add_over.ensures p q ∙ ap (λ (link : Option (PeerNo × PeerNo)). if goes_over p q link then counted (link_row old.links p q) h.kind h.amount else link_row old.links p q) c.link_of.ensures)
    topics)
    c.add_on.ensures
