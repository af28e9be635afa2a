use Rattle.std.proofs.Common.{◌≡◌, ◌++◌, take}
use Rattle.std.specs.List.{flat_map}
use Rattle.gs_rules.specs.Tables.{lost}
use Rattle.gs_reach.specs.Listed.{changed_by, delivered_by, loss_of, published_by}
use Rattle.gs_reach.proofs.listed.Listed.note_all.Given as goal

-- what the entries so far say comes after what was there
abbrev pub invariant-loop-entry : goal.invariant-loop-entry
invariant-loop-entry l = record {
  published : l.self.published ≡ l.initial.self.published ++ flat_map (λ e. published_by l.peer e.at e.event) (take l.entry-index l.entries);
  delivered : l.self.delivered ≡ l.initial.self.delivered ++ flat_map (λ e. delivered_by l.peer e.at e.effects.delivered) (take l.entry-index l.entries);
  changes : l.self.changes ≡ l.initial.self.changes ++ flat_map (λ e. changed_by l.peer e.at e.event) (take l.entry-index l.entries);
  losses : l.self.losses ≡ l.initial.self.losses ++ flat_map (λ e. loss_of l.peer e.at (lost e.event)) (take l.entry-index l.entries);
}
