use Rattle.std.proofs.Common.{◌≡◌, reverse, take}
use Rattle.gs_rules.specs.Tables.{joined}
use Rattle.gs_picture.proofs.discs.joined.Given as goal

-- whether the peer is subscribed after the entries so far
abbrev pub invariant-loop-entry : goal.invariant-loop-entry
invariant-loop-entry l = l.on ≡ joined (reverse (take l.entry-index l.entries)) l.topic
