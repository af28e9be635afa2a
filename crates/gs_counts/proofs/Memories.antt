-- What is known of a peer after one entry more.
use Rattle.std.proofs.Common.{◌≡◌, ℕ, Bool, true, false, if◌then◌else◌, List, [], ◌∷◌, Option, Some, refl, ap, ◌∙◌}
use Rattle.gs_base.specs.declared.names.MsgId.{MsgId}
use Rattle.gs_base.specs.declared.mark.Mark.{Mark}
use Rattle.gs_base.specs.declared.mark.Mark.TheVariants.{Seen}
use Rattle.gs_base.specs.Names.{same_id}
use Rattle.gs_rules.specs.declared.trace.Entry.{Entry}
use Rattle.gs_rules.specs.Tables.{Entries, Sighting, after_marks, last_seen, sighting_after}
use Rattle.gs_counts.specs.Fates.{ignored_so, is_ignore, last_ignored}
use Rattle.gs_counts.specs.Verdicts.{ignored_after, ignored_by}

-- a sighting more
one_mark : (id : MsgId) (at : ℕ) (mark : Mark) (before : Option Sighting) → ignored_so (sighting_after id at mark before) ≡ ignored_by id mark (ignored_so before)
one_mark id at (Seen other verdict) before = by (same_id other id)
  where
    by : (b : Bool) → ignored_so (if b then Some (record { at = at; verdict = verdict }) else before) ≡ (if b then is_ignore verdict else ignored_so before)
    by true = refl
    by false = refl
one_mark id at other before = refl

all_marks : (id : MsgId) (at : ℕ) (marks : List Mark) (before : Option Sighting) → ignored_so (after_marks (sighting_after id at) marks before) ≡ ignored_after id marks (ignored_so before)
all_marks id at [] before = refl
all_marks id at (mark ∷ marks) before =
    all_marks id at marks (sighting_after id at mark before) ∙ ap (λ (b : Bool). ignored_after id marks b) (one_mark id at mark before)

pub ignored_more : (id : MsgId) (e : Entry) (L : Entries) → last_ignored (e ∷ L) id ≡ ignored_after id e.effects.marks (last_ignored L id)
ignored_more id e L = all_marks id e.at.0 e.effects.marks (last_seen L id)
