-- How a mark changes whether a message was ignored when it was last seen.
use Rattle.std.specs.Prelude.{Bool, if◌then◌else◌, List}
use Rattle.gs_base.specs.declared.names.MsgId.{MsgId}
use Rattle.gs_base.specs.declared.mark.Mark.{Mark}
use Rattle.gs_base.specs.declared.mark.Mark.TheVariants as marks
use Rattle.gs_base.specs.Names.{same_id}
use Rattle.gs_rules.specs.Tables.{after_marks}
use Rattle.gs_counts.specs.Fates.{is_ignore}

-- Each mark is named here, so that a new one must be decided on.
abbrev pub ignored_by : MsgId → Mark → Bool → Bool
ignored_by id (marks.Seen other verdict) before = if same_id other id then is_ignore verdict else before
ignored_by id (marks.First q t other) before = before
ignored_by id (marks.Invalid q t) before = before
ignored_by id (marks.Near q t other) before = before
ignored_by id (marks.Deficit q t z) before = before
ignored_by id (marks.Misbehaviour q) before = before
ignored_by id (marks.Cached other t) before = before
ignored_by id (marks.Answered q other) before = before
ignored_by id (marks.Offered q) before = before
ignored_by id (marks.Asked q n) before = before
ignored_by id (marks.Grafted q t) before = before
ignored_by id (marks.Pruned q t) before = before
ignored_by id (marks.Fanned q t) before = before
ignored_by id (marks.Unfanned q t) before = before
ignored_by id (marks.Backoff q t end) before = before
ignored_by id (marks.Published t) before = before

abbrev pub ignored_after : MsgId → List Mark → Bool → Bool
ignored_after id = after_marks (ignored_by id)
