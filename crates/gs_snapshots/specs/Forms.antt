-- The forms of the text that reports scores. Without an option, it is JSON Lines.
use Rattle.std.specs.Prelude.{ℕ, List, Option, Some, None}
use Rattle.gs_plan.specs.declared.plan.Plan.{Plan}
use Rattle.gs_snapshots.specs.declared.snapshot.Snapshot.{Snapshot}
use Rattle.gs_snapshots.specs.declared.wanted.Form.{Form}
use Rattle.gs_snapshots.specs.declared.wanted.Form.TheVariants as form
use Rattle.gs_snapshots.specs.Csv.{csv_head, csv_rows}
use Rattle.gs_snapshots.specs.Json.{json_head, json_line}

-- the first line of the text
abbrev pub head_text : Option Form → Plan → List ℕ
head_text None plan = json_head plan
head_text (Some form.Json) plan = json_head plan
head_text (Some form.Csv) plan = csv_head

-- the text for the score of a neighbour at a moment
unfoldable pub snapshot_text : Option Form → Plan → Snapshot → List ℕ
snapshot_text None plan s = json_line plan s
snapshot_text (Some form.Json) plan s = json_line plan s
snapshot_text (Some form.Csv) plan s = csv_rows plan s
