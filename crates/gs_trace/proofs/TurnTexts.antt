-- The lines of a whole run, and those of a turn.
use Rattle.std.proofs.Common.{◌≡◌, ◌++◌, ℕ, suc, List, filter, map, sym, ap, ◌∙◌}
use Rattle.std.specs.List.{flat_map, range_with_len}
use Rattle.std.proofs.lemmas.Grind.{flat_map-append}
use Rattle.gs_base.specs.declared.names.PeerNo.{PeerNo}
use Rattle.gs_report.specs.declared.finished.Finished.{Finished}
use Rattle.gs_report.specs.declared.report.Report.{Report}
use Rattle.gs_rules.specs.declared.refusal.RefusedLine.{RefusedLine}
use Rattle.gs_router.specs.declared.follower.Followed.{Followed}
use Rattle.gs_trace.specs.declared.lines.Walk.{Walk}
use Rattle.gs_trace.specs.declared.turn.Turn.{Turn}
use Rattle.gs_trace.specs.Lines.{Seen, did, head_text, in_round, is_refused_in, seen_by, told}
use Rattle.gs_trace.specs.Lines.Told.{Refused}
use Rattle.gs_trace.specs.Turns.{entry_line, line_in, refusal_line, rounds_text, turn_text}
use Rattle.gs_trace.specs.Starts.{entry_of, told_by}
use Rattle.gs_trace.specs.Wanted.{line_if, wanted_text, wishes_of}
use Rattle.gs_trace.proofs.Wanting.{lines_if}
use Rattle.gs_trace.proofs.Writing.{of_filter, of_map}

-- the first line, and those of all rounds
pub all_parts : (walk : Walk) (report : Report) → walk.peers.now ≡ report.peers.items
    → wanted_text (wishes_of walk.wanted.now) walk.plan.now report ≡ head_text walk.plan.now ++ rounds_text walk
all_parts walk report is =
    let w = wishes_of walk.wanted.now in
    let plan = walk.plan.now in
    ap (λ (text : List ℕ). head_text plan ++ text) (
    sym (lines_if w plan (told plan report))
    ∙ ap (λ (peers : List (PeerNo × Finished)). flat_map (line_if w plan) (flat_map (told_by plan peers) (range_with_len 0 (suc plan.rounds)))) (sym is)
    )

-- the lines of the entries, and then those of what was refused
pub turn_parts : (turn : Turn) (life : Finished) (entries : List Followed) (refused : List RefusedLine)
    → map entry_of entries ≡ in_round turn.plan.now.rounds turn.round (seen_by turn.plan.now (turn.peer, life))
    → refused ≡ life.refused
    → turn_text turn life ≡ flat_map (entry_line turn) entries ++ flat_map (refusal_line turn) refused
turn_parts turn life entries refused of_round of_life =
    let line = line_in turn in
    let r = turn.round in
    let q = turn.peer in
    let mine : List Seen = in_round turn.plan.now.rounds r (seen_by turn.plan.now (q, life)) in
    let test = is_refused_in turn.plan.now.round_ms r in
    let were_done : flat_map line (map (did r q) mine) ≡ flat_map (entry_line turn) entries =
    sym (of_map line (did r q) mine)
    ∙ ap (flat_map (λ (x : Seen). line (did r q x))) (sym of_round)
    ∙ sym (of_map (λ (x : Seen). line (did r q x)) entry_of entries) in
    let were_refused : flat_map line (map (Refused r q) (filter test life.refused)) ≡ flat_map (refusal_line turn) refused =
    sym (of_map line (Refused r q) (filter test life.refused))
    ∙ sym (of_filter (λ (x : RefusedLine). line (Refused r q x)) test life.refused)
    ∙ ap (flat_map (refusal_line turn)) (sym of_life) in
    flat_map-append line (map (did r q) mine) (map (Refused r q) (filter test life.refused)) ∙ (λ i. were_done i ++ were_refused i)
