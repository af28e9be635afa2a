-- The lines of a run, of its rounds and of a peer's turn in a round.
use Rattle.std.specs.Prelude.{ℕ, suc, if◌then◌else◌, List, []}
use Rattle.std.specs.List.{flat_map, range_with_len}
use Rattle.gs_report.specs.declared.finished.Finished.{Finished}
use Rattle.gs_rules.specs.declared.refusal.RefusedLine.{RefusedLine}
use Rattle.gs_router.specs.declared.follower.Followed.{Followed}
use Rattle.gs_trace.specs.declared.lines.Walk.{Walk}
use Rattle.gs_trace.specs.declared.turn.Turn.{Turn}
use Rattle.gs_trace.specs.Lines.{Told, is_refused_in, told_of}
use Rattle.gs_trace.specs.Lines.Told.{Did, Refused}
use Rattle.gs_trace.specs.Starts.{told_by}
use Rattle.gs_trace.specs.Wanted.{line_if, wishes_of}

-- what there is to say in a turn: each line, if it is wanted
abbrev pub line_in : Turn → Told → List ℕ
line_in turn = line_if (wishes_of turn.wanted.now) turn.plan.now

abbrev pub entry_line : Turn → Followed → List ℕ
entry_line turn followed = line_in turn (Did turn.round turn.peer followed.entry.now followed.fallen.items)

-- the text for a line of the script, if it was refused in the round
abbrev pub refusal_line : Turn → RefusedLine → List ℕ
refusal_line turn line =
    if is_refused_in turn.plan.now.round_ms turn.round line then line_in turn (Refused turn.round turn.peer line) else []

abbrev pub turn_text : Turn → Finished → List ℕ
turn_text turn life = flat_map (line_in turn) (told_of turn.plan.now turn.round (turn.peer, life))

-- the text of all peers in a round, and the text of all rounds
abbrev pub round_text : Walk → ℕ → List ℕ
round_text walk r = flat_map (line_if (wishes_of walk.wanted.now) walk.plan.now) (told_by walk.plan.now walk.peers.now r)

abbrev pub rounds_text : Walk → List ℕ
rounds_text walk =
    flat_map (line_if (wishes_of walk.wanted.now) walk.plan.now)
    (flat_map (told_by walk.plan.now walk.peers.now) (range_with_len 0 (suc walk.plan.now.rounds)))
