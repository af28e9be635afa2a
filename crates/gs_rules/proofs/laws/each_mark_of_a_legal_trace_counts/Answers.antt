use Rattle.gs_rules.proofs.Counted.{all_marks_count, room_on_joined}
use Rattle.gs_rules.proofs.laws.each_mark_of_a_legal_trace_counts.Goals as goal

pub returns-clause-all : goal.returns-clause-all
returns-clause-all c = all_marks_count

pub returns-clause-room : goal.returns-clause-room
returns-clause-room c = room_on_joined
