use Rattle.std.proofs.Common.{◌≡◌, ◌++◌, take}
use Rattle.std.specs.List.{flat_map}
use Rattle.gs_counts.specs.Sent.{send_happenings}
use Rattle.gs_counts.proofs.sent.note_sends.Given as goal

-- the sends so far come after what was listed
abbrev pub invariant-loop-send : goal.invariant-loop-send
invariant-loop-send l = l.list.items ≡ l.initial.list.items ++ flat_map (send_happenings l.scene l.answers) (take l.send-index l.sends)
