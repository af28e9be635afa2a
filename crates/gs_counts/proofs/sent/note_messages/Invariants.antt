use Rattle.std.proofs.Common.{◌≡◌, ◌++◌, take}
use Rattle.std.specs.List.{flat_map}
use Rattle.gs_counts.specs.Sent.{message_sent}
use Rattle.gs_counts.proofs.sent.note_messages.Given as goal

-- the messages so far come after what was listed
abbrev pub invariant-loop-message : goal.invariant-loop-message
invariant-loop-message l = l.list.items ≡ l.initial.list.items ++ flat_map (message_sent l.scene l.kind) (take l.message-index l.messages)
