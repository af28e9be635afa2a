use Rattle.std.proofs.Common.{◌≡◌, ◌++◌, take}
use Rattle.std.specs.List.{flat_map}
use Rattle.gs_counts.specs.Sent.{iwant_sent}
use Rattle.gs_counts.proofs.sent.note_requests.Given as goal

-- the requests so far come after what was listed
abbrev pub invariant-loop-request : goal.invariant-loop-request
invariant-loop-request l = l.list.items ≡ l.initial.list.items ++ flat_map (iwant_sent l.scene) (take l.request-index l.requests)
