-- What a run's report says.
use Rattle.std.specs.Prelude.{ℕ, ℤ, pos, ◌+◌, ◌/◌, ◌%◌, int_lt, unsigned_abs, if◌then◌else◌, List, [], ◌∷◌, ◌++◌, codes, decimal, map, Option, Some, None, option_map, unwrap_or, slice_get, reverse}
use Rattle.std.specs.List.{flat_map}
use Rattle.hex.specs.Hex.{encode_lower}
use Rattle.gs_base.specs.declared.names.Millis.{Millis}
use Rattle.gs_base.specs.declared.names.PeerNo.{PeerNo}
use Rattle.gs_base.specs.declared.names.Topic.{Topic}
use Rattle.gs_rules.specs.declared.trace.Entry.{Entry}
use Rattle.gs_rules.specs.declared.event.Event.{Event}
use Rattle.gs_rules.specs.declared.event.Event.TheVariants.{Heard, Late, BeatBegin, Decay, RoundEnd, Shut, Part, Step, Own, Lost}
use Rattle.gs_rules.specs.declared.event.Loss.TheVariants.{Gone, Fault}
use Rattle.gs_plan.specs.declared.plan.Plan.{Plan}
use Rattle.gs_plan.specs.declared.plan.PlannedPeer.{PlannedPeer}
use Rattle.gs_plan.specs.declared.plan.Line.{Line}
use Rattle.gs_rules.specs.declared.refusal.RefusedLine.{RefusedLine}
use Rattle.gs_rules.specs.Refusals.{number_of}
use Rattle.gs_report.specs.declared.finished.Finished.{Finished}
use Rattle.gs_report.specs.declared.report.Report.{Report}
use Rattle.gs_report.specs.declared.text.Section.{Section}
use Rattle.gs_report.specs.declared.text.Section.TheVariants.{Delivered, Refused, Faults, Meshes, Scores}
use Rattle.gs_plan.specs.Plans.{what_word}

-- ---- words

-- a peer's name, which is empty if the plan has no peer with the number
abbrev pub name_of : Plan → PeerNo → List ℕ
name_of plan p = unwrap_or (option_map (λ (planned : PlannedPeer). planned.name) (slice_get plan.peers p.0)) []

-- the word of the script's line at a place, which is empty if there is no line at that place
abbrev pub word_of : Plan → ℕ → List ℕ
word_of plan place = unwrap_or (option_map (λ (line : Line). what_word line.what) (slice_get plan.script place)) []

-- a payload in lower-case hexadecimal digits, or a dash for an empty one
abbrev pub payload_text : List ℕ → List ℕ
payload_text [] = codes "-"
payload_text (byte ∷ bytes) = encode_lower (byte ∷ bytes)

-- the digit of a number at the place of a power of ten
abbrev pub digit : ℕ → ℕ → ℕ
digit n power = 48 + n / power % 10

-- its last six digits
abbrev pub six_digits : ℕ → List ℕ
six_digits n = map (digit n) (100_000 ∷ 10_000 ∷ 1_000 ∷ 100 ∷ 10 ∷ 1 ∷ [])

-- whole millionths as a number with six digits after the point
abbrev pub score_text : ℤ → List ℕ
score_text z =
    (if int_lt z (pos 0) then codes "-" else [])
    ++ decimal (unsigned_abs z / 1_000_000) ++ codes "." ++ six_digits (unsigned_abs z)

-- ---- lines

-- `delivered PEER MOMENT TOPIC PAYLOAD`
abbrev pub delivered_line : List ℕ → Millis → Topic × List ℕ → List ℕ
delivered_line name at x =
    codes "delivered " ++ name ++ codes " " ++ decimal at.0 ++ codes " " ++ x.0.0
    ++ codes " " ++ payload_text x.1 ++ codes "\n"

-- a line for each delivery of an entry
abbrev pub entry_lines : List ℕ → Entry → List ℕ
entry_lines name e = flat_map (delivered_line name e.at) e.effects.delivered

-- `refused PEER MOMENT WHAT NUMBER`
abbrev pub refused_line : Plan → List ℕ → RefusedLine → List ℕ
refused_line plan name r =
    codes "refused " ++ name ++ codes " " ++ decimal r.at.0 ++ codes " " ++ word_of plan r.line
    ++ codes " " ++ decimal (number_of r.why) ++ codes "\n"

-- The neighbour that an event found at fault, if any: its bytes spell no RPC or end within one. Each event is named here, so
-- that a new one must be decided on.
abbrev pub at_fault : Event → Option PeerNo
at_fault (Lost p Fault) = Some p
at_fault (Lost p Gone) = None
at_fault (Heard q rpc) = None
at_fault (Late q rpc) = None
at_fault (Part q part) = None
at_fault BeatBegin = None
at_fault (Step step) = None
at_fault (Own act) = None
at_fault Decay = None
at_fault (RoundEnd r) = None
at_fault Shut = None

-- `fault PEER MOMENT NEIGHBOUR` for a neighbour at fault, and no line if there is none
abbrev pub fault_line : Plan → List ℕ → Millis → Option PeerNo → List ℕ
fault_line plan name at None = []
fault_line plan name at (Some q) =
    codes "fault " ++ name ++ codes " " ++ decimal at.0 ++ codes " " ++ name_of plan q ++ codes "\n"

-- the line of an entry that found a neighbour at fault
abbrev pub entry_faults : Plan → List ℕ → Entry → List ℕ
entry_faults plan name e = fault_line plan name e.at (at_fault e.event)

-- `mesh PEER TOPIC MEMBER`
abbrev pub mesh_line : Plan → List ℕ → Topic × PeerNo → List ℕ
mesh_line plan name x =
    codes "mesh " ++ name ++ codes " " ++ x.0.0 ++ codes " " ++ name_of plan x.1 ++ codes "\n"

-- `score PEER NEIGHBOUR SCORE`
abbrev pub score_line : Plan → List ℕ → PeerNo × ℤ → List ℕ
score_line plan name x =
    codes "score " ++ name ++ codes " " ++ name_of plan x.0 ++ codes " " ++ score_text x.1 ++ codes "\n"

-- `links NUMBER settled`
abbrev pub links_line : ℕ → List ℕ
links_line settled = codes "links " ++ decimal settled ++ codes " settled\n"

-- ---- a peer with what the run leaves of it; its number gives its name

-- what was delivered to it, the oldest entry first
abbrev pub delivered_lines : Plan → PeerNo × Finished → List ℕ
delivered_lines plan x = flat_map (entry_lines (name_of plan x.0)) (reverse x.1.trace)

-- what it refused
abbrev pub refused_lines : Plan → PeerNo × Finished → List ℕ
refused_lines plan x = flat_map (refused_line plan (name_of plan x.0)) x.1.refused

-- which neighbours it found at fault, the oldest entry first
abbrev pub fault_lines : Plan → PeerNo × Finished → List ℕ
fault_lines plan x = flat_map (entry_faults plan (name_of plan x.0)) (reverse x.1.trace)

-- which peers were in its meshes
abbrev pub mesh_lines : Plan → PeerNo × Finished → List ℕ
mesh_lines plan x = flat_map (mesh_line plan (name_of plan x.0)) x.1.meshes

-- what its neighbours scored
abbrev pub score_lines : Plan → PeerNo × Finished → List ℕ
score_lines plan x = flat_map (score_line plan (name_of plan x.0)) x.1.scores

-- its lines of a section
abbrev pub lines_of : Section → Plan → PeerNo × Finished → List ℕ
lines_of Delivered = delivered_lines
lines_of Refused = refused_lines
lines_of Faults = fault_lines
lines_of Meshes = mesh_lines
lines_of Scores = score_lines

-- ---- the report

-- what was delivered, peer by peer, then what was refused, and who was at fault. Then come the members of meshes and the
-- scores of neighbours, and last how many links were settled.
abbrev pub report_text : Plan → Report → List ℕ
report_text plan report =
    flat_map (delivered_lines plan) report.peers.items ++ flat_map (refused_lines plan) report.peers.items
    ++ flat_map (fault_lines plan) report.peers.items
    ++ flat_map (mesh_lines plan) report.peers.items
    ++ flat_map (score_lines plan) report.peers.items
    ++ links_line report.settled
