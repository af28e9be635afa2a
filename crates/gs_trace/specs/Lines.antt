-- The lines of a run's trace: one for each entry, by round, then by peer, then in order. The first line says who the peers
-- are. The line of an entry ends with what came to nothing at it.
use Rattle.std.specs.Prelude.{ℕ, zero, suc, Bool, false, true, ◌*◌, ◌==◌, if◌then◌else◌, List, [], ◌∷◌, ◌++◌, codes, decimal, filter, map, reverse}
use Rattle.std.specs.List.{flat_map, range_with_len}
use Rattle.gs_base.specs.declared.names.Millis.{Millis}
use Rattle.gs_base.specs.declared.names.PeerNo.{PeerNo}
use Rattle.gs_plan.specs.declared.plan.Dial.{Dial}
use Rattle.gs_plan.specs.declared.plan.Plan.{Plan}
use Rattle.gs_rules.specs.declared.fallen.Fallen.{Fallen}
use Rattle.gs_rules.specs.declared.refusal.RefusedLine.{RefusedLine}
use Rattle.gs_rules.specs.declared.trace.Entry.{Entry}
use Rattle.gs_rules.specs.Events.{of_round_end}
use Rattle.gs_rules.specs.FellAway.{fell_away}
use Rattle.gs_rules.specs.Peers.{Peer}
use Rattle.gs_rules.specs.Refusals.{number_of}
use Rattle.gs_rules.specs.Tables.{Entries}
use Rattle.gs_report.specs.declared.finished.Finished.{Finished}
use Rattle.gs_report.specs.declared.report.Report.{Report}
use Rattle.gs_report.specs.Text.{word_of}
use Rattle.gs_seats.specs.Rounds.{peer_in}
use Rattle.gs_trace.specs.Texts.{list_text, moment_text, names_of, peer_text, quoted}
use Rattle.gs_trace.specs.Events.{effects_members, event_members, event_text, refused_word}
use Rattle.gs_trace.specs.Fallen.{fell_away_member}

-- ---- what came to nothing

-- an entry, and what came to nothing at it
abbrev pub Seen : Type 0
Seen = Entry × List Fallen

-- the entries of a peer that come after others, each with what came to nothing at it. The entries after have the oldest
-- first, and the entries before have the newest first.
abbrev pub seen : Peer → Entries → List Entry → List Seen
seen p L [] = []
seen p L (e ∷ es) = (e, fell_away p L e.at e.event) ∷ seen p (e ∷ L) es

-- those of a whole trace
abbrev pub seen_by : Plan → PeerNo × Finished → List Seen
seen_by plan x = seen (peer_in plan x.0) [] (reverse x.1.trace)

-- ---- what a peer did in a round

-- Whether an entry is the end of a round.
abbrev pub ends_round : Seen → Bool
ends_round x = of_round_end (λ r. true) false x.0.event

-- entries up to the first end of a round, including it, and the entries after it: the oldest first
abbrev pub up_to_end : List Seen → List Seen
up_to_end [] = []
up_to_end (x ∷ xs) = x ∷ (if ends_round x then [] else up_to_end xs)

abbrev pub after_end : List Seen → List Seen
after_end [] = []
after_end (x ∷ xs) = if ends_round x then xs else after_end xs

-- those after this many ends of rounds
abbrev pub after_ends : ℕ → List Seen → List Seen
after_ends zero xs = xs
after_ends (suc r) xs = after_ends r (after_end xs)

-- those of a round. What comes after the end of the last round belongs to it, too.
abbrev pub in_round : ℕ → ℕ → List Seen → List Seen
in_round last r xs = if r == last then after_ends r xs else up_to_end (after_ends r xs)

-- ---- what there is to say

-- What is said about a peer in a round. It is an entry of its trace with what came to nothing at it, or a line of the script
-- that it refused.
pub data Told : Type 0 where
  Did : ℕ → PeerNo → Entry → List Fallen → Told
  Refused : ℕ → PeerNo → RefusedLine → Told

-- refused at the moment of a round
abbrev pub is_refused_in : ℕ → ℕ → RefusedLine → Bool
is_refused_in round_ms r line = line.at.0 == r * round_ms

abbrev pub did : ℕ → PeerNo → Seen → Told
did r q x = Did r q x.0 x.1

abbrev pub told_of : Plan → ℕ → PeerNo × Finished → List Told
told_of plan r x =
    map (did r x.0) (in_round plan.rounds r (seen_by plan x))
    ++ map (Refused r x.0) (filter (is_refused_in plan.round_ms r) x.1.refused)

abbrev pub told_in : Plan → Report → ℕ → List Told
told_in plan report r = flat_map (told_of plan r) report.peers.items

-- all of it: by round, then by peer, then in order
abbrev pub told : Plan → Report → List Told
told plan report = flat_map (told_in plan report) (range_with_len 0 (suc plan.rounds))

-- ---- lines

-- what begins a line of a peer
abbrev pub line_start : List (List ℕ) → ℕ → Millis → PeerNo → List ℕ
line_start names r at q =
    codes "{\"round\":" ++ decimal r ++ codes ",\"at\":" ++ moment_text at ++ codes ",\"peer\":" ++ peer_text names q
    ++ codes ","

abbrev pub entry_members : List (List ℕ) → Entry → List Fallen → List ℕ
entry_members names e fallen =
    event_members names e.event ++ effects_members names e.effects ++ fell_away_member names fallen

-- which line of the script it is, what that asks for, and the number of the refusal
abbrev pub refusal_members : Plan → RefusedLine → List ℕ
refusal_members plan line =
    event_text refused_word ++ codes ",\"line\":" ++ decimal line.line
    ++ codes ",\"what\":" ++ quoted (word_of plan line.line)
    ++ codes ",\"number\":" ++ decimal (number_of line.why)

abbrev pub line_text : Plan → Told → List ℕ
line_text plan (Did r q e fallen) =
    line_start (names_of plan) r e.at q ++ entry_members (names_of plan) e fallen ++ codes "}\n"
line_text plan (Refused r q line) =
    line_start (names_of plan) r line.at q ++ refusal_members plan line ++ codes "}\n"

-- a dial: the peer that dials, and the peer that is dialled
abbrev pub dial_text : List (List ℕ) → Dial → List ℕ
dial_text names d =
    codes "{\"from\":" ++ peer_text names d.from ++ codes ",\"to\":" ++ peer_text names d.to ++ codes "}"

-- the first line: the names of the peers by their numbers, the length of a round, the last round, and the dials
abbrev pub head_text : Plan → List ℕ
head_text plan =
    codes "{\"peers\":" ++ list_text quoted (names_of plan) ++ codes ",\"round_ms\":" ++ decimal plan.round_ms
    ++ codes ",\"last_round\":" ++ decimal plan.rounds
    ++ codes ",\"dials\":" ++ list_text (dial_text (names_of plan)) plan.dials ++ codes "}\n"

abbrev pub trace_text : Plan → Report → List ℕ
trace_text plan report = head_text plan ++ flat_map (line_text plan) (told plan report)
