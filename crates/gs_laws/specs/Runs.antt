-- Plans that differ at most in how they are run have one run and one report.
use Rattle.std.specs.Prelude.{◌≡◌, List, map}
use Rattle.std.specs.List.{AllZip}
use Rattle.gs_base.specs.declared.names.PeerNo.{PeerNo}
use Rattle.gs_plan.specs.declared.plan.Plan.{Plan}
use Rattle.gs_params.specs.Seeding.{seeded_after, seeded_word}
use Rattle.gs_rules.specs.declared.refusal.RefusedLine.{RefusedLine}
use Rattle.gs_rules.specs.Tables.{Entries}
use Rattle.gs_rules.specs.Rounds.{KeepsRounds}
use Rattle.gs_report.specs.declared.finished.Finished.{Finished}
use Rattle.gs_report.specs.declared.report.Report.{Report}
use Rattle.gs_report.specs.Text.{report_text}
use Rattle.gs_seats.specs.Rounds.{IsRun, first_words, numbers, peer_in, said_to, seat_in}
use Rattle.gs_seats.specs.Reports.{IsReport}
use Rattle.gs_laws.specs.Fixed.{LegalByWords}

-- ---- plans

-- the plan with 1 for its workers and 1 for its capacity
abbrev pub however_run : Plan → Plan
however_run plan = record plan { workers = 1; capacity = 1 }

-- the plans differ at most in these two numbers
abbrev pub AreAlike : Plan → Plan → Type 0
AreAlike plan other = however_run plan ≡ however_run other

-- ---- what runs leave

-- What the laws require about the results of one peer among others. The trace is legal, with the choices of its peer's
-- words, and keeps the rounds on what the others' traces say to it.
pub record IsPlayed (plan : Plan) (lives : List Finished) (p : PeerNo) (life : Finished) : Type 0 where
  pub chosen : LegalByWords seeded_word seeded_after (peer_in plan p) (first_words plan p) life.trace
  pub keeps : KeepsRounds (seat_in plan p) (said_to lives p) life.trace life.refused

-- each peer of the plan has such results, by number
abbrev pub ArePlayed : Plan → List Finished → Type 0
ArePlayed plan lives = AllZip (IsPlayed plan lives) (numbers plan) lives

abbrev pub traces_of : List Finished → List Entries
traces_of lives = map (λ (life : Finished). life.trace) lives

abbrev pub refusals_of : List Finished → List (List RefusedLine)
refusals_of lives = map (λ (life : Finished). life.refused) lives

-- ---- laws

-- Alike plans have one list of traces, and one of refused lines.
abbrev pub TracesAreOne : Type 0
TracesAreOne =
    (plan other : Plan) (lives others : List Finished)
    → AreAlike plan other
    → ArePlayed plan lives
    → ArePlayed other others
    → (traces_of lives ≡ traces_of others) × (refusals_of lives ≡ refusals_of others)

-- Runs of alike plans leave the same results of peers: traces, refused lines, meshes and scores.
abbrev pub RunsAreOne : Type 0
RunsAreOne =
    (plan other : Plan) (lives others : List Finished)
    → AreAlike plan other
    → IsRun plan lives
    → IsRun other others
    → lives ≡ others

-- Two reports have the same peers with the same results, the same number of settled links, and the same text.
pub record AreOne (plan other : Plan) (report another : Report) : Type 0 where
  pub peers : report.peers.items ≡ another.peers.items
  pub settled : report.settled ≡ another.settled
  pub text : report_text plan report ≡ report_text other another

-- The reports of alike plans are the same.
abbrev pub ReportsAreOne : Type 0
ReportsAreOne =
    (plan other : Plan) (report another : Report)
    → AreAlike plan other
    → IsReport plan report
    → IsReport other another
    → AreOne plan other report another
