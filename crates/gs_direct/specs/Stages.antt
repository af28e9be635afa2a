-- How far a run is at the end of each round.
use Rattle.std.specs.Prelude.{◌≡◌, ◌<◌, ◌≤◌, ◌+◌, ◌-◌, ◌^◌, ℕ, suc, min, List, [], ◌∷◌, ◌++◌, length, map, sum_by}
use Rattle.std.specs.List.{AllZip, range_with_len}
use Rattle.gs_base.specs.declared.names.PeerNo.{PeerNo}
use Rattle.gs_params.specs.Seeding.{SeededState, seeded_after, seeded_word}
use Rattle.gs_plan.specs.declared.plan.Plan.{Plan}
use Rattle.gs_wire.specs.Codec.{codec}
use Rattle.gs_rules.specs.declared.event.Event.TheVariants.{RoundEnd}
use Rattle.gs_rules.specs.declared.trace.Entry.{Entry}
use Rattle.gs_rules.specs.declared.refusal.RefusedLine.{RefusedLine}
use Rattle.gs_rules.specs.Legal.{LegalOn}
use Rattle.gs_rules.specs.Modes.{exact}
use Rattle.gs_rules.specs.Rounds.{AfterRounds}
use Rattle.gs_rules.specs.Saying.{out}
use Rattle.gs_rules.specs.Tables.{Entries}
use Rattle.gs_report.specs.declared.report.Report.{Report}
use Rattle.gs_report.specs.declared.finished.Finished.{Finished}
use Rattle.gs_report.specs.Seen.{numbers_below}
use Rattle.gs_seats.specs.Rounds.{first_words, peer_in, seat_in, trace_of}
use Rattle.gs_direct.specs.declared.stages.Stage.{Stage}

-- how much was delivered in these entries
abbrev pub delivered_in : Entries → ℕ
delivered_in entries = sum_by (λ (e : Entry). length e.effects.delivered) entries

-- how much was delivered to this many first peers, if these are their traces
abbrev pub delivered_to : ℕ → (PeerNo → Entries) → ℕ
delivered_to count traces = sum_by (λ p. delivered_in (traces p)) (numbers_below count)

-- this number, or 2^64 - 1 where it is greater
abbrev pub saturated : ℕ → ℕ
saturated n = min n (2 ^ 64 - 1)

-- the newest entry is the end of this round
pub record IsRoundEnd (round : ℕ) (L : Entries) : Type 0 where
  pub end : Entry
  pub before : Entries
  pub are : L ≡ end ∷ before
  pub is_end : end.event ≡ RoundEnd round

-- At the end of this round, the traces were older parts of these. The stage says how much was delivered in them.
pub record IsStage (plan : Plan) (traces : PeerNo → Entries) (round : ℕ) (stage : Stage) : Type 0 where
  pub earlier : PeerNo → Entries
  pub older : (p : PeerNo) → (more : Entries) × (traces p ≡ more ++ earlier p)
  pub ended : (p : PeerNo) → p.0 < length plan.peers → IsRoundEnd round (earlier p)
  pub round_is : stage.round ≡ round
  pub count_is : stage.deliveries ≡ saturated (delivered_to (length plan.peers) earlier)

-- there is a stage for each of this many first rounds
abbrev pub AreStages : Plan → (PeerNo → Entries) → ℕ → List Stage → Type 0
AreStages plan traces rounds stages = AllZip (IsStage plan traces) (range_with_len 0 rounds) stages

-- ---- traces after some rounds

-- After this many rounds of a run of the plan, a peer has its trace of these. It did its part on what the others said in
-- theirs, with its own random words.
pub record IsTraceAfter (plan : Plan) (rounds : ℕ) (traces : PeerNo → Entries) (p : PeerNo) : Type 0 where
  pub chosen : (last : SeededState)
      × LegalOn (exact seeded_word seeded_after) (peer_in plan p) (first_words plan p) [] (traces p) last
  pub refused : List RefusedLine
  pub played : AfterRounds (seat_in plan p) (λ q. out codec (traces q) p) rounds (traces p) refused

-- the peers of the plan have these traces after this many rounds
abbrev pub AreTracesAfter : Plan → ℕ → (PeerNo → Entries) → Type 0
AreTracesAfter plan rounds traces = (p : PeerNo) → p.0 < length plan.peers → IsTraceAfter plan rounds traces p

-- these are the stages of some first rounds of a run of the plan
pub record AreFirstStages (plan : Plan) (stages : List Stage) : Type 0 where
  pub rounds : ℕ
  pub within : rounds ≤ suc plan.rounds
  pub traces : PeerNo → Entries
  pub so_far : AreTracesAfter plan rounds traces
  pub are : AreStages plan traces rounds stages

-- ---- what a gauge has shown

-- between two moments a gauge has shown these stages, besides what it had shown before
abbrev pub HasShownMore : {T S : Type 0} → (T → S → List Stage → Type 0) → T → T → List Stage → Type 0
HasShownMore {T} {S} has_shown old new stages =
    (start : S) (before : List Stage) → has_shown old start before → has_shown new start (before ++ stages)

-- between two moments a gauge has shown the stages of some first rounds of a run of the plan
pub record HasShownFirst {T S : Type 0} (has_shown : T → S → List Stage → Type 0) (old new : T) (plan : Plan) : Type 0 where
  pub stages : List Stage
  pub shows : HasShownMore has_shown old new stages
  pub first : AreFirstStages plan stages

-- between two moments a gauge has shown the stage of each round of a run that left this
pub record HasShownLives {T S : Type 0} (has_shown : T → S → List Stage → Type 0) (old new : T) (plan : Plan)
    (lives : List Finished) : Type 0 where
  pub stages : List Stage
  pub shows : HasShownMore has_shown old new stages
  pub first : AreFirstStages plan stages
  pub are : AreStages plan (trace_of lives) (suc plan.rounds) stages

-- the same, of a run with this report
abbrev pub HasShownAll : {T S : Type 0} → (T → S → List Stage → Type 0) → T → T → Plan → Report → Type 0
HasShownAll has_shown old new plan report =
    HasShownLives has_shown old new plan (map (λ (x : PeerNo × Finished). x.1) report.peers.items)
