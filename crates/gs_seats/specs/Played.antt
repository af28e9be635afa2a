-- What a run leaves of each peer, by what the peer did.
use Rattle.std.specs.Prelude.{◌≡◌, ◌*◌, List, []}
use Rattle.std.specs.List.{AllZip}
use Rattle.gs_base.specs.declared.names.PeerNo.{PeerNo}
use Rattle.gs_plan.specs.declared.plan.Plan.{Plan}
use Rattle.gs_params.specs.Seeding.{SeededState, seeded_after, seeded_word}
use Rattle.gs_rules.specs.Modes.{exact}
use Rattle.gs_rules.specs.Legal.{LegalOn}
use Rattle.gs_rules.specs.Rounds.{KeepsRounds}
use Rattle.gs_rules.specs.Results.{meshes_of, scores_of}
use Rattle.gs_report.specs.declared.finished.Finished.{Finished}
use Rattle.gs_seats.specs.Rounds.{first_words, numbers, peer_in, said_to, seat_in}

-- What a run leaves of a peer, by what it did among the others. Its choices are those of its words. It keeps the rounds on
-- what the others' traces say to it. Its meshes and scores are those of its trace.
pub record IsPlayedLife (plan : Plan) (lives : List Finished) (p : PeerNo) (life : Finished) : Type 0 where
  pub chosen : (last : SeededState)
      × LegalOn (exact seeded_word seeded_after) (peer_in plan p) (first_words plan p) [] life.trace last
  pub keeps : KeepsRounds (seat_in plan p) (said_to lives p) life.trace life.refused
  pub meshes : life.meshes ≡ meshes_of life.trace
  pub scores : life.scores ≡ scores_of (peer_in plan p) life.trace (plan.rounds * plan.round_ms)

-- this holds for each peer of the plan, by number
abbrev pub IsPlayedRun : Plan → List Finished → Type 0
IsPlayedRun plan lives = AllZip (IsPlayedLife plan lives) (numbers plan) lives
