use Rattle.gs_rules.specs.Modes.{exact, free}
use Rattle.gs_rules.proofs.Legality.{exact_is_free}
use Rattle.gs_rules.proofs.MeshMoves.{free_is_free, grafts_candidates, moves, prunes_members}
use Rattle.gs_rules.proofs.laws.a_heartbeat_moves_a_mesh_a_step.Goals as goal

pub returns-clause-step : goal.returns-clause-step
returns-clause-step g c = λ p entries e t effects. moves free free_is_free p entries t e tt tt effects

pub returns-clause-words : goal.returns-clause-words
returns-clause-words g c = λ p entries e t s u effects. moves (exact g.W.Words.word g.W.Words.after) (exact_is_free g.W.Words.word g.W.Words.after) p entries t e s u effects

pub returns-clause-grafted : goal.returns-clause-grafted
returns-clause-grafted g c = λ p entries at t change step. grafts_candidates p entries at t change step

pub returns-clause-pruned : goal.returns-clause-pruned
returns-clause-pruned g c = λ p entries at t change step. prunes_members p entries at t change step
