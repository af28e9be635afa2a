-- How a round is played.
use Rattle.std.specs.Prelude.{◌≡◌, ℕ, List, ◌++◌, map}
use Rattle.gs_base.specs.declared.names.Millis.{Millis}
use Rattle.gs_plan.specs.declared.plan.Line.{Line}
use Rattle.gs_params.specs.Seeding.{seeded_after, seeded_word}
use Rattle.gs_rules.specs.declared.refusal.RefusedLine.{RefusedLine}
use Rattle.gs_rules.specs.Modes.{exact}
use Rattle.gs_peer.specs.declared.player.Player.{Player}
use Rattle.gs_peer.specs.Inboxes.{all_heard, in_next_phase}
use Rattle.gs_player.specs.Playing.{Runs, behind_heard}

-- A peer that has been up for `clock` plays a round at the moment `now`. What came was heard, those of the lines that are for the round were followed, and the round was ended. Before its end
-- counters were lowered and a heartbeat came, each where it was due. The lines `more` were refused.
pub record PlaysRound (r : ℕ) (now clock : Millis) (lines : List (ℕ × Line)) (old new : Player) : Type 0 where
  pub more : List RefusedLine
  pub refused : new.refused.items ≡ old.refused.items ++ more
  pub runs : Runs (exact seeded_word seeded_after) now
      (all_heard old.inboxes.items ++ behind_heard old.router.peer r clock lines)
      old.router old.words new.router new.words more
  pub turns : new.inboxes.items ≡ map in_next_phase old.inboxes.items
