use Rattle.std.proofs.Common.{[], sym, append-nil}
use Rattle.gs_params.specs.Seeding.{seeded_after, seeded_word}
use Rattle.gs_rules.specs.Modes.{exact}
use Rattle.gs_player.proofs.Runs.{line_runs}
use Rattle.gs_player.proofs.calls.follow.Goals as goal

pub returns-in-Ok : goal.returns-in-Ok
returns-in-Ok g c = ([], sym (append-nil _), line_runs (exact seeded_word seeded_after) c.args.now c.args.line.now.0 c.args.line.now.1.what c.args.router.now c.obey.new.self c.args.words.now c.obey.new.words c.requires (rw c.in-Ok.is at rw c.in_ok-clone_of.ensures at c.obey.ensures))
