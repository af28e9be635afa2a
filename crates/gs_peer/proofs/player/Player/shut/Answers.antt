use Rattle.std.proofs.Common.{Some, refl}
use Rattle.gs_params.specs.Seeding.{seeded_after, seeded_word}
use Rattle.gs_rules.specs.declared.event.Event.TheVariants.{Shut}
use Rattle.gs_rules.specs.Modes.{exact}
use Rattle.gs_rules.specs.Rounds.{Stop}
use Rattle.gs_player.proofs.Runs.{told_runs}
use Rattle.gs_peer.proofs.player.Player.shut.Goals as goal

pub returns-clause-runs : goal.returns-clause-runs
returns-clause-runs c =
    told_runs (exact seeded_word seeded_after) c.args.now Stop (Some Shut) c.args.self.now.router c.shut.new.self c.args.self.now.words c.shut.new.words c.shut.result c.in_ok-never_refused.ensures refl refl c.requires c.shut.ensures
