use Rattle.std.proofs.Common.{[], ◌∷◌, Some, refl}
use Rattle.gs_params.specs.Seeding.{seeded_after, seeded_word}
use Rattle.gs_rules.specs.declared.event.Event.TheVariants.{Shut}
use Rattle.gs_rules.specs.Modes.{exact}
use Rattle.gs_rules.specs.Rounds.{Stop}
use Rattle.gs_player.proofs.Runs.{runs_then, told_runs}
use Rattle.gs_direct.specs.Letters.{all_heard}
use Rattle.gs_direct.proofs.peer.Peer.close.Goals as goal

pub hear-requires-clause-running : goal.hear-requires-clause-running
hear-requires-clause-running g c =
    let p = c.args.self.now in
    (told_runs (exact seeded_word seeded_after) c.args.now Stop (Some Shut) p.router c.shut.new.self p.words c.shut.new.words c.shut.result c.in_ok-never_refused.ensures refl refl c.requires.running c.shut.ensures).runs_on

pub returns : goal.returns
returns g c =
    let m = exact seeded_word seeded_after in
    let p = c.args.self.now in
    let q = c.hear.new.self in
    let shuts = told_runs m c.args.now Stop (Some Shut) p.router c.shut.new.self p.words c.shut.new.words c.shut.result c.in_ok-never_refused.ensures refl refl c.requires.running c.shut.ensures in
    record {
      runs = runs_then m c.args.now (Stop ∷ []) (all_heard c.args.letters.items) p.router c.shut.new.self q.router p.words c.shut.new.words q.words [] [] shuts c.in_ok-hear.ensures.runs;
      rest = c.in_ok-hear.ensures.others;
    }
