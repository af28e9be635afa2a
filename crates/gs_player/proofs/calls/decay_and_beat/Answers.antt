use Rattle.std.proofs.Common.{[], subst}
use Rattle.gs_params.specs.Seeding.{seeded_after, seeded_word}
use Rattle.gs_rules.specs.Modes.{exact}
use Rattle.gs_rules.specs.Peers.{Peer}
use Rattle.gs_rules.specs.Rounds.{beats_in, decays_in}
use Rattle.gs_player.specs.Playing.{Runs}
use Rattle.gs_player.proofs.Runs.{runs_then}
use Rattle.gs_player.proofs.calls.decay_and_beat.Goals as goal

pub returns : goal.returns
returns g c =
    let m = exact seeded_word seeded_after in
    let now = c.args.now in
    let clock = c.args.clock in
    let r = c.args.round in
    let v = c.args.router.now in
    let lowered = c.in_ok-decay_if_due.ensures in
    let beaten : Runs m now (beats_in v.peer r clock) c.decay_if_due.new.router c.decay_if_due.new.words c.beat_if_due.new.router c.beat_if_due.new.words [] =
    subst (λ (p : Peer). Runs m now (beats_in p r clock) c.decay_if_due.new.router c.decay_if_due.new.words c.beat_if_due.new.router c.beat_if_due.new.words []) lowered.peer c.in_ok-beat_if_due.ensures in
    runs_then m now (decays_in v.peer r clock) (beats_in v.peer r clock) v c.decay_if_due.new.router c.beat_if_due.new.router c.args.words.now c.decay_if_due.new.words c.beat_if_due.new.words [] [] lowered beaten
