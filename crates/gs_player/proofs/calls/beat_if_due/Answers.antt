use Rattle.std.proofs.Common.{◌≡◌, true, List, [], Some, refl, rules, subst, sym}
use Rattle.gs_params.specs.Seeding.{seeded_after, seeded_word}
use Rattle.gs_rules.specs.declared.event.Event.TheVariants.{BeatBegin}
use Rattle.gs_rules.specs.Modes.{exact}
use Rattle.gs_rules.specs.Rounds.{Todo, Beat, is_due}
use Rattle.gs_player.specs.Playing.{Runs}
use Rattle.gs_player.proofs.Beating.{one_beat}
use Rattle.gs_player.proofs.Runs.{told_runs}
use Rattle.gs_player.proofs.calls.beat_if_due.Goals as goal

pub returns : goal.returns
returns g c =
    let m = exact seeded_word seeded_after in
    let v = c.args.router.now in
    let now = c.args.now in
    let due : is_due v.peer.params.timing.heartbeat_ms c.args.round c.args.clock ≡ true = search rules in
    subst (λ (todos : List Todo). Runs m now todos v c.args.words.now c.heartbeat.new.self c.heartbeat.new.words []) (sym (one_beat v.peer c.args.round c.args.clock due))
    (told_runs m now Beat (Some BeatBegin) v c.heartbeat.new.self c.args.words.now c.heartbeat.new.words c.heartbeat.result c.in_ok-never_refused.ensures refl refl c.requires c.heartbeat.ensures)
