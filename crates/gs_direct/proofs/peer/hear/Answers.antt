use Rattle.std.proofs.Common.{[], map}
use Rattle.gs_params.specs.Seeding.{seeded_after, seeded_word}
use Rattle.gs_rules.specs.Modes.{exact}
use Rattle.gs_rules.specs.Rounds.{Hear}
use Rattle.gs_player.proofs.Runs.{runs_then}
use Rattle.gs_direct.specs.Letters.{ending_heard}
use Rattle.gs_direct.proofs.Heard.{if_told}
use Rattle.gs_direct.proofs.peer.hear.Goals as goal

pub returns : goal.returns
returns g c =
    let m = exact seeded_word seeded_after in
    let letter = c.args.letter in
    if_told c.hear_ending.result _ _
    (λ ends. runs_then m c.args.now (map (Hear letter.from) letter.rpcs.items) (ending_heard letter.from letter.ending) c.args.router.now c.hear_rpcs.new.router c.hear_ending.new.router c.args.words.now c.hear_rpcs.new.words c.hear_ending.new.words [] [] c.in_ok-hear_rpcs.ensures ends)
    c.hear_ending.ensures
