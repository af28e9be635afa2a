use Rattle.std.proofs.Common.{[], ◌∷◌, List, Some, map, refl, sym, subst}
use Rattle.std.proofs.lemmas.List.{map-append}
use Rattle.gs_params.specs.Seeding.{seeded_after, seeded_word}
use Rattle.gs_rules.specs.Modes.{exact}
use Rattle.gs_rules.specs.Legal.{hearing}
use Rattle.gs_rules.specs.Rounds.{Todo, Hear}
use Rattle.gs_player.specs.Playing.{RpcsFit, Runs}
use Rattle.gs_player.proofs.Runs.{runs_then, call_runs}
use Rattle.gs_direct.proofs.peer.hear_rpcs.Goals as goal

pub hear_shared-requires-clause-fits : goal.hear_shared-requires-clause-fits
hear_shared-requires-clause-fits g c = (subst RpcsFit c.in-Some.ensures.steps.0 c.loop-rpc.invariant.3).0

pub loop-rpc-preserved : goal.loop-rpc-preserved
loop-rpc-preserved g c =
    let m = exact seeded_word seeded_after in
    let v = c.loop-rpc.router in
    let now = c.args.now in
    let from = c.args.from in
    let rpc = c.in-Some.rpc in
    let one = call_runs m now (Hear from rpc) (Some (hearing v.trace from rpc)) v c.hear_shared.new.self c.loop-rpc.words c.hear_shared.new.words refl refl c.loop-rpc.invariant.2.runs_on c.in-Ok.ensures in (
      tt,
      tt,
      subst (λ (todos : List Todo). Runs m now todos c.args.router.now c.args.words.now c.hear_shared.new.self c.hear_shared.new.words []) (sym (map-append (Hear from) c.loop-rpc.yielded (rpc ∷ [])))
          (runs_then m now (map (Hear from) c.loop-rpc.yielded) (Hear from rpc ∷ []) c.args.router.now v c.hear_shared.new.self c.args.words.now c.loop-rpc.words c.hear_shared.new.words [] [] c.loop-rpc.invariant.2 one),
      (subst RpcsFit c.in-Some.ensures.steps.0 c.loop-rpc.invariant.3).1,
    )
