use Rattle.gs_rules.specs.Modes.{exact}
use Rattle.gs_rules.proofs.Legality.{exact_is_free}
use Rattle.gs_router.specs.Known.{peer_with}
use Rattle.gs_router.proofs.Steps.{next_opens, opens_alone}
use Rattle.gs_router.proofs.state.State.open.Goals as goal

pub step_with-requires : goal.step_with-requires
step_with-requires g c =
    let a = c.args.self.now in
    record {
      current = c.requires.ready.current;
      time = c.requires.time;
      next = next_opens (peer_with a.known.setup) a.trace c.args.now.0 c.args.event c.requires.ready.settled c.requires.may;
    }

pub returns : goal.returns
returns g c = opens_alone (exact g.W.Words.word g.W.Words.after) (exact_is_free g.W.Words.word g.W.Words.after) c.args.event c.args.now c.args.self.now c.step_with.new.self c.args.words.now c.step_with.new.words c.step_with.result c.requires.ready c.requires.alone c.step_with.ensures
