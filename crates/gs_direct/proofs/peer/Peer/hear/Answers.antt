use Rattle.std.proofs.Common.{[], List, sym, ap, subst}
use Rattle.gs_params.specs.Seeding.{seeded_after, seeded_word}
use Rattle.gs_rules.specs.Modes.{exact}
use Rattle.gs_rules.specs.Rounds.{Todo}
use Rattle.gs_player.specs.Playing.{Runs}
use Rattle.gs_player.proofs.Runs.{runs_then}
use Rattle.gs_direct.specs.declared.peer.Peer.{Peer}
use Rattle.gs_direct.specs.Letters.{LettersFit, all_heard, heard_of}
use Rattle.gs_direct.proofs.Heard.{one_more}
use Rattle.gs_direct.proofs.peer.Peer.hear.Goals as goal

pub hear-requires-clause-fit : goal.hear-requires-clause-fit
hear-requires-clause-fit g c = (subst LettersFit c.in-Some.ensures.steps.0 c.loop-letter.invariant.3).0

pub loop-letter-preserved : goal.loop-letter-preserved
loop-letter-preserved g c =
    let m = exact seeded_word seeded_after in
    let p = c.args.self.now in
    let here = c.loop-letter.self in
    let letter = c.in-Some.letter in
    let before = c.loop-letter.yielded in (
      tt,
      tt,
      subst (λ (todos : List Todo). Runs m c.args.now todos p.router p.words c.hear.new.router c.hear.new.words []) (sym (one_more before letter))
          (runs_then m c.args.now (all_heard before) (heard_of letter) p.router here.router c.hear.new.router p.words here.words c.hear.new.words [] [] c.loop-letter.invariant.2 c.in_ok-hear.ensures),
      (subst LettersFit c.in-Some.ensures.steps.0 c.loop-letter.invariant.3).1,
      ap (λ (x : Peer _). record x { router = c.hear.new.router; words = c.hear.new.words }) c.loop-letter.invariant.4,
    )
