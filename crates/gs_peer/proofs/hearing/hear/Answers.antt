use Rattle.std.proofs.Common.{◌<◌, ◌+◌, ◌≡◌, ◌++◌, [], ◌∷◌, List, length, take, set, get_or, sym, ap, subst, append-nil, ◌∙◌}
use Rattle.std.proofs.lemmas.List.{take_more}
use Rattle.std.proofs.lemmas.Grind.{flat_map-append}
use Rattle.gs_params.specs.Seeding.{seeded_after, seeded_word}
use Rattle.gs_rules.specs.Modes.{exact}
use Rattle.gs_rules.specs.Rounds.{Todo}
use Rattle.gs_peer.specs.Inboxes.{InboxView, all_heard, heard_of, in_next_phase}
use Rattle.gs_player.specs.Playing.{Runs}
use Rattle.gs_peer.proofs.Mapped.{mapped_is, mapped_more}
use Rattle.gs_player.proofs.Runs.{runs_then}
use Rattle.gs_peer.proofs.hearing.hear.Goals as goal

pub loop-inbox-preserved : goal.loop-inbox-preserved
loop-inbox-preserved c =
    let m = exact seeded_word seeded_after in
    let xs = c.args.inboxes.now in
    let n = c.loop-inbox.inbox-index in
    let x = c.inbox-item.result in
    let low : n < length xs = c.loop-inbox-test.true in
    let y = get_or c.loop-inbox.inboxes n x in
    let is : y ≡ get_or xs n x = mapped_is in_next_phase xs c.loop-inbox.inboxes n x low c.loop-inbox.invariant.turns in
    let more : all_heard (take (n + 1) xs) ≡ all_heard (take n xs) ++ heard_of y =
    ap all_heard (take_more xs n x low ∙ ap (λ (z : InboxView). take n xs ++ z ∷ []) (sym is))
    ∙ flat_map-append heard_of (take n xs) (y ∷ [])
    ∙ ap (λ (todos : List Todo). all_heard (take n xs) ++ todos) (append-nil (heard_of y)) in
    record {
      runs = subst (λ (todos : List Todo). Runs m c.args.now todos c.args.router.now c.args.words.now c.hear_from.new.router c.hear_from.new.words []) (sym more)
          (runs_then m c.args.now (all_heard (take n xs)) (heard_of y) c.args.router.now c.loop-inbox.router c.hear_from.new.router c.args.words.now c.loop-inbox.words c.hear_from.new.words [] [] c.loop-inbox.invariant.runs c.in_ok-hear_from.ensures.runs);
      turns = ap (set c.loop-inbox.inboxes n) c.in_ok-hear_from.ensures.in_next_phase ∙ mapped_more in_next_phase xs c.loop-inbox.inboxes n x low c.loop-inbox.invariant.turns;
    }
