use Rattle.std.proofs.Common.{◌≡◌, ◌++◌, ◌+◌, ◌-◌, ℕ, List, [], suc, add-one, append-nil, subst, sym, ap, ◌∙◌, arith, rules}
use Rattle.std.specs.List.{flat_map}
use Rattle.std.proofs.lemmas.Result.{on_err_weaker, on_ok_weaker}
use Rattle.gs_trace.specs.Pages.{Adds}
use Rattle.gs_trace.specs.Starts.{StandAt, told_by}
use Rattle.gs_trace.specs.Turns.{rounds_text}
use Rattle.gs_trace.specs.Wanted.{line_if, wishes_of}
use Rattle.gs_trace.proofs.Starts.{round_last, round_more, rounds_front, text_to}
use Rattle.gs_trace.proofs.Writing.{and_more, at_err, cut_off}
use Rattle.gs_trace.proofs.lines.write_rounds.Goals as goal

pub returns-in_err-write_round-clause-front : goal.returns-in_err-write_round-clause-front
returns-in_err-write_round-clause-front g c =
    let walk = c.args.walk.now in
    let line = line_if (wishes_of walk.wanted.now) walk.plan.now in
    let told = told_by walk.plan.now walk.peers.now in
    let round = c.loop-round.round in
    let all = suc walk.plan.now.rounds in
    let (rest, front) = rounds_front line told (round + 1) (all - (round + 1)) all (omega (arith, c.loop-round-test.true)) in
    at_err c.from_residual.result
    (cut_off c.loop-round.invariant.text (g.W.Write.contents c.write_round.new.output) (flat_map line (told round)) (rounds_text walk) rest c.in_err-write_round.ensures.front
    (front ∙ ap (λ (text : List ℕ). text ++ rest) (sym (round_more line told round))))

pub loop-round-preserved : goal.loop-round-preserved
loop-round-preserved g c =
    let walk = c.args.walk.now in
    let line = line_if (wishes_of walk.wanted.now) walk.plan.now in
    let told = told_by walk.plan.now walk.peers.now in
    let round = c.loop-round.round in
    let done = c.in_ok-write_round.ensures in
    record {
      low = search rules;
      readers = subst (λ (r : ℕ). StandAt walk.plan.now r 0 walk.peers.now c.write_round.new.readers) (sym (add-one round)) done.readers;
      text = subst (λ (text : List ℕ). Adds text c.args.page.now.items c.write_round.new.page.items (g.W.Write.contents c.args.output.now) (g.W.Write.contents c.write_round.new.output)) (round_more line told round)
          (and_more c.loop-round.invariant.text done.added);
    }

pub returns-clause-added : goal.returns-clause-added
returns-clause-added g c =
    let walk = c.args.walk.now in
    let line = line_if (wishes_of walk.wanted.now) walk.plan.now in
    let told = told_by walk.plan.now walk.peers.now in
    let end : c.loop-round.round ≡ walk.plan.now.rounds = omega (arith, c.loop-round.invariant.low, c.loop-round-test.false) in
    let so_far : Adds (text_to line told walk.plan.now.rounds) c.args.page.now.items c.loop-round.page.items (g.W.Write.contents c.args.output.now) (g.W.Write.contents c.loop-round.output) =
    subst (λ (r : ℕ). Adds (text_to line told r) c.args.page.now.items c.loop-round.page.items (g.W.Write.contents c.args.output.now) (g.W.Write.contents c.loop-round.output)) end c.loop-round.invariant.text in
    on_ok_weaker
    c.write_round-2.result
    (λ done. subst (λ (text : List ℕ). Adds text c.args.page.now.items c.write_round-2.new.page.items (g.W.Write.contents c.args.output.now) (g.W.Write.contents c.write_round-2.new.output)) (round_last line told walk.plan.now.rounds) (and_more so_far done))
    c.write_round-2.ensures.added

pub returns-clause-front : goal.returns-clause-front
returns-clause-front g c =
    let walk = c.args.walk.now in
    let line = line_if (wishes_of walk.wanted.now) walk.plan.now in
    let told = told_by walk.plan.now walk.peers.now in
    let last = walk.plan.now.rounds in
    let end : c.loop-round.round ≡ last = omega (arith, c.loop-round.invariant.low, c.loop-round-test.false) in
    let so_far : Adds (text_to line told last) c.args.page.now.items c.loop-round.page.items (g.W.Write.contents c.args.output.now) (g.W.Write.contents c.loop-round.output) =
    subst (λ (r : ℕ). Adds (text_to line told r) c.args.page.now.items c.loop-round.page.items (g.W.Write.contents c.args.output.now) (g.W.Write.contents c.loop-round.output)) end c.loop-round.invariant.text in
    on_err_weaker
    c.write_round-2.result
    (λ front. cut_off so_far (g.W.Write.contents c.write_round-2.new.output) (flat_map line (told last)) (rounds_text walk) [] front
    (sym (round_last line told last) ∙ sym (append-nil (text_to line told last ++ flat_map line (told last)))))
    c.write_round-2.ensures.front
