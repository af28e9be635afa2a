use Rattle.std.proofs.Common.{◌++◌, List, [], ℕ, append-nil, subst, sym, ap, ◌∙◌}
use Rattle.std.specs.Io.KnownBytes.{Appends}
use Rattle.gs_trace.specs.declared.lines.Walk.{Walk}
use Rattle.gs_trace.specs.Lines.{head_text}
use Rattle.gs_trace.specs.Turns.{rounds_text}
use Rattle.gs_trace.specs.Wanted.{wanted_text, wishes_of}
use Rattle.gs_trace.proofs.TurnTexts.{all_parts}
use Rattle.gs_trace.proofs.Writing.{all_written, and_more, at_err, cut_off, cut_page, no_text, pushed, turned, unwritten}
use Rattle.gs_trace.proofs.lines.write_trace.Goals as goal

pub returns-in_err-readers-clause-front : goal.returns-in_err-readers-clause-front
returns-in_err-readers-clause-front g c =
    at_err c.from_residual.result
    (unwritten (g.W.Write.contents c.args.output.now) (wanted_text (wishes_of c.args.wanted.now) c.args.plan.now c.args.report.now))

pub returns-in_err-push_head-clause-front : goal.returns-in_err-push_head-clause-front
returns-in_err-push_head-clause-front g c =
    at_err c.from_residual-in_err-push_head.result
    (unwritten (g.W.Write.contents c.args.output.now) (wanted_text (wishes_of c.args.wanted.now) c.args.plan.now c.args.report.now))

pub returns-in_err-write_rounds-clause-front : goal.returns-in_err-write_rounds-clause-front
returns-in_err-write_rounds-clause-front g c =
    let plan = c.args.plan.now in
    let walk : Walk = record { plan = c.args.plan; wanted = c.args.wanted; peers = c.deref-2.result } in
    let headed = pushed (no_text [] (g.W.Write.contents c.args.output.now)) (head_text plan) (c.in_ok-push_head.ensures ∙ ap (λ (text : List ℕ). text ++ head_text plan) c.new-page.ensures.items) in
    at_err c.from_residual-in_err-write_rounds.result
    (cut_off headed (g.W.Write.contents c.write_rounds.new.output) (rounds_text walk) (wanted_text (wishes_of c.args.wanted.now) plan c.args.report.now) [] c.in_err-write_rounds.ensures.front
    (all_parts walk c.args.report.now c.deref-2.ensures.value ∙ sym (append-nil (head_text plan ++ rounds_text walk))))

pub returns-in_err-write_page-clause-front : goal.returns-in_err-write_page-clause-front
returns-in_err-write_page-clause-front g c =
    let plan = c.args.plan.now in
    let walk : Walk = record { plan = c.args.plan; wanted = c.args.wanted; peers = c.deref-2.result } in
    let headed = pushed (no_text [] (g.W.Write.contents c.args.output.now)) (head_text plan) (c.in_ok-push_head.ensures ∙ ap (λ (text : List ℕ). text ++ head_text plan) c.new-page.ensures.items) in
    at_err c.from_residual-in_err-write_page.result
    (cut_page (and_more headed c.in_ok-write_rounds.ensures.added) (g.W.Write.contents c.write_page.new.output) (wanted_text (wishes_of c.args.wanted.now) plan c.args.report.now) [] c.in_err-write_page.ensures.front
    (all_parts walk c.args.report.now c.deref-2.ensures.value ∙ sym (append-nil (head_text plan ++ rounds_text walk))))

pub returns-clause-whole : goal.returns-clause-whole
returns-clause-whole g c =
    let plan = c.args.plan.now in
    let walk : Walk = record { plan = c.args.plan; wanted = c.args.wanted; peers = c.deref-2.result } in
    let headed = pushed (no_text [] (g.W.Write.contents c.args.output.now)) (head_text plan) (c.in_ok-push_head.ensures ∙ ap (λ (text : List ℕ). text ++ head_text plan) c.new-page.ensures.items) in
    subst (Appends (g.W.Write.contents c.args.output.now) (g.W.Write.contents c.write_page.new.output)) (sym (all_parts walk c.args.report.now c.deref-2.ensures.value))
    (all_written (turned (and_more headed c.in_ok-write_rounds.ensures.added) c.in_ok-write_page.ensures.added) c.in_ok-write_page.ensures.clear)
