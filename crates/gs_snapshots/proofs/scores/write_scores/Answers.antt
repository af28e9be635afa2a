use Rattle.std.proofs.Common.{◌≡◌, ◌++◌, List, [], ℕ, append-nil, flat_map, subst, sym, ap, ◌∙◌}
use Rattle.std.specs.Io.KnownBytes.{Appends}
use Rattle.gs_base.specs.declared.names.PeerNo.{PeerNo}
use Rattle.gs_plan.specs.declared.plan.Plan.{Plan}
use Rattle.gs_report.specs.declared.finished.Finished.{Finished}
use Rattle.gs_report.specs.declared.report.Report.{Report}
use Rattle.gs_trace.proofs.Writing.{all_written, and_more, at_err, cut_off, cut_page, no_text, of_filter, pushed, turned}
use Rattle.gs_snapshots.specs.Forms.{head_text}
use Rattle.gs_snapshots.specs.Scores.{is_wanted_peer, scores_text, text_of_peer}
use Rattle.gs_snapshots.specs.Telling.{text_if}
use Rattle.gs_snapshots.specs.Wishes.{Wishes, wishes_of}
use Rattle.gs_snapshots.proofs.scores.write_scores.Goals as goal

-- what is told, by the list of peers as it is lent
all_parts : (w : Wishes) (plan : Plan) (report : Report) (peers : List (PeerNo × Finished)) → peers ≡ report.peers.items
    → scores_text w plan report ≡ head_text w.form plan ++ flat_map (text_if w plan) peers
all_parts w plan report peers is =
    ap (λ (told : List ℕ). head_text w.form plan ++ told) (
    sym (of_filter (text_of_peer w plan) (is_wanted_peer w plan) report.peers.items)
    ∙ ap (λ (all : List (PeerNo × Finished)). flat_map (text_if w plan) all) (sym is)
    )

pub returns-in_err-write_peers-clause-front : goal.returns-in_err-write_peers-clause-front
returns-in_err-write_peers-clause-front g c =
    let plan = c.args.plan.now in
    let w = wishes_of c.args.wanted.now in
    let peers = c.deref.result.now in
    let headed = pushed (no_text [] (g.W.Write.contents c.args.output.now)) (head_text w.form plan) (c.in_ok-push_head.ensures ∙ ap (λ (text : List ℕ). text ++ head_text w.form plan) c.new-page.ensures.items) in
    at_err c.from_residual-in_err-write_peers.result
    (cut_off headed (g.W.Write.contents c.write_peers.new.output) (flat_map (text_if w plan) peers) (scores_text w plan c.args.report.now) [] c.in_err-write_peers.ensures.front
    (all_parts w plan c.args.report.now peers c.deref.ensures.value ∙ sym (append-nil (head_text w.form plan ++ flat_map (text_if w plan) peers))))

pub returns-in_err-write_page-clause-front : goal.returns-in_err-write_page-clause-front
returns-in_err-write_page-clause-front g c =
    let plan = c.args.plan.now in
    let w = wishes_of c.args.wanted.now in
    let peers = c.deref.result.now in
    let headed = pushed (no_text [] (g.W.Write.contents c.args.output.now)) (head_text w.form plan) (c.in_ok-push_head.ensures ∙ ap (λ (text : List ℕ). text ++ head_text w.form plan) c.new-page.ensures.items) in
    at_err c.from_residual-in_err-write_page.result
    (cut_page (and_more headed c.in_ok-write_peers.ensures.added) (g.W.Write.contents c.write_page.new.output) (scores_text w plan c.args.report.now) [] c.in_err-write_page.ensures.front
    (all_parts w plan c.args.report.now peers c.deref.ensures.value ∙ sym (append-nil (head_text w.form plan ++ flat_map (text_if w plan) peers))))

pub returns-clause-whole : goal.returns-clause-whole
returns-clause-whole g c =
    let plan = c.args.plan.now in
    let w = wishes_of c.args.wanted.now in
    let peers = c.deref.result.now in
    let headed = pushed (no_text [] (g.W.Write.contents c.args.output.now)) (head_text w.form plan) (c.in_ok-push_head.ensures ∙ ap (λ (text : List ℕ). text ++ head_text w.form plan) c.new-page.ensures.items) in
    subst (Appends (g.W.Write.contents c.args.output.now) (g.W.Write.contents c.write_page.new.output)) (sym (all_parts w plan c.args.report.now peers c.deref.ensures.value))
    (all_written (turned (and_more headed c.in_ok-write_peers.ensures.added) c.in_ok-write_page.ensures.added) c.in_ok-write_page.ensures.clear)
