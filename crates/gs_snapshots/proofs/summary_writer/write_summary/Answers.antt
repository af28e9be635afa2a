use Rattle.std.proofs.Common.{◌≡◌, ◌++◌, Bool, List, [], ℕ, append-nil, flat_map, subst, sym, ap, ◌∙◌}
use Rattle.std.specs.Io.KnownBytes.{Appends}
use Rattle.gs_base.specs.declared.names.PeerNo.{PeerNo}
use Rattle.gs_plan.specs.declared.plan.Plan.{Plan}
use Rattle.gs_report.specs.declared.finished.Finished.{Finished}
use Rattle.gs_report.specs.declared.report.Report.{Report}
use Rattle.gs_streams.specs.Streams.{AppendsFront}
use Rattle.gs_trace.specs.Pages.{Adds}
use Rattle.gs_trace.proofs.Writing.{all_written, at_err, cut_page, of_filter, pushed, so_far, turned}
use Rattle.gs_snapshots.specs.Scores.{is_wanted_peer}
use Rattle.gs_snapshots.specs.Summing.{is_text, line_unless, summaries_if}
use Rattle.gs_snapshots.specs.SummaryText.{or_nothing, summaries_of_peer, summary_text}
use Rattle.gs_snapshots.specs.Wishes.{Wishes, wishes_of}
use Rattle.gs_snapshots.proofs.Said.{front_said, with_line}
use Rattle.gs_snapshots.proofs.summary_writer.write_summary.Goals as goal

-- what is said, by the list of peers as it is lent
all_said : (w : Wishes) (plan : Plan) (report : Report) (peers : List (PeerNo × Finished)) → peers ≡ report.peers.items
    → or_nothing (flat_map (summaries_if w plan) peers) ≡ summary_text w plan report
all_said w plan report peers is =
    ap (λ (all : List (PeerNo × Finished)). or_nothing (flat_map (summaries_if w plan) all)) is
    ∙ ap or_nothing (of_filter (summaries_of_peer w plan) (is_wanted_peer w plan) report.peers.items)

with_line_if : (w : Wishes) (plan : Plan) (report : Report) (peers : List (PeerNo × Finished)) (is_any : Bool) → peers ≡ report.peers.items
    → is_any ≡ is_text (flat_map (summaries_if w plan) peers)
    → flat_map (summaries_if w plan) peers ++ line_unless is_any ≡ summary_text w plan report
with_line_if w plan report peers is_any is any =
    ap (λ (b : Bool). flat_map (summaries_if w plan) peers ++ line_unless b) any
    ∙ with_line (flat_map (summaries_if w plan) peers)
    ∙ all_said w plan report peers is

pub returns-in_err-is_any-clause-front : goal.returns-in_err-is_any-clause-front
returns-in_err-is_any-clause-front g c =
    let plan = c.args.plan.now in
    let w = wishes_of c.args.wanted.now in
    let peers = c.deref.result.now in
    let before = g.W.Write.contents c.args.output.now in
    let after = g.W.Write.contents c.write_peers.new.output in
    let front : AppendsFront before after (flat_map (summaries_if w plan) peers) =
    subst (λ (page : List ℕ). AppendsFront before after (page ++ flat_map (summaries_if w plan) peers)) c.new-page.ensures.items c.in_err-is_any.ensures.front in
    at_err c.from_residual.result
    (subst (AppendsFront before after) (all_said w plan c.args.report.now peers c.deref.ensures.value) (front_said before after (flat_map (summaries_if w plan) peers) front))

pub returns-in_err-push_line_unless-clause-front : goal.returns-in_err-push_line_unless-clause-front
returns-in_err-push_line_unless-clause-front g c =
    let plan = c.args.plan.now in
    let w = wishes_of c.args.wanted.now in
    let peers = c.deref.result.now in
    let before = g.W.Write.contents c.args.output.now in
    let after = g.W.Write.contents c.write_peers.new.output in
    let text = flat_map (summaries_if w plan) peers in
    let front : AppendsFront before after text =
    subst (λ (page : List ℕ). AppendsFront before after (page ++ text)) c.new-page.ensures.items
    (so_far c.in_ok-is_any.ensures.added text [] (sym (append-nil text))) in
    at_err c.from_residual-in_err-push_line_unless.result
    (subst (AppendsFront before after) (all_said w plan c.args.report.now peers c.deref.ensures.value) (front_said before after text front))

pub returns-in_err-write_page-clause-front : goal.returns-in_err-write_page-clause-front
returns-in_err-write_page-clause-front g c =
    let plan = c.args.plan.now in
    let w = wishes_of c.args.wanted.now in
    let peers = c.deref.result.now in
    let before = g.W.Write.contents c.args.output.now in
    let after = g.W.Write.contents c.write_page.new.output in
    let whole = summary_text w plan c.args.report.now in
    let said = pushed c.in_ok-is_any.ensures.added (line_unless c.in_ok-is_any.is_any) c.in_ok-push_line_unless.ensures in
    let is = with_line_if w plan c.args.report.now peers c.in_ok-is_any.is_any c.deref.ensures.value c.in_ok-is_any.ensures.any in
    at_err c.from_residual-in_err-write_page.result
    (subst (λ (page : List ℕ). AppendsFront before after (page ++ whole)) c.new-page.ensures.items
    (cut_page said after whole [] c.in_err-write_page.ensures.front (sym is ∙ sym (append-nil (flat_map (summaries_if w plan) peers ++ line_unless c.in_ok-is_any.is_any)))))

pub returns-clause-whole : goal.returns-clause-whole
returns-clause-whole g c =
    let plan = c.args.plan.now in
    let w = wishes_of c.args.wanted.now in
    let peers = c.deref.result.now in
    let before = g.W.Write.contents c.args.output.now in
    let after = g.W.Write.contents c.write_page.new.output in
    let text = flat_map (summaries_if w plan) peers ++ line_unless c.in_ok-is_any.is_any in
    let said = turned (pushed c.in_ok-is_any.ensures.added (line_unless c.in_ok-is_any.is_any) c.in_ok-push_line_unless.ensures) c.in_ok-write_page.ensures.added in
    let from_nothing : Adds text [] c.write_page.new.page.items before after =
    subst (λ (page : List ℕ). Adds text page c.write_page.new.page.items before after) c.new-page.ensures.items said in
    subst (Appends before after) (with_line_if w plan c.args.report.now peers c.in_ok-is_any.is_any c.deref.ensures.value c.in_ok-is_any.ensures.any)
    (all_written from_nothing c.in_ok-write_page.ensures.clear)
