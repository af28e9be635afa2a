use Rattle.std.proofs.Common.{◌≡◌, ◌++◌, ℕ, List, [], append-nil, length, map, reverse, sym, ap, ◌∙◌}
use Rattle.std.proofs.lemmas.List.{length-map, reverse-reverse}
use Rattle.gs_base.specs.declared.names.PeerNo.{PeerNo}
use Rattle.gs_params.specs.declared.params.Thresholds.{Thresholds}
use Rattle.gs_rules.specs.declared.trace.Entry.{Entry}
use Rattle.gs_rules.specs.Tables.{Entries}
use Rattle.gs_snapshots.specs.declared.summaries.Summed.{Summed}
use Rattle.gs_snapshots.specs.declared.summary.Summary.{Summary}
use Rattle.gs_snapshots.specs.Scores.{wanted_neighbours}
use Rattle.gs_snapshots.specs.Summary.{summary_of}
use Rattle.gs_snapshots.specs.Summing.{summaries_in}
use Rattle.gs_snapshots.specs.TraceSummaries.{summary_in}
use Rattle.gs_snapshots.specs.Wishes.{wishes_of}
use Rattle.gs_snapshots.proofs.Mapped.{lent}
use Rattle.gs_snapshots.proofs.summaries.summaries_of.Goals as goal

pub sum_up-requires-clause-follows : goal.sum_up-requires-clause-follows
sum_up-requires-clause-follows c = (([], reverse c.args.peer.now.1.trace), c.in_ok-follower.ensures)

pub returns : goal.returns
returns c =
    let plan = c.args.plan.now in
    let p = c.args.peer.now.0 in
    let trace = c.args.peer.now.1.trace in
    let qs = c.in_ok-neighbours.neighbours.items in
    let rounds = c.args.wanted.now.rounds in
    let x : Summed = record { alloc = c.args.alloc; plan = c.args.plan; peer = p; rounds = rounds } in
    let old = c.deref_mut.result.now in
    let new = c.sum_up.new.summaries in
    let first : old ≡ summaries_in x qs [] =
    c.deref_mut.ensures.value
    ∙ c.in_ok-summaries.ensures plan.params.thresholds
    ∙ ap (λ (ns : List PeerNo). map (λ (q : PeerNo). summary_of plan.params.thresholds q [] []) ns) c.deref.ensures.value in
    let last : new ≡ summaries_in x qs (reverse (reverse trace) ++ []) = c.in_ok-sum_up.ensures ([], reverse trace) c.in_ok-follower.ensures qs first in
    let all : new ≡ map (summary_in rounds plan p trace) (wanted_neighbours (wishes_of c.args.wanted.now) plan p) =
    last
    ∙ ap (λ (L : Entries). summaries_in x qs L) (append-nil (reverse (reverse trace)) ∙ reverse-reverse trace)
    ∙ ap (λ (ns : List PeerNo). map (summary_in rounds plan p trace) ns) c.in_ok-neighbours.ensures in
    let long : length new ≡ c.in_ok-summaries.summaries.len =
    ap (λ (xs : List Summary). length xs) last ∙ length-map qs (summary_in rounds plan p (reverse (reverse trace) ++ []))
    ∙ sym (ap (λ (xs : List Summary). length xs) first ∙ length-map qs (summary_in rounds plan p []))
    ∙ c.deref_mut.ensures.len in
    lent c.in_ok-summaries.summaries.len new _ long ∙ all
