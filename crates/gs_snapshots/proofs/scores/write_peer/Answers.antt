use Rattle.std.proofs.Common.{◌≡◌, ◌++◌, [], ℕ, List, filter, flat_map, reverse, ap, sym, subst, ◌∙◌}
use Rattle.std.specs.Prelude.{OnErr, OnOk}
use Rattle.std.proofs.lemmas.List.{reverse-reverse}
use Rattle.gs_base.specs.declared.names.PeerNo.{PeerNo}
use Rattle.gs_rules.specs.declared.trace.Entry.{Entry}
use Rattle.gs_rules.specs.Tables.{Entries}
use Rattle.gs_streams.specs.Streams.{AppendsFront}
use Rattle.gs_trace.specs.Pages.{Adds}
use Rattle.gs_trace.proofs.Writing.{at_err, unwritten}
use Rattle.gs_snapshots.specs.declared.scores.Asked.{Asked}
use Rattle.gs_snapshots.specs.Moments.{moments}
use Rattle.gs_snapshots.specs.Scores.{is_at_wanted_round, text_at, text_of_peer, wanted_neighbours}
use Rattle.gs_snapshots.specs.Telling.{FollowsPeer, told_at}
use Rattle.gs_snapshots.specs.Wishes.{wishes_of}
use Rattle.gs_snapshots.proofs.scores.write_peer.Goals as goal

pub returns-in_err-wanted_neighbours-clause-front : goal.returns-in_err-wanted_neighbours-clause-front
returns-in_err-wanted_neighbours-clause-front g c =
    at_err c.from_residual.result
    (unwritten (g.W.Write.contents c.args.output.now) (c.args.page.now.items ++ text_of_peer (wishes_of c.args.wanted.now) c.args.plan.now c.args.peer.now))

pub returns-in_err-follower-clause-front : goal.returns-in_err-follower-clause-front
returns-in_err-follower-clause-front g c =
    at_err c.from_residual-in_err-follower.result
    (unwritten (g.W.Write.contents c.args.output.now) (c.args.page.now.items ++ text_of_peer (wishes_of c.args.wanted.now) c.args.plan.now c.args.peer.now))

pub write_entries-requires-clause-follows : goal.write_entries-requires-clause-follows
write_entries-requires-clause-follows g c =
    subst (λ (left : List Entry). FollowsPeer c.in_ok-follower.follower c.args.plan.now c.args.peer.now.0 [] left)
    (ap (λ (trace : Entries). reverse trace) (sym c.entries.ensures) ∙ reverse-reverse c.entries.result.now)
    c.in_ok-follower.ensures

pub returns-clause-added : goal.returns-clause-added
returns-clause-added g c =
    let plan = c.args.plan.now in
    let w = wishes_of c.args.wanted.now in
    let p = c.args.peer.now.0 in
    let trace = reverse c.entries.result.now in
    let asked : Asked = record { plan = c.args.plan; peer = p; neighbours = c.in_ok-wanted_neighbours.field-0; rounds = w.rounds; form = w.form } in
    let all : told_at asked trace ≡ text_of_peer w plan c.args.peer.now =
    ap (λ (qs : List PeerNo). flat_map (text_at w.form plan qs) (filter (is_at_wanted_round w.rounds) (moments plan p trace))) c.in_ok-wanted_neighbours.ensures
    ∙ ap (λ (L : Entries). flat_map (text_at w.form plan (wanted_neighbours w plan p)) (filter (is_at_wanted_round w.rounds) (moments plan p L))) c.entries.ensures in
    subst (λ (text : List ℕ). OnOk c.write_entries.result (Adds text c.args.page.now.items c.write_entries.new.page.items (g.W.Write.contents c.args.output.now) (g.W.Write.contents c.write_entries.new.output))) all
    c.write_entries.ensures.added

pub returns-clause-front : goal.returns-clause-front
returns-clause-front g c =
    let plan = c.args.plan.now in
    let w = wishes_of c.args.wanted.now in
    let p = c.args.peer.now.0 in
    let trace = reverse c.entries.result.now in
    let asked : Asked = record { plan = c.args.plan; peer = p; neighbours = c.in_ok-wanted_neighbours.field-0; rounds = w.rounds; form = w.form } in
    let all : told_at asked trace ≡ text_of_peer w plan c.args.peer.now =
    ap (λ (qs : List PeerNo). flat_map (text_at w.form plan qs) (filter (is_at_wanted_round w.rounds) (moments plan p trace))) c.in_ok-wanted_neighbours.ensures
    ∙ ap (λ (L : Entries). flat_map (text_at w.form plan (wanted_neighbours w plan p)) (filter (is_at_wanted_round w.rounds) (moments plan p L))) c.entries.ensures in
    subst (λ (text : List ℕ). OnErr c.write_entries.result (AppendsFront (g.W.Write.contents c.args.output.now) (g.W.Write.contents c.write_entries.new.output) (c.args.page.now.items ++ text))) all
    c.write_entries.ensures.front
