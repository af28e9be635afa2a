use Rattle.std.proofs.Common.{◌≡◌, ◌<◌, ◌++◌, ◌∷◌, ◌+◌, ℕ, List, drop, filter, flat_map, get_or, length, reverse, take, ap, sym, subst, ◌∙◌}
use Rattle.std.proofs.lemmas.List.{drop_more}
use Rattle.gs_rules.specs.declared.trace.Entry.{Entry}
use Rattle.gs_rules.specs.Tables.{Entries}
use Rattle.gs_seats.specs.Rounds.{peer_in}
use Rattle.gs_streams.specs.Streams.{AppendsFront}
use Rattle.gs_trace.specs.Pages.{Adds}
use Rattle.gs_trace.proofs.Writing.{at_err, cut_off, pushed, so_far, turned}
use Rattle.gs_snapshots.specs.declared.scores.Asked.{Asked}
use Rattle.gs_snapshots.specs.Moments.{newest_moment}
use Rattle.gs_snapshots.specs.Scores.{is_at_wanted_round, text_at}
use Rattle.gs_snapshots.specs.Telling.{FollowsPeer, told_at}
use Rattle.gs_snapshots.proofs.Fronts.{front_reversed, told_later, told_more, told_parts}
use Rattle.gs_snapshots.proofs.scores.write_entries.Goals as goal

-- what is told at the newest of these entries
abbrev newest : Asked → Entry → Entries → List ℕ
newest asked e L = flat_map
    (text_at asked.form asked.plan.now asked.neighbours.items)
    (filter (is_at_wanted_round asked.rounds) (newest_moment asked.plan.now asked.peer (e ∷ L)))

-- what is told at the entries after a front
abbrev left_of : Asked → List Entry → ℕ → List ℕ
left_of asked es i = told_later (text_at asked.form asked.plan.now asked.neighbours.items) (is_at_wanted_round asked.rounds) asked.plan.now asked.peer es i

whole : (asked : Asked) (es : List Entry) (i : ℕ) → told_at asked (reverse es) ≡ told_at asked (reverse (take i es)) ++ left_of asked es i
whole asked es i = told_parts (text_at asked.form asked.plan.now asked.neighbours.items) (is_at_wanted_round asked.rounds) asked.plan.now asked.peer es i

-- what is told at a front, and then at the next entry
one_entry : (asked : Asked) (es : List Entry) (i : ℕ) (e : Entry) → i < length es → e ≡ get_or es i e
    → told_at asked (reverse (take i es)) ++ newest asked e (reverse (take i es)) ≡ told_at asked (reverse (take (i + 1) es))
one_entry asked es i e low is =
    told_more (text_at asked.form asked.plan.now asked.neighbours.items) (is_at_wanted_round asked.rounds) asked.plan.now asked.peer e (reverse (take i es))
    ∙ ap (told_at asked) (front_reversed es i e low is)

-- a reader that sees the next entry
seen : (asked : Asked) (es : List Entry) (i : ℕ) (e : Entry) → i < length es → e ≡ get_or es i e → drop i es ≡ e ∷ drop (i + 1) es
seen asked es i e low is = drop_more es i e low ∙ ap (λ (x : Entry). x ∷ drop (i + 1) es) (sym is)

pub returns-in_err-see_next-clause-front : goal.returns-in_err-see_next-clause-front
returns-in_err-see_next-clause-front g c =
    let asked = c.args.asked.now in
    let es = c.args.entries.now in
    let i = c.loop-entry.entry-index in
    at_err c.from_residual.result (so_far c.loop-entry.invariant.added (told_at asked (reverse es)) (left_of asked es i) (whole asked es i))

pub returns-in_err-push_entry-clause-front : goal.returns-in_err-push_entry-clause-front
returns-in_err-push_entry-clause-front g c =
    let asked = c.args.asked.now in
    let es = c.args.entries.now in
    let i = c.loop-entry.entry-index in
    at_err c.from_residual-in_err-push_entry.result (so_far c.loop-entry.invariant.added (told_at asked (reverse es)) (left_of asked es i) (whole asked es i))

pub returns-in_err-write_full-clause-front : goal.returns-in_err-write_full-clause-front
returns-in_err-write_full-clause-front g c =
    let asked = c.args.asked.now in
    let plan = asked.plan.now in
    let es = c.args.entries.now in
    let i = c.loop-entry.entry-index in
    let e = c.entry-item.result in
    let L = reverse (take i es) in
    let left = drop (i + 1) es in
    let low = c.loop-entry-test.true in
    let more = newest asked e L in
    let after : FollowsPeer c.see_next.new.follower plan asked.peer (e ∷ L) left =
    c.in_ok-see_next.ensures (peer_in plan asked.peer) L e left
    (subst (λ (rest : List Entry). FollowsPeer c.loop-entry.follower plan asked.peer L rest) (seen asked es i e low c.entry-item.is) c.loop-entry.invariant.follows) in
    let front : AppendsFront (g.W.Write.contents c.loop-entry.output) (g.W.Write.contents c.write_full.new.output) (c.loop-entry.page.items ++ more) =
    subst (AppendsFront (g.W.Write.contents c.loop-entry.output) (g.W.Write.contents c.write_full.new.output)) (c.in_ok-push_entry.ensures L left after) c.in_err-write_full.ensures.front in
    at_err c.from_residual-in_err-write_full.result
    (cut_off c.loop-entry.invariant.added (g.W.Write.contents c.write_full.new.output) more (told_at asked (reverse es)) (left_of asked es (i + 1)) front
    (whole asked es (i + 1) ∙ ap (λ (text : List ℕ). text ++ left_of asked es (i + 1)) (sym (one_entry asked es i e low c.entry-item.is))))

pub loop-entry-preserved : goal.loop-entry-preserved
loop-entry-preserved g c =
    let asked = c.args.asked.now in
    let plan = asked.plan.now in
    let es = c.args.entries.now in
    let i = c.loop-entry.entry-index in
    let e = c.entry-item.result in
    let L = reverse (take i es) in
    let left = drop (i + 1) es in
    let low = c.loop-entry-test.true in
    let after : FollowsPeer c.see_next.new.follower plan asked.peer (e ∷ L) left =
    c.in_ok-see_next.ensures (peer_in plan asked.peer) L e left
    (subst (λ (rest : List Entry). FollowsPeer c.loop-entry.follower plan asked.peer L rest) (seen asked es i e low c.entry-item.is) c.loop-entry.invariant.follows) in
    record {
      follows = subst (λ (trace : Entries). FollowsPeer c.see_next.new.follower plan asked.peer trace left) (front_reversed es i e low c.entry-item.is) after;
      added = subst (λ (text : List ℕ). Adds text c.args.page.now.items c.write_full.new.page.items (g.W.Write.contents c.args.output.now) (g.W.Write.contents c.write_full.new.output))
          (one_entry asked es i e low c.entry-item.is)
          (turned (pushed c.loop-entry.invariant.added (newest asked e L) (c.in_ok-push_entry.ensures L left after)) c.in_ok-write_full.ensures.added);
    }
