use Rattle.std.proofs.Common.{◌≡◌, ◌/◌, ◌∷◌, Bool, true, false, List, sym, ap, ◌∙◌}
use Rattle.std.proofs.lemmas.Result.{on_ok_weaker}
use Rattle.gs_base.specs.declared.names.Millis.{Millis}
use Rattle.gs_rules.specs.declared.fallen.Fallen.{Fallen}
use Rattle.gs_rules.specs.FellAway.{fell_away}
use Rattle.gs_seats.specs.Rounds.{peer_in}
use Rattle.gs_snapshots.specs.declared.summary.Summary.{Summary}
use Rattle.gs_snapshots.specs.Moments.{newest_moment}
use Rattle.gs_snapshots.specs.Noting.{with_each}
use Rattle.gs_snapshots.specs.Summing.{summaries_in, with_moments}
use Rattle.gs_snapshots.specs.Wishes.{is_in_rounds}
use Rattle.gs_snapshots.proofs.Summed.{unwanted_more, wanted_more}
use Rattle.gs_snapshots.proofs.summaries.note_entry.Goals as goal

pub returns-then-is_in_rounds : goal.returns-then-is_in_rounds
returns-then-is_in_rounds c =
    let x = c.args.summed in
    let e = c.args.seen.now.entry.now in
    let is : is_in_rounds x.rounds (e.at.0 / x.plan.now.round_ms) ≡ true =
    ap (λ (at : Millis). is_in_rounds x.rounds (at.0 / x.plan.now.round_ms)) (sym c.at.ensures) ∙ sym c.is_in_rounds.ensures ∙ c.if-is_in_rounds.true in
    on_ok_weaker
    c.note_wanted.result
    (λ noted L left follows fallen qs told.
    let ms = newest_moment x.plan.now x.peer (e ∷ L) in
    noted L left follows
    ∙ ap (λ (all : List Fallen). with_each all (with_moments x ms c.args.summaries.now)) fallen
    ∙ ap (λ (xs : List Summary). with_each (fell_away (peer_in x.plan.now x.peer) L e.at e.event) (with_moments x ms xs)) told
    ∙ wanted_more x qs e L is)
    c.note_wanted.ensures

pub returns : goal.returns
returns c L left follows fallen qs told =
    let x = c.args.summed in
    let e = c.args.seen.now.entry.now in
    told ∙ unwanted_more x qs e L (ap (λ (at : Millis). is_in_rounds x.rounds (at.0 / x.plan.now.round_ms)) (sym c.at.ensures) ∙ sym c.is_in_rounds.ensures ∙ c.if-is_in_rounds.false)
