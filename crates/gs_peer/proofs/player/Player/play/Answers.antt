use Rattle.std.proofs.Common.{◌≡◌, ℕ, ◌++◌, [], ◌∷◌, List, Some, length, map, refl, rules, vec_len, ap, subst, append-nil, ◌∙◌}
use Rattle.std.proofs.lemmas.List.{append_assoc, with_items_is}
use Rattle.gs_plan.specs.declared.plan.Line.{Line}
use Rattle.gs_params.specs.Seeding.{seeded_after, seeded_word}
use Rattle.gs_rules.specs.declared.refusal.RefusedLine.{RefusedLine}
use Rattle.gs_rules.specs.declared.event.Event.TheVariants.{RoundEnd}
use Rattle.gs_rules.specs.Modes.{exact}
use Rattle.gs_rules.specs.Peers.{Peer}
use Rattle.gs_rules.specs.Rounds.{EndRound, Todo, beats_in, decays_in, obey}
use Rattle.gs_peer.specs.Inboxes.{all_heard, in_next_phase}
use Rattle.gs_player.specs.Playing.{Runs, behind_heard, clock_at, own_lines}
use Rattle.gs_player.proofs.Runs.{runs_then, told_runs}
use Rattle.gs_peer.proofs.player.Player.play.Goals as goal

pub returns : goal.returns
returns c =
    let m = exact seeded_word seeded_after in
    let now = c.args.now in
    let lines_now = c.args.assignment.now.lines in
    let clock = clock_at c.args.assignment.now.phase_ms now in
    let p = c.args.self.now in
    let r = c.args.round in
    let heard : Runs m now (all_heard p.inboxes.items) p.router p.words c.hear.new.router c.hear.new.words [] = search rules in
    let (more, noted, followed) = c.in_ok-follow_all.ensures in
    let follows : Runs m now (own_lines r lines_now) c.hear.new.router c.hear.new.words c.follow_all.new.router c.follow_all.new.words more =
    subst (λ (xs : List (ℕ × Line)). Runs m now (map obey xs) c.hear.new.router c.hear.new.words c.follow_all.new.router c.follow_all.new.words more) c.at.ensures followed in
    let lines = own_lines r lines_now in
    let due = decays_in p.router.peer r clock ++ beats_in p.router.peer r clock in
    let same : c.follow_all.new.router.peer ≡ p.router.peer = follows.peer ∙ heard.peer in
    let kept : Runs m now due c.follow_all.new.router c.follow_all.new.words c.decay_and_beat.new.router c.decay_and_beat.new.words [] =
    subst (λ (q : Peer). Runs m now (decays_in q r clock ++ beats_in q r clock) c.follow_all.new.router c.follow_all.new.words c.decay_and_beat.new.router c.decay_and_beat.new.words []) same c.in_ok-decay_and_beat.ensures in
    let ends = told_runs m now (EndRound r) (Some (RoundEnd r)) c.decay_and_beat.new.router c.end_round.new.self c.decay_and_beat.new.words c.end_round.new.words c.end_round.result c.in_ok-never_refused.ensures refl refl kept.runs_on c.end_round.ensures in
    let timed = runs_then m now due (EndRound r ∷ []) c.follow_all.new.router c.decay_and_beat.new.router c.end_round.new.self c.follow_all.new.words c.decay_and_beat.new.words c.end_round.new.words [] [] kept ends in
    let last = subst (λ (todos : List Todo). Runs m now todos c.follow_all.new.router c.follow_all.new.words c.end_round.new.self c.end_round.new.words []) (append_assoc (decays_in p.router.peer r clock) (beats_in p.router.peer r clock) (EndRound r ∷ [])) timed in
    let rest = runs_then m now lines (decays_in p.router.peer r clock ++ (beats_in p.router.peer r clock ++ EndRound r ∷ [])) c.hear.new.router c.follow_all.new.router c.end_round.new.self c.hear.new.words c.follow_all.new.words c.end_round.new.words more [] follows last in
    let all = runs_then m now (all_heard p.inboxes.items) (behind_heard p.router.peer r clock lines_now) p.router c.hear.new.router c.end_round.new.self p.words c.hear.new.words c.end_round.new.words [] (more ++ []) heard rest in
    let len : length c.hear.new.inboxes ≡ vec_len p.inboxes = search rules in
    record {
      more = more;
      refused = noted;
      runs = subst (λ (xs : List RefusedLine). Runs m now (all_heard p.inboxes.items ++ behind_heard p.router.peer r clock lines_now) p.router p.words c.end_round.new.self c.end_round.new.words xs) (append-nil more) all;
      turns = with_items_is p.inboxes c.hear.new.inboxes len ∙ c.in_ok-hear.ensures.in_next_phase ∙ ap (map in_next_phase) c.deref_mut.ensures.value;
    }
