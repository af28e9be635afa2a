use Rattle.std.proofs.Common.{◌≡◌, ◌∙◌, ℕ, ◌++◌, [], List, length, map, reverse, rules, sym, ap, vec_len, subst, subst₂}
use Rattle.std.specs.List.{AllZip}
use Rattle.std.proofs.lemmas.List.{with_items_is}
use Rattle.gs_plan.specs.declared.plan.Line.{Line}
use Rattle.gs_params.specs.Seeding.{seeded_after, seeded_word}
use Rattle.gs_rules.specs.Modes.{exact}
use Rattle.gs_rules.specs.Rounds.{beats_in, decays_in, obey}
use Rattle.gs_router.specs.Log.{this_round}
use Rattle.gs_player.specs.Playing.{Runs, behind_heard, clock_at, own_lines}
use Rattle.gs_direct.specs.declared.outlet.Outlet.{Outlet}
use Rattle.gs_direct.specs.declared.peer.Peer.{Peer}
use Rattle.gs_direct.specs.Letters.{all_heard}
use Rattle.gs_direct.specs.Outlets.{SaysAll}
use Rattle.gs_direct.proofs.Heard.{if_told, round_runs}
use Rattle.gs_direct.proofs.peer.Peer.play.Goals as goal

pub returns : goal.returns
returns g c =
    let m = exact seeded_word seeded_after in
    let now = c.args.now in
    let r = c.args.round in
    let old = c.args.self.now in
    let clock = clock_at old.phase_ms now in
    let here = c.hear.new.self in
    let others = c.in_ok-hear.ensures.others in
    let (more, noted, followed) = c.in_ok-follow_all.ensures in
    let at_all : c.at.result.now ≡ _ = c.at.ensures in
    let follows : Runs m now (own_lines r here.agenda) here.router here.words c.follow_all.new.router c.follow_all.new.words more =
    subst (λ (xs : List (ℕ × Line)). Runs m now (map obey xs) here.router here.words c.follow_all.new.router c.follow_all.new.words more) at_all followed in
    let phase : here.phase_ms ≡ old.phase_ms = ap (λ (x : Peer _). x.phase_ms) others in
    let b = c.follow_all.new.router in
    let due = subst (λ (k : ℕ). Runs m now (decays_in b.peer r (clock_at k now) ++ beats_in b.peer r (clock_at k now)) b c.follow_all.new.words c.decay_and_beat.new.router c.decay_and_beat.new.words []) phase c.in_ok-decay_and_beat.ensures in
    let runs = round_runs now clock r (all_heard c.args.letters.items) here.agenda old.router here.router c.follow_all.new.router c.decay_and_beat.new.router c.end_round.new.self old.words here.words c.follow_all.new.words c.decay_and_beat.new.words c.end_round.new.words more c.end_round.result c.in_ok-hear.ensures.runs follows due c.in_ok-never_refused.ensures c.end_round.ensures in
    let len : length c.tell_round.new.outlets ≡ vec_len here.outlets = search rules in
    let agenda : here.agenda ≡ old.agenda = ap (λ (x : Peer _). x.agenda) others in
    let before : c.deref_mut.result.now ≡ old.outlets.items = c.deref_mut.ensures.value ∙ ap (λ (x : Peer _). x.outlets.items) others in
    if_told c.tell_round.result _ _ (λ tells. record {
      number = ap (λ (x : Peer _). x.number) others;
      agenda = agenda;
      phase = ap (λ (x : Peer _). x.phase_ms) others;
      more = more;
      refused = noted ∙ ap (λ (x : Peer _). x.refused.items ++ more) others;
      runs = subst (λ (lines : List (ℕ × Line)). Runs m now (all_heard c.args.letters.items ++ behind_heard old.router.peer r clock lines) old.router old.words c.end_round.new.self c.end_round.new.words more) agenda runs;
      tells = subst₂ (λ (xs ys : List Outlet). AllZip (SaysAll (reverse (this_round c.end_round.new.self.trace))) xs ys) before (sym (with_items_is here.outlets c.tell_round.new.outlets len)) tells;
    }) c.tell_round.ensures
