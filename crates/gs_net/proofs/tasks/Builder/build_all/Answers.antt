use Rattle.std.proofs.Common.{◌≡◌, ◌<◌, ◌∙◌, ◌+◌, ◌∷◌, [], ℕ, List, length, length-append, ap, sym, subst, subst₂, arith, rules}
use Rattle.std.specs.Arc.{arc_value}
use Rattle.std.specs.List.{AllZip}
use Rattle.gs_base.specs.declared.names.PeerNo.{PeerNo}
use Rattle.gs_ends.specs.Ends.{Joint}
use Rattle.gs_ends.specs.Pairs.{joints_of, pair_ends}
use Rattle.gs_seats.specs.Rounds.{peer_no}
use Rattle.gs_net.specs.Tasks.{AreUsable, IsTask, IsTaskFor, first_numbers}
use Rattle.gs_seats.proofs.EachPeer.{numbers_more, zip_more}
use Rattle.gs_net.proofs.tasks.Builder.build_all.Goals as goal

pub task-requires : goal.task-requires
task-requires g c =
    let n = c.loop-number.number in
    let h = c.loop-number.invariant in
    let below : n < length c.args.self.now.plan.now.peers = search rules in
    record {
      range = c.requires.range;
      own = c.take_list-own_lines.ensures.taken ∙ h.own_lines n (omega arith) ∙ c.requires.parts.own (peer_no n) below;
      usable = subst (AreUsable c.args.self.now.plan.now (peer_no n)) (sym (c.take_list-own_ends.ensures.taken ∙ h.own_ends n (omega arith))) (c.requires.parts.usable (peer_no n) below);
    }

pub loop-number-preserved : goal.loop-number-preserved
loop-number-preserved g c =
    let n = c.loop-number.number in
    let h = c.loop-number.invariant in
    let plan = c.args.self.now.plan.now in
    let flag = arc_value c.args.self.now.stop.now in
    let ends_are = c.take_list-own_ends.ensures.taken ∙ h.own_ends n (omega arith) in
    let longer = ap length c.in-Ok-push.ensures.items ∙ length-append c.loop-number.tasks.items (c.in-Ok.task ∷ []) in
    let before = subst (λ (k : ℕ). AllZip (IsTaskFor pair_ends plan flag c.args.ends.items) (first_numbers k) c.loop-number.tasks.items) h.count h.built in
    let count : length c.push.new.self.items ≡ n + 1 = omega (arith, longer, h.count) in
    record {
      count = count;
      built = subst₂ (λ (ps : List PeerNo) (tasks : List _). AllZip (IsTaskFor pair_ends plan flag c.args.ends.items) ps tasks) (sym (ap first_numbers count ∙ numbers_more n)) (sym c.in-Ok-push.ensures.items)
          (zip_more (IsTaskFor pair_ends plan flag c.args.ends.items) (first_numbers n) c.loop-number.tasks.items (peer_no n) c.in-Ok.task before (subst (λ (joints : List Joint). IsTask pair_ends plan (peer_no n) flag joints c.in-Ok.task) (ap joints_of ends_are) c.in-Ok.ensures));
      lines = c.take_list-own_lines.ensures.count ∙ h.lines;
      own_lines = λ k after. c.take_list-own_lines.ensures.others k (λ e. absurd (omega (arith, after, e))) ∙ h.own_lines k (omega (arith, after));
      ends = c.take_list-own_ends.ensures.count ∙ h.ends;
      own_ends = λ k after. c.take_list-own_ends.ensures.others k (λ e. absurd (omega (arith, after, e))) ∙ h.own_ends k (omega (arith, after));
    }

pub returns-in_default-push-clause-built : goal.returns-in_default-push-clause-built
returns-in_default-push-clause-built g c =
    subst (λ (tasks : List _). AllZip (IsTaskFor pair_ends c.args.self.now.plan.now (arc_value c.args.self.now.stop.now) c.args.ends.items) (first_numbers (length tasks)) tasks) (sym c.in_default-push.ensures.items) c.loop-number.invariant.built
