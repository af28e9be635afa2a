use Rattle.std.proofs.Common.{◌∙◌, ◌*◌, ◌≤◌, ℕ, List, length, map, sym, ap, subst, arith}
use Rattle.std.specs.Arc.{arc_value}
use Rattle.std.specs.List.{AllByRecursion, range_with_len}
use Rattle.std.proofs.lemmas.List.Elements.{All-from_recursion}
use Rattle.gs_plan.specs.declared.plan.Dial.{Dial}
use Rattle.gs_net.specs.Dials.{AreWired, IsExchanged}
use Rattle.gs_seats.specs.Rounds.{IsRun, numbers, peer_no}
use Rattle.gs_seats.proofs.FewDials.{links_fit}
use Rattle.gs_seats.proofs.ByNumber.{as_long, as_many}
use Rattle.gs_net.proofs.Gathered.{can_all, ends_as_many, ends_left, gave, lives_each, same_joints, stops_all}
use Rattle.gs_net.proofs.Together.{together}
use Rattle.gs_net.proofs.Wired.{dials_join, ends_apart, ends_closed, ends_exchanged, usable}
use Rattle.gs_net.proofs.Wiring.{still_wired}
use Rattle.gs_net.proofs.run.run_with.Goals as goal

pub wire_all-requires : goal.wire_all-requires
wire_all-requires g c =
    record {
      capacity = (c.requires.some_capacity, c.requires.capacity);
      named = rw (c.as_slice.ensures, c.len.ensures) (dials_join c.args.plan.now c.requires);
    }

pub tasks-requires : goal.tasks-requires
tasks-requires g c =
    let plan = c.args.plan.now in
    let wired = subst (λ (dials : List Dial). AreWired dials c.in_ok-ends.ends.items) c.as_slice.ensures c.in_ok-ends.ensures.wired in
    record {
      range = c.requires;
      parts = record {
        lists_of_lines = c.in_ok-lines.ensures.count;
        own = c.in_ok-lines.ensures.own;
        lists_of_ends = c.in_ok-ends.ensures.count ∙ c.len.ensures;
        usable = λ p within. usable plan c.in_ok-ends.ends.items p c.requires wired c.in_ok-ends.ensures.sized c.in_ok-ends.ensures.fresh;
      };
    }

pub drive-requires-clause-ready : goal.drive-requires-clause-ready
drive-requires-clause-ready g c κs lives = All-from_recursion _ _ (can_all c.args.plan.now (arc_value c.in_ok-stop.stop) c.in_ok-ends.ends.items c.in_ok-tasks.tasks.items c.in_ok-tasks.ensures)

pub drive-requires-clause-flags : goal.drive-requires-clause-flags
drive-requires-clause-flags g c κs lives = stops_all c.args.plan.now (arc_value c.in_ok-stop.stop) c.in_ok-ends.ends.items c.in_ok-tasks.tasks.items c.in_ok-tasks.ensures

pub lives_of-requires : goal.lives_of-requires
lives_of-requires g c =
    let most : length c.args.plan.now.peers ≤ 4096 = c.requires.peers in
    omega (arith, as_long _ c.in_ok-tasks.tasks.items c.in_ok-ran.ran.outputs.items c.in_ok-ran.ensures.given, as_many _ c.args.plan.now c.in_ok-tasks.tasks.items c.in_ok-tasks.ensures, most)

-- ---- once the tasks have given their lives

wired_after : (g : _) (c : goal.After-as_slice-2 g) → AreWired c.args.plan.now.dials c.in_ok-lives.lives.ends.items
wired_after g c =
    let plan = c.args.plan.now in
    let ends = c.in_ok-ends.ends.items in
    let (givens, are, apart) = c.in_ok-lives.ensures.lives in
    let all = gave plan (arc_value c.in_ok-stop.stop) ends c.in_ok-tasks.tasks.items c.in_ok-ran.ran.outputs.items givens c.in_ok-tasks.ensures c.in_ok-ran.ensures.given are in
    still_wired plan.dials ends c.in_ok-lives.lives.ends.items (same_joints plan ends givens _ (c.in_ok-ends.ensures.count ∙ c.len.ensures) all apart) (subst (λ (dials : List Dial). AreWired dials ends) c.as_slice.ensures c.in_ok-ends.ensures.wired)

pub settle_all-settled-requires-clause-named : goal.settle_all-settled-requires-clause-named
settle_all-settled-requires-clause-named g c =
    let plan = c.args.plan.now in
    let ends = c.in_ok-ends.ends.items in
    let (givens, are, apart) = c.in_ok-lives.ensures.lives in
    let all = gave plan (arc_value c.in_ok-stop.stop) ends c.in_ok-tasks.tasks.items c.in_ok-ran.ran.outputs.items givens c.in_ok-tasks.ensures c.in_ok-ran.ensures.given are in
    rw (c.as_slice-2.ensures, ends_as_many givens _ apart, as_many _ plan givens all) (dials_join plan c.requires)

pub settle_all-settled-requires-clause-wired : goal.settle_all-settled-requires-clause-wired
settle_all-settled-requires-clause-wired g c = subst (λ (dials : List Dial). AreWired dials c.in_ok-lives.lives.ends.items) (sym c.as_slice-2.ensures) (wired_after g c)

pub settle_all-settled-requires-clause-apart : goal.settle_all-settled-requires-clause-apart
settle_all-settled-requires-clause-apart g c p = ends_apart c.args.plan.now c.in_ok-lives.lives.ends.items p c.requires (wired_after g c)

pub settle_all-settled-requires-clause-closed : goal.settle_all-settled-requires-clause-closed
settle_all-settled-requires-clause-closed g c =
    let plan = c.args.plan.now in
    let ends = c.in_ok-ends.ends.items in
    let (givens, are, apart) = c.in_ok-lives.ensures.lives in
    let all = gave plan (arc_value c.in_ok-stop.stop) ends c.in_ok-tasks.tasks.items c.in_ok-ran.ran.outputs.items givens c.in_ok-tasks.ensures c.in_ok-ran.ensures.given are in
    ends_closed plan givens c.in_ok-lives.lives.ends.items c.requires (lives_each plan ends (numbers plan) givens all) (ends_left givens _ apart) (wired_after g c)

pub settle_all-settled-requires-clause-few : goal.settle_all-settled-requires-clause-few
settle_all-settled-requires-clause-few g c = rw c.as_slice-2.ensures (links_fit c.args.plan.now c.requires)

pub returns : goal.returns
returns g c =
    let plan = c.args.plan.now in
    let ends = c.in_ok-ends.ends.items in
    let (givens, are, apart) = c.in_ok-lives.ensures.lives in
    let all = gave plan (arc_value c.in_ok-stop.stop) ends c.in_ok-tasks.tasks.items c.in_ok-ran.ran.outputs.items givens c.in_ok-tasks.ensures c.in_ok-ran.ensures.given are in
    let exchanged = ends_exchanged givens c.in_ok-lives.lives.ends.items plan.dials (ends_left givens _ apart) (subst (λ (dials : List Dial). AllByRecursion (IsExchanged c.in_ok-lives.lives.ends.items) dials) c.as_slice-2.ensures c.settle_all-settled.ensures.exchanged) in
    record {
      numbers_are = apart.numbers ∙ ap (λ (n : ℕ). map peer_no (range_with_len 0 n)) (as_many _ plan givens all);
      run = subst (IsRun plan) (sym apart.bare_lives) (together plan givens (lives_each plan ends (numbers plan) givens all) exchanged);
      settled = c.settle_all-settled.ensures.settled ∙ ap (λ (dials : List Dial). 2 * length dials) c.as_slice-2.ensures;
    }
