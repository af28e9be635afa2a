use Rattle.std.proofs.Common.{◌<◌, arith, length, refl, subst}
use Rattle.std.proofs.lemmas.Result.{on_ok_weaker}
use Rattle.gs_opinions.specs.Judging.{opinions_in}
use Rattle.gs_opinions.specs.Noting.{Shows}
use Rattle.gs_opinions.proofs.Judged.{own_trace, same_opinions, shows_after}
use Rattle.gs_opinions.proofs.Judges.{judge_at, judges_after, no_judge}
use Rattle.gs_opinions.proofs.judging.Judging.see.Goals as goal

pub see_from-requires : goal.see_from-requires
see_from-requires c =
    let within = c.in-Some.ensures.variant.0 refl in
    let low : c.from.result < length c.args.self.now.judges.items = omega (arith, within, c.args.self.now.judges.ok) in
    let plan = c.requires.0 in
    let of = c.requires.1 in
    let before = c.requires.3 in (
      plan,
      of,
      c.args.peer,
      before,
      (judge_at plan of c.args.peer before c.args.self.now.judges.items c.requires.4.judges c.from.result c.from.ensures c.in-Some.judge.now low c.in-Some.ensures.value).1,
      c.requires.5,
    )

pub returns-in-Some : goal.returns-in-Some
returns-in-Some c =
    let within = c.in-Some.ensures.variant.0 refl in
    let low : c.from.result < length c.args.self.now.judges.items = omega (arith, within, c.args.self.now.judges.ok) in
    on_ok_weaker
    c.see_from.result
    (λ told plan of groups before after is was.
    let es = c.args.entries.now in
    let p = c.args.peer in
    let judges = c.args.self.now.judges.items in
    let k = c.from.result in
    let place = judge_at plan of p before judges was.judges k c.from.ensures c.in-Some.judge.now low c.in-Some.ensures.value in
    let now = told plan of p before after (own_trace plan of p es before after is) place.1 in
    record {
      judges = judges_after plan of p es before after is judges was.judges k c.from.ensures c.see_from.new.judge now.0;
      tables = shows_after plan of p es before after is groups c.see_from.new.tables place.0 (now.1 groups (opinions_in plan of before) was.tables);
    })
    c.see_from.ensures

pub returns-in-None : goal.returns-in-None
returns-in-None c = λ plan of groups before after is was.
    let es = c.args.entries.now in
    let p = c.args.peer in
    let judges = c.args.self.now.judges.items in
    let out = no_judge plan of p es before after is judges was.judges c.from.result c.from.ensures (λ low. c.in-None.ensures.variant.1 (omega (arith, low, c.args.self.now.judges.ok))) in
    record {
      judges = out.1;
      tables = subst (Shows plan groups c.args.self.now.tables) (same_opinions plan of p es before after is out.0) was.tables;
    }
