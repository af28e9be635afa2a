use Rattle.std.proofs.Common.{◌+◌, ◌∙◌, ◌∷◌, List, ap, drop, refl, reverse, sym}
use Rattle.gs_rules.specs.declared.trace.Entry.{Entry}
use Rattle.gs_score.proofs.Sums.{drop_first}
use Rattle.gs_router.proofs.Following.{last_is_past, seen_more, seen_within}
use Rattle.gs_router.proofs.follower.Follower.see.Goals as goal

pub see-requires : goal.see-requires
see-requires c =
    let v = c.requires.follows.0 in
    let follows = c.requires.follows.1 in
    (v.peer, v.before, follows.watches, last_is_past c.args.self.now v c.args.entry.now follows c.requires.next)

pub returns : goal.returns
returns c = λ v follows.
    let f = c.args.self.now in
    let e : Entry = c.args.entry.now in
    let es : List Entry = reverse f.trace.now in
    let past = last_is_past f v e follows c.requires.next in
    record {
      rest = drop (f.place + 1) es;
      next = follows.left ∙ drop_first es f.place e (sym c.requires.next);
      fallen = c.in_ok-fallen.ensures.fallen v.peer v.before follows.watches past;
      follows = record {
        watches = c.in_ok-fallen.ensures.watches v.peer v.before follows.watches past;
        before = ap (λ (L : List Entry). e ∷ L) follows.before ∙ seen_more f.place es e c.requires.next;
        left = refl;
        within = seen_within f.place f e c.requires.next;
        order = follows.order;
      };
    }
