use Rattle.std.proofs.Common.{ap, ◌++◌, append_assoc, subst}
use Rattle.std.proofs.lemmas.Result.{on_ok_weaker}
use Rattle.gs_base.specs.declared.names.Millis.{Millis}
use Rattle.gs_seats.specs.Rounds.{peer_in}
use Rattle.gs_opinions.specs.Noting.{Shows}
use Rattle.gs_opinions.specs.Opinions.{opinions_after, opinions_before}
use Rattle.gs_opinions.proofs.traces.Judge.see_one.Goals as goal

pub see-requires : goal.see-requires
see-requires c = (peer_in c.requires.0 c.requires.1, c.requires.2, c.requires.3.watches, c.requires.4)

pub returns : goal.returns
returns c =
    let e = c.args.entry.now in
    on_ok_weaker
    c.note_after.result
    (λ told plan p L seen low. (
      record {
        number = seen.number;
        neighbours = seen.neighbours;
        watches = c.in_ok-fallen.ensures.watches (peer_in plan p) L seen.watches low;
        last = ap (λ (at : Millis). at.0) c.at-self.ensures;
        order = (low, seen.order);
      },
      λ groups os was.
          let before = opinions_before plan p e L in
          subst (Shows plan groups c.note_after.new.tables) (append_assoc os before (opinions_after plan p e L))
          (told plan p L (record {
            number = seen.number;
            neighbours = seen.neighbours;
            watches = c.in_ok-fallen.ensures.watches (peer_in plan p) L seen.watches low;
            last = ap (λ (at : Millis). at.0) c.at-self.ensures;
            order = (low, seen.order);
          }) groups (os ++ before) (c.in_ok-note_before.ensures plan p L seen groups os was)),
    ))
    c.note_after.ensures
