use Rattle.std.proofs.Common.{◌∙◌, ap}
use Rattle.gs_base.specs.declared.names.Millis.{Millis}
use Rattle.gs_seats.specs.Rounds.{peer_in}
use Rattle.gs_counts.proofs.Reading.{in_order, shown_one}
use Rattle.gs_counts.proofs.traces.PeerCounter.see_one.Goals as goal

pub see-requires : goal.see-requires
see-requires c =
    let plan = c.requires.0 in
    let p = c.requires.1 in
    let L = c.requires.2 in
    (peer_in plan p, L, c.requires.3.watches, c.requires.4)

pub returns-clause-counter : goal.returns-clause-counter
returns-clause-counter c = λ plan p L seen.
    let order = in_order c.requires.3 seen c.requires.4 in
    record {
      known = c.in_ok-note_entry.ensures.notes plan p L seen.known;
      watches = c.in_ok-fallen.ensures.watches (peer_in plan p) L seen.watches order;
      last = ap (λ (at : Millis). at.0) c.at-self.ensures;
    }

pub returns-clause-tables : goal.returns-clause-tables
returns-clause-tables c = λ plan p L seen.
    let order = in_order c.requires.3 seen c.requires.4 in
    let fell = c.in_ok-fallen.ensures.fallen (peer_in plan p) L seen.watches order in
    shown_one plan p L c.args.entry.now (λ hs sizes was. c.in_ok-note_entry.ensures.tables plan p L hs sizes seen.known (c.deref.ensures.value ∙ fell) was)
