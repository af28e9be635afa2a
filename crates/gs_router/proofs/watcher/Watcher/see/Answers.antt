use Rattle.std.proofs.Common.{arith, ◌≤◌, ◌∙◌, ap, ap₂, subst, sym}
use Rattle.gs_base.specs.declared.names.Millis.{Millis}
use Rattle.gs_rules.specs.declared.event.Event.{Event}
use Rattle.gs_rules.specs.FellAway.{fell_away}
use Rattle.gs_rules.specs.Peers.{Peer}
use Rattle.gs_rules.specs.Tables.{last_moment}
use Rattle.gs_router.proofs.Beating.{beats_are_few}
use Rattle.gs_router.proofs.Standing.{counted_decays_are_few}
use Rattle.gs_router.proofs.Watching.{known_by_watcher}
use Rattle.gs_router.proofs.watcher.Watcher.see.Goals as goal

pub note-requires-clause-time : goal.note-requires-clause-time
note-requires-clause-time c = let (p, L, watches, past) = c.requires in omega (arith, watches.agrees.sightings.past, past)

pub note-requires-clause-few : goal.note-requires-clause-few
note-requires-clause-few c =
    let (p, L, watches, past) = c.requires in
    let w = c.args.self.now in
    let few = counted_decays_are_few p w.known.tables.standings L watches.scores in
    omega (arith, few, watches.counted, c.if-self-ge-MOST_ENTRIES.false)

pub note-requires-clause-beats : goal.note-requires-clause-beats
note-requires-clause-beats c =
    let (p, L, watches, past) = c.requires in
    let w = c.args.self.now in
    let few = beats_are_few w.known.tables.beats L watches.agrees.beats in
    omega (arith, few, watches.counted, c.if-self-ge-MOST_ENTRIES.false)

pub returns-clause-fallen : goal.returns-clause-fallen
returns-clause-fallen c = λ p L watches past.
    let w = c.args.self.now in
    let knows = known_by_watcher w p L c.at.result.0 watches (subst (λ (at : Millis). last_moment L ≤ at.0) (sym c.at.ensures) past) in
    c.in_ok-fallen.ensures L knows
    ∙ ap (λ (q : Peer). fell_away q L c.at.result c.event.result.now) watches.peer
    ∙ ap₂ (λ (at : Millis) (event : Event). fell_away p L at event) c.at.ensures c.event.ensures

pub returns-clause-watches : goal.returns-clause-watches
returns-clause-watches c = λ p L watches past. record {
  peer = watches.peer;
  counted = omega (arith, watches.counted);
  agrees = c.in_ok-note.ensures.agrees L watches.agrees;
  scores = c.in_ok-note.ensures.scores p L watches.scores;
  made = c.in_ok-note.ensures.made p watches.made;
  explicit = watches.explicit;
}
