use Rattle.std.proofs.Common.{◌≡◌, ◌∙◌, ◌++◌, ◌∷◌, [], true, false, Bool, if◌then◌else◌, List, ap, sym}
use Rattle.gs_reach.specs.Chosen.{is_chosen}
use Rattle.gs_figure_sheets.specs.declared.figures.PeerFigures.{PeerFigures}
use Rattle.gs_figure_sheets.specs.declared.standing.Standing.{Standing}
use Rattle.gs_figure_sheets.specs.Lines.{peer_figures}
use Rattle.gs_figure_sheets.proofs.Standings.{kept_more}
use Rattle.gs_figure_sheets.proofs.lines.figures_of_peers.Goals.{then-contains+in_ok-push, else-contains}
use Rattle.gs_figure_sheets.proofs.lines.figures_of_peers.Goals as goal

pub loop-peer-preserved : goal.loop-peer-preserved
loop-peer-preserved c =
    let known = c.args.known.now in
    let among = c.args.among.now in
    let peers = c.args.peers.now in
    let x = c.peer-item.result in
    let old = c.loop-peer.rows.items in
    let row : PeerFigures = peer_figures known among peers x in
    let choose : Bool → List PeerFigures = λ b. if b then old ++ row ∷ [] else old in
    kept_more (λ (peer : Standing). is_chosen among peer.peer) (peer_figures known among peers) peers c.loop-peer.peer-index x old c.if-contains.rows.items c.loop-peer-test.true c.peer-item.is c.loop-peer.invariant
    (elim c.if-contains.branch [
      | then-contains+in_ok-push w ↦
          let counts : is_chosen among x.peer ≡ true = sym c.contains.ensures ∙ w.if-contains.true in
          ap (λ rows. rows.items) w.rows-is ∙ w.in_ok-push.ensures.items
          ∙ ap (λ r. old ++ r ∷ []) (w.peer_figures.ensures among peers (w.received_in-received.ensures ∙ c.in_ok-received.ensures x.peer))
          ∙ sym (ap choose counts)
      | else-contains w ↦
          let not_so : is_chosen among x.peer ≡ false = sym c.contains.ensures ∙ w.if-contains.false in
          ap (λ rows. rows.items) w.rows-is ∙ sym (ap choose not_so)
    ])
