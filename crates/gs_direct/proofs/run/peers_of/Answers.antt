use Rattle.std.proofs.Common.{rules, ◌≡◌, ℕ, length, List, map, sym, subst, subst₂, ◌∙◌, arith}
use Rattle.std.specs.List.{range_with_len, AllZip}
use Rattle.gs_base.specs.declared.names.PeerNo.{PeerNo}
use Rattle.gs_seats.specs.Rounds.{peer_no}
use Rattle.gs_seats.proofs.EachPeer.{numbers_more, zip_more}
use Rattle.gs_direct.specs.declared.peer.Peer.{Peer}
use Rattle.gs_direct.specs.Peers.{IsNewPeer}
use Rattle.gs_direct.proofs.Loops.{above_other}
use Rattle.gs_direct.proofs.run.peers_of.Goals as goal

pub loop-number-preserved : goal.loop-number-preserved
loop-number-preserved g c =
    let plan = c.args.plan.now in
    let n = c.loop-number.number in
    let h = c.loop-number.invariant in
    record {
      new = subst₂ (λ (ps : List PeerNo) (peers : List (Peer _)). AllZip (IsNewPeer plan) ps peers) (sym (numbers_more n)) (sym c.in_ok-push.ensures.items)
          (zip_more (IsNewPeer plan) (map peer_no (range_with_len 0 n)) c.loop-number.peers.items (peer_no n) c.in_ok-new.field-0 h.new c.in_ok-new.ensures);
      lists = c.take_list-own.ensures.count ∙ h.lists;
      own = λ k above below. c.take_list-own.ensures.others k (above_other n k above) ∙ h.own k (omega (arith, above)) below;
    }

pub returns : goal.returns
returns g c =
    let plan = c.args.plan.now in
    let ends : c.loop-number.number ≡ length plan.peers = search rules in
    subst (λ (n : ℕ). AllZip (IsNewPeer plan) (map peer_no (range_with_len 0 n)) c.loop-number.peers.items) ends c.loop-number.invariant.new
