use Rattle.std.proofs.Common.{◌≡◌, ◌+◌, ◌++◌, List, [], ◌∷◌, take, drop, sym, ap, subst, arith, ◌∙◌}
use Rattle.std.proofs.lemmas.List.{drop_more, take_all, take_more}
use Rattle.gs_base.specs.declared.names.PeerNo.{PeerNo}
use Rattle.gs_base.specs.declared.rpc.Rpc.{Rpc}
use Rattle.gs_base.specs.Names.{same_peer}
use Rattle.gs_wire.specs.Codec.{codec}
use Rattle.gs_rules.specs.Modes.{sent_to}
use Rattle.gs_rules.specs.Saying.{Outgoing, sending_all}
use Rattle.gs_direct.specs.declared.outlet.Outlet.{Outlet}
use Rattle.gs_direct.specs.Outlets.{Follows, SendsWritten}
use Rattle.gs_direct.proofs.Telling.{sends_mine, sends_other}
use Rattle.gs_direct.proofs.outlet.Outlet.send_all.Goals as goal
use Rattle.gs_direct.proofs.outlet.Outlet.send_all.Goals.{then-eq+in_ok-send, else-eq}

pub loop-to-preserved : goal.loop-to-preserved
loop-to-preserved c =
    let sends = c.args.sends.now in
    let n = c.loop-to.to-index in
    let x = c.loop-to-item.result in
    let old = c.args.self.now in
    let mid = c.loop-to.self in
    let more : take (n + 1) sends ≡ take n sends ++ x ∷ [] = take_more sends n x c.loop-to-test.true ∙ ap (λ (y : PeerNo × Rpc). take n sends ++ y ∷ []) (sym c.loop-to-item.is) in
    let left : SendsWritten (x ∷ drop (n + 1) sends) = subst SendsWritten (drop_more sends n x c.loop-to-test.true ∙ ap (λ (y : PeerNo × Rpc). y ∷ drop (n + 1) sends) (sym c.loop-to-item.is)) c.loop-to.invariant.written in
    let to : same_peer x.0 mid.to ≡ same_peer x.0 old.to = ap (same_peer x.0) c.loop-to.invariant.sent.to in
    let sent : Follows (λ (goes : Outgoing). sending_all codec goes (sent_to old.to (take n sends ++ x ∷ []))) old c.if-eq.self =
    elim c.if-eq.branch [
      | then-eq+in_ok-send w ↦ subst (λ (o : Outlet). Follows (λ (goes : Outgoing). sending_all codec goes (sent_to old.to (take n sends ++ x ∷ []))) old o) (sym w.self-is)
          (sends_mine (take n sends) x old mid w.send.new.self (sym to ∙ sym c.eq.ensures ∙ w.if-eq.true) c.loop-to.invariant.sent w.in_ok-send.ensures)
      | else-eq w ↦ subst (λ (o : Outlet). Follows (λ (goes : Outgoing). sending_all codec goes (sent_to old.to (take n sends ++ x ∷ []))) old o) (sym w.self-is)
          (sends_other (take n sends) x old mid (sym to ∙ sym c.eq.ensures ∙ w.if-eq.false) c.loop-to.invariant.sent)
    ] in
    record {
      written = left.1;
      sent = subst (λ (xs : List (PeerNo × Rpc)). Follows (λ (goes : Outgoing). sending_all codec goes (sent_to old.to xs)) old c.if-eq.self) (sym more) sent;
    }

pub returns : goal.returns
returns c =
    subst (λ (xs : List (PeerNo × Rpc)). Follows (λ (goes : Outgoing). sending_all codec goes (sent_to c.args.self.now.to xs)) c.args.self.now c.loop-to.self) (take_all c.loop-to.to-index c.args.sends.now (omega arith)) c.loop-to.invariant.sent
