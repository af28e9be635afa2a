use Rattle.std.proofs.Common.{◌≡◌, Bool, true, sym, subst}
use Rattle.std.specs.Prelude.{OnOk}
use Rattle.std.proofs.lemmas.Bool.{not-false}
use Rattle.gs_base.specs.Names.{same_peer}
use Rattle.gs_direct.specs.Outlets.{Closes}
use Rattle.gs_direct.proofs.outlet.Outlet.close_lost.Goals as goal

pub returns : goal.returns
returns c =
    let mine : same_peer c.args.lost c.args.self.now.to ≡ true = not-false (same_peer c.args.lost c.args.self.now.to) (sym c.if-ne.ensures) in
    subst (λ (b : Bool). OnOk c.close.result (Closes b c.args.self.now c.close.new.self)) (sym mine) c.close.ensures
