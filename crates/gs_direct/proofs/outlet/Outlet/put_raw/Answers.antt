use Rattle.std.proofs.Common.{◌≡◌, true, sym}
use Rattle.std.proofs.lemmas.Bool.{not-false}
use Rattle.gs_base.specs.Names.{same_peer}
use Rattle.gs_direct.proofs.Telling.{raw_put}
use Rattle.gs_direct.proofs.outlet.Outlet.put_raw.Goals as goal

pub returns : goal.returns
returns c =
    let mine : same_peer c.args.to c.args.self.now.to ≡ true = not-false (same_peer c.args.to c.args.self.now.to) (sym c.if-ne.ensures) in
    raw_put c.args.to c.as_slice.result.now c.args.bytes.now c.args.self.now c.put_out.new.self c.read.new.self mine c.as_slice.ensures c.in_ok-put_out.ensures.follows c.in_ok-read.ensures
