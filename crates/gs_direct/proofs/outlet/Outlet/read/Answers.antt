use Rattle.std.proofs.Common.{Option, Some, map, refl, sym, ap, subst, ◌∙◌}
use Rattle.std.specs.Prelude.{unwrap_or}
use Rattle.gs_base.specs.Tokens.{Byte}
use Rattle.gs_wire.specs.Stream.{Holding}
use Rattle.gs_rules.specs.Saying.{Outgoing, saying}
use Rattle.gs_direct.specs.declared.outlet.Outlet.{Outlet}
use Rattle.gs_direct.specs.Outlets.{Follows, ReadsOn}
use Rattle.gs_direct.proofs.Carrying.{reads_bytes}
use Rattle.gs_direct.proofs.Telling.{fresh, on_ok}
use Rattle.gs_direct.proofs.outlet.Outlet.read.Goals as goal

pub returns-in-Some : goal.returns-in-Some
returns-in-Some c =
    let old = c.args.self.now in
    let bytes = c.args.bytes.now in
    let new : Outlet = record old { reader = Some c.read.new.self; rpcs = c.read.new.rpcs } in
    on_ok c.read.result (ReadsOn c.in-Some.reader bytes c.read.new.self old.rpcs.items c.read.new.rpcs.items) (Follows (λ (goes : Outgoing). saying goes (map Byte bytes)) old new)
    (λ reads. reads_bytes old new bytes
    (subst (λ (h : Holding). ReadsOn h bytes c.read.new.self old.rpcs.items c.read.new.rpcs.items) (sym (ap (λ (r : Option Holding). unwrap_or r fresh) c.in-Some.is)) reads)
    refl refl refl refl)
    c.read.ensures

pub returns-in_ok-read-in-None : goal.returns-in_ok-read-in-None
returns-in_ok-read-in-None c =
    let old = c.args.self.now in
    let bytes = c.args.bytes.now in
    let new : Outlet = record old { reader = Some c.read-in-None.new.self; rpcs = c.read-in-None.new.rpcs } in
    reads_bytes old new bytes
    (subst (λ (h : Holding). ReadsOn h bytes c.read-in-None.new.self old.rpcs.items c.read-in-None.new.rpcs.items) (c.new-reader.ensures ∙ sym (ap (λ (r : Option Holding). unwrap_or r fresh) c.in-None.is)) c.in_ok-read-in-None.ensures)
    refl refl refl refl
