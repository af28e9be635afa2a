use Rattle.std.proofs.Common.{Option, Some, refl, sym, ap, subst₂, ◌∙◌}
use Rattle.std.specs.Prelude.{unwrap_or}
use Rattle.gs_base.specs.declared.rpc.Rpc.{Rpc}
use Rattle.gs_wire.specs.Codec.{codec}
use Rattle.gs_wire.specs.Messages.{frame}
use Rattle.gs_wire.specs.Stream.{Holding}
use Rattle.gs_rules.specs.Saying.{cut_out}
use Rattle.gs_direct.specs.declared.outlet.Outlet.{Outlet}
use Rattle.gs_direct.specs.Outlets.{Follows, ReadsOn}
use Rattle.gs_direct.proofs.Carrying.{puts_frame, puts_value}
use Rattle.gs_direct.proofs.Telling.{fresh, on_ok}
use Rattle.gs_direct.proofs.outlet.Outlet.put_out.Goals as goal

pub returns-in_ok-push-in-None-clause-follows : goal.returns-in_ok-push-in-None-clause-follows
returns-in_ok-push-in-None-clause-follows c =
    let old = c.args.self.now in
    puts_value old (record old { gathered = c.take.new.self; rpcs = c.push.new.self }) c.in-Some.rpc
    (sym c.in_ok-rpc.ensures.rpc ∙ c.in-Some.is)
    (ap (λ (r : Option Holding). unwrap_or r fresh) c.in-None.is)
    refl refl refl refl c.in_ok-rpc.ensures.taken c.in_ok-push-in-None.ensures.items

pub returns-in-Some-reader-clause-follows : goal.returns-in-Some-reader-clause-follows
returns-in-Some-reader-clause-follows c =
    let old = c.args.self.now in
    let new : Outlet = record old { gathered = c.take.new.self; reader = Some c.read_frame.new.self; rpcs = c.read_frame.new.rpcs } in
    on_ok c.read_frame.result (ReadsOn c.in-Some-reader.reader (frame c.get.result.now) c.read_frame.new.self old.rpcs.items c.read_frame.new.rpcs.items) (Follows (cut_out codec) old new)
    (λ reads. puts_frame old new c.in-Some.rpc
    (sym c.in_ok-rpc.ensures.rpc ∙ c.in-Some.is)
    (subst₂ (λ (h : Holding) (v : Rpc). ReadsOn h (frame v) c.read_frame.new.self old.rpcs.items c.read_frame.new.rpcs.items) (sym (ap (λ (r : Option Holding). unwrap_or r fresh) c.in-Some-reader.is)) c.get.ensures reads)
    refl refl refl c.in_ok-rpc.ensures.taken)
    c.read_frame.ensures
