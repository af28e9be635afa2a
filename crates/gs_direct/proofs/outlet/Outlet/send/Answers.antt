use Rattle.std.proofs.Common.{◌≡◌, true, Option, None, Some, Ok, sym, ap, subst, ◌∙◌}
use Rattle.gs_base.specs.declared.rpc.Rpc.{Rpc}
use Rattle.gs_wire.specs.Codec.{codec}
use Rattle.gs_wire.specs.Joining.{joined_to}
use Rattle.gs_rules.specs.Saying.{cut_out}
use Rattle.gs_direct.specs.Outlets.{Follows}
use Rattle.gs_direct.proofs.Carrying.{sends_fit, sends_out}
use Rattle.gs_direct.proofs.outlet.Outlet.send.Goals as goal

pub returns-then-branch : goal.returns-then-branch
returns-then-branch c = sends_fit c.args.self.now c.gather.new.self c.args.rpc.now c.requires (sym c.in_ok-gather.ensures.fits ∙ c.if-branch.true) (c.in_ok-gather.ensures.joined (ap Ok c.if-branch.true))

pub returns : goal.returns
returns c =
    let old = c.args.self.now in
    let mid = c.put_out.new.self in
    let v = c.args.rpc.now in
    let cut : Follows (cut_out codec) old mid = subst (λ (h : Option Rpc). Follows (cut_out codec) (record old { gathered = h }) mid) (c.in_ok-gather.ensures.too_long (ap Ok c.if-branch.false)) c.in_ok-put_out.ensures.follows in
    let none : mid.gathered ≡ None = c.in_ok-put_out.ensures.none in
    let fits : c.in_ok-gather-2.field-0 ≡ true = c.in_ok-gather-2.ensures.fits ∙ ap (λ (h : Option Rpc). codec.fits (joined_to h v)) none ∙ c.requires.0 in
    sends_out old mid c.gather-2.new.self v c.requires (sym c.in_ok-gather.ensures.fits ∙ c.if-branch.false) cut
    (c.in_ok-gather-2.ensures.joined (ap Ok fits) ∙ ap (λ (h : Option Rpc). Some (joined_to h v)) none)
