use Rattle.std.proofs.Common.{sym, ◌∙◌}
use Rattle.gs_router.specs.Known.{peer_with}
use Rattle.gs_router.proofs.Wanting.{added}
use Rattle.gs_router.proofs.entries.offers.add_wanted.Goals as goal

pub returns : goal.returns
returns c = λ L knows.
    added (peer_with c.args.known.now.setup) L c.args.now.0 c.args.found.now.keys c.insert.new.self.keys c.args.bytes.now c.in_ok-clone_of.field-0 c.in_ok-insert.ensures.keys c.in_ok-clone_of.ensures (sym (c.is_wanted.ensures L knows) ∙ c.if-not-is_wanted.false)
