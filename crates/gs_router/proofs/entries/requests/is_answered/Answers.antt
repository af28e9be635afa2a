use Rattle.std.proofs.Common.{◌∙◌, ap₂}
use Rattle.std.specs.Prelude.{nat_lt}
use Rattle.gs_router.specs.Known.{peer_with}
use Rattle.gs_router.proofs.Answering.{answered_by_count}
use Rattle.gs_router.proofs.entries.requests.is_answered.Goals as goal

pub returns-clause-answered : goal.returns-clause-answered
returns-clause-answered c = λ L ahead given agrees made before.
    ap₂ nat_lt c.len-before.ensures c.len.ensures
    ∙ answered_by_count (peer_with c.args.known.now.setup) L c.args.from ahead given c.args.id.now c.args.reply.now c.answer.new.reply before (c.in_ok-answer.ensures L ahead given agrees made before)
