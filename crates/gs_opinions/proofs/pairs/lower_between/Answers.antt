use Rattle.std.proofs.Common.{◌<◌, arith, length, refl}
use Rattle.std.proofs.lemmas.Result.{on_ok_weaker}
use Rattle.gs_opinions.proofs.Lowered.{lowered_at, lowered_none}
use Rattle.gs_opinions.proofs.pairs.lower_between.Goals as goal

pub returns-in-Some : goal.returns-in-Some
returns-in-Some c =
    let within = c.in-Some.ensures.variant.0 refl in
    let low : c.from.result < length c.args.rows.now.items = omega (arith, within, c.args.rows.now.ok) in
    on_ok_weaker
    c.lower_of.result
    (λ lowered plan os was. lowered_at plan os c.args.opinion c.args.rows.now.items c.from.result c.from.ensures c.in-Some.row.now c.lower_of.new.row low c.in-Some.ensures.value lowered was)
    c.lower_of.ensures

pub returns-in-None : goal.returns-in-None
returns-in-None c = λ plan os was.
    lowered_none plan os c.args.opinion c.args.rows.now.items c.from.result c.from.ensures (λ low. c.in-None.ensures.variant.1 (omega (arith, low, c.args.rows.now.ok))) was
