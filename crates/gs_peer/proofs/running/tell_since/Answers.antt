use Rattle.std.proofs.Common.{◌-◌, length, take, drop, ◌∙◌}
use Rattle.std.proofs.lemmas.List.{take_rest}
use Rattle.gs_player.proofs.Since.{fits_since}
use Rattle.gs_peer.proofs.Telling.{tells}
use Rattle.gs_peer.proofs.running.tell_since.Goals as goal

pub tell_all-requires : goal.tell_all-requires
tell_all-requires c =
    let v = c.args.router.now in
    fits_since v.peer c.args.told c.entries.result.now v.trace (c.entries.ensures ∙ c.trace.ensures) c.requires.legal

pub returns : goal.returns
returns c =
    let all = c.entries.result.now in
    let slice = take (length all - c.args.told) (drop c.args.told all) in
    let e = c.in_ok-tell_all.ensures in
    tells c.args.told all slice c.args.router.now.trace c.args.outboxes.now c.tell_all.new.self (c.entries.ensures ∙ c.trace.ensures) (take_rest all c.args.told) e.told e.«open»
