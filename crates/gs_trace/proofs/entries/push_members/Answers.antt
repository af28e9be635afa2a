use Rattle.std.proofs.Common.{◌≡◌, ◌++◌, List, OnOk, subst}
use Rattle.gs_rules.specs.declared.fallen.Fallen.{Fallen}
use Rattle.gs_trace.specs.Fallen.{fell_away_member}
use Rattle.gs_trace.specs.Texts.{names_of}
use Rattle.gs_trace.proofs.Appended.{and_then, last}
use Rattle.gs_trace.proofs.entries.push_members.Goals as goal

pub returns : goal.returns
returns c =
    let out = c.args.out.now.items in
    last out _ _ _ _ (and_then out _ _
    c.in_ok-push_event_of.ensures
    c.in_ok-push_effects.ensures)
    (subst (λ (fallen : List Fallen). OnOk c.push_fell_away.result (c.push_fell_away.new.out.items ≡ c.push_effects.new.out.items ++ fell_away_member (names_of c.args.plan.now) fallen))
    c.deref.ensures.value c.push_fell_away.ensures)
