use Rattle.std.proofs.Common.{◌≡◌, ℕ, List, [], map, append-nil, subst, sym, ap, ◌∙◌}
use Rattle.std.specs.List.{flat_map}
use Rattle.gs_router.specs.declared.follower.Followed.{Followed}
use Rattle.gs_trace.specs.Lines.{in_round, seen_by}
use Rattle.gs_trace.specs.Pages.{Adds}
use Rattle.gs_trace.specs.Starts.{entry_of}
use Rattle.gs_trace.specs.Turns.{entry_line, refusal_line, turn_text}
use Rattle.gs_trace.proofs.Starts.{stands_next, taken_is}
use Rattle.gs_trace.proofs.TurnTexts.{turn_parts}
use Rattle.gs_trace.proofs.Writing.{and_more, at_err, cut_off, no_text}
use Rattle.gs_trace.proofs.lines.write_turn.Goals as goal

pub entries_of_round-requires : goal.entries_of_round-requires
entries_of_round-requires g c = (c.requires.reader.view, c.requires.reader.follows)

pub returns-in_err-write_lines-clause-front : goal.returns-in_err-write_lines-clause-front
returns-in_err-write_lines-clause-front g c =
    let turn = c.args.turn.now in
    let life = c.args.life.now in
    let stands = c.requires.reader in
    let mine = c.deref.result.now in
    let sees = c.in_ok-entries.ensures stands.view stands.follows in
    let is : map entry_of mine ≡ in_round turn.plan.now.rounds turn.round (seen_by turn.plan.now (turn.peer, life)) =
    ap (λ (list : List Followed). map entry_of list) c.deref.ensures.value ∙ taken_is stands c.requires.round sees in
    at_err c.from_residual-in_err-write_lines.result
    (cut_off (no_text c.args.page.now.items (g.W.Write.contents c.args.output.now)) (g.W.Write.contents c.write_lines.new.output)
    (flat_map (entry_line turn) mine) (turn_text turn life) (flat_map (refusal_line turn) life.refused) c.in_err-write_lines.ensures.front
    (turn_parts turn life mine life.refused is (λ i. life.refused)))

pub returns-in_err-write_lines-2-clause-front : goal.returns-in_err-write_lines-2-clause-front
returns-in_err-write_lines-2-clause-front g c =
    let turn = c.args.turn.now in
    let life = c.args.life.now in
    let stands = c.requires.reader in
    let mine = c.deref.result.now in
    let refused = c.as_slice.result.now in
    let sees = c.in_ok-entries.ensures stands.view stands.follows in
    let is : map entry_of mine ≡ in_round turn.plan.now.rounds turn.round (seen_by turn.plan.now (turn.peer, life)) =
    ap (λ (list : List Followed). map entry_of list) c.deref.ensures.value ∙ taken_is stands c.requires.round sees in
    at_err c.from_residual-in_err-write_lines-2.result
    (cut_off c.in_ok-write_lines.ensures.added (g.W.Write.contents c.write_lines-2.new.output)
    (flat_map (refusal_line turn) refused) (turn_text turn life) [] c.in_err-write_lines-2.ensures.front
    (turn_parts turn life mine refused is c.as_slice.ensures ∙ sym (append-nil _)))

pub returns-clause-added : goal.returns-clause-added
returns-clause-added g c =
    let turn = c.args.turn.now in
    let life = c.args.life.now in
    let stands = c.requires.reader in
    let mine = c.deref.result.now in
    let refused = c.as_slice.result.now in
    let sees = c.in_ok-entries.ensures stands.view stands.follows in
    let is : map entry_of mine ≡ in_round turn.plan.now.rounds turn.round (seen_by turn.plan.now (turn.peer, life)) =
    ap (λ (list : List Followed). map entry_of list) c.deref.ensures.value ∙ taken_is stands c.requires.round sees in
    subst (λ (text : List ℕ). Adds text c.args.page.now.items c.write_lines-2.new.page.items (g.W.Write.contents c.args.output.now) (g.W.Write.contents c.write_lines-2.new.output))
    (sym (turn_parts turn life mine refused is c.as_slice.ensures))
    (and_more c.in_ok-write_lines.ensures.added c.in_ok-write_lines-2.ensures.added)

pub returns-clause-next : goal.returns-clause-next
returns-clause-next g c =
    let stands = c.requires.reader in
    stands_next stands c.requires.round (c.in_ok-entries.ensures stands.view stands.follows)
