use Rattle.std.proofs.Common.{rules, arith, ◌≡◌, ◌∷◌, ◌++◌, true, length, Err, [], ap, ◌∙◌, append-nil}
use Rattle.std.specs.Prelude.{is_ok}
use Rattle.std.proofs.lemmas.List.{get_or_push}
use Rattle.std.proofs.Math.Seq.{set-append_seam}
use Rattle.std.proofs.lemmas.Result.{err_from_is_err_and}
use Rattle.gs_wire.specs.declared.decoding.DecodeError.TheVariants.{Malformed}
use Rattle.gs_wire.proofs.Faults.{same_fault}
use Rattle.gs_wire.proofs.decoding.push_message.Goals as goal

pub returns-in_err-merge_all-clause-malformed : goal.returns-in_err-merge_all-clause-malformed
returns-in_err-merge_all-clause-malformed g c =
    let p = err_from_is_err_and c.from_residual-in_err-merge_all.result c.from_residual-in_err-merge_all.ensures.1 in
    λ e message spelled.
    c.in_err-merge_all.ensures.malformed (same_fault c.in_err-merge_all.field-0.0 Malformed c.from_residual-in_err-merge_all.result (p.1 ∙ ap (λ f. Err f) p.2) e) [] spelled.0 [] message spelled.1 (rw (append-nil spelled.0) spelled.2)

pub returns-clause-pushed : goal.returns-clause-pushed
returns-clause-pushed g c =
    let xs = c.args.list.now in
    let ok : is_ok c.push.result ≡ true = search rules in
    let kept : c.make_room.new.items.items ≡ xs = c.make_room.ensures ∙ c.into_vec-items.ensures ∙ c.replace.ensures.value in
    let items : c.push.new.self.items ≡ xs ++ c.empty.result ∷ [] = rw (ok, kept) at c.push.ensures.items in
    let last : length xs ≡ c.len-last.result = omega (arith, c.len-last.ensures, c.make_room.new.items.ok, ap length kept) in
    let (records, spells, merges) = c.in_ok-merge_all.ensures.merged in
    let first : c.index_mut.result.now ≡ c.empty.result = (rw items at c.index_mut.ensures.value) ∙ get_or_push xs c.empty.result c.index_mut.result.now c.len-last.result last in
    let says : g.M.Decode.says records c.merge_all.new.message = merges [] (rw first c.empty.ensures) in
    (c.merge_all.new.message, (records, spells, says), c.from.ensures ∙ rw (items, ← last) (set-append_seam xs c.empty.result [] c.merge_all.new.message))
