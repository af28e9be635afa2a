use Rattle.std.proofs.Common.{◌≡◌, List, [], ◌∷◌, ◌++◌, Err, ap, sym, subst, ◌∙◌, append_assoc, rules}
use Rattle.std.proofs.lemmas.Result.{err_from_is_err_and}
use Rattle.gs_wire.specs.declared.decoding.DecodeError.TheVariants.{Malformed}
use Rattle.gs_wire.specs.Records.{Record}
use Rattle.gs_wire.specs.Views.{view}
use Rattle.gs_wire.proofs.Faults.{same_fault}
use Rattle.gs_wire.proofs.RecordReading.{record_shorter}
use Rattle.gs_wire.proofs.RecordLists.{read_one, read_stuck, read_front}
use Rattle.gs_wire.proofs.decoding.merge_all.Goals as goal

pub returns-in_default-clause-malformed : goal.returns-in_default-clause-malformed
returns-in_default-clause-malformed g c = λ _ before records after other spells _.
    let (rs, read, _) = c.loop-reader.invariant in
    read_stuck c.args.reader c.loop-reader.reader rs read (search rules) (sym c.in_default.ensures) records spells

pub loop-reader-smaller : goal.loop-reader-smaller
loop-reader-smaller g c =
    record_shorter c.loop-reader.reader (view c.in-Some.record, c.read_record.new.reader) (sym c.in-Some.ensures)

pub loop-reader-preserved : goal.loop-reader-preserved
loop-reader-preserved g c =
    let (rs, read, merged) = c.loop-reader.invariant in
    let r = view c.in-Some.record in (
      rs ++ r ∷ [],
      read_one c.args.reader c.loop-reader.reader rs r c.read_record.new.reader read (sym c.in-Some.ensures),
      λ before says. subst (λ (all : List Record). g.M.Decode.says all c.merge.new.self) (append_assoc before rs (r ∷ [])) (c.in_ok-merge.ensures.merged (before ++ rs) (merged before says)),
    )

pub returns-in_err-merge-clause-malformed : goal.returns-in_err-merge-clause-malformed
returns-in_err-merge-clause-malformed g c =
    let p = err_from_is_err_and c.from_residual.result c.from_residual.ensures.1 in
    λ e before records after other spells says.
    let (rs, read, _) = c.loop-reader.invariant in
    let r = view c.in-Some.record in
    let more = read_front c.args.reader c.read_record.new.reader (rs ++ r ∷ []) (read_one c.args.reader c.loop-reader.reader rs r c.read_record.new.reader read (sym c.in-Some.ensures)) records spells in
    let tail = more.0 ++ after in
    let regrouped : before ++ (records ++ after) ≡ (before ++ rs) ++ r ∷ tail =
    ap (λ (t : List Record). before ++ (t ++ after)) more.1
    ∙ ap (λ (t : List Record). before ++ t) (append_assoc (rs ++ r ∷ []) more.0 after ∙ append_assoc rs (r ∷ []) tail)
    ∙ sym (append_assoc before rs (r ∷ tail)) in
    c.in_err-merge.ensures.malformed (same_fault c.in_err-merge.field-0.0 Malformed c.from_residual.result (p.1 ∙ ap (λ f. Err f) p.2) e) (before ++ rs) tail other (subst (λ (all : List Record). g.M.Decode.says all other) regrouped says)
