-- What is written for an RPC spells it, and no frame begins another.
use Rattle.std.proofs.Common.{◌≡◌, ℕ, ◌+◌, ◌<◌, ◌^◌, List, [], ◌∷◌, ◌++◌, length, map, take, drop, Option, Some, None, refl, sym, ap, subst, ◌∙◌, append_assoc, append-nil, arith, rules}
use Rattle.std.specs.Prelude.{IfSome, option_to_list}
use Rattle.std.specs.List.{AllByRecursion}
use Rattle.std.proofs.lemmas.List.{take_at, drop_at}
use Rattle.std.proofs.lemmas.Option.{some_pair_parts}
use Rattle.gs_base.specs.declared.control.Control.{Control}
use Rattle.gs_base.specs.declared.rpc.Rpc.{Rpc}
use Rattle.gs_wire.specs.Varint.{varint}
use Rattle.gs_wire.specs.Reading.{varint_at}
use Rattle.gs_wire.specs.Records.{records_text}
use Rattle.gs_wire.specs.Fields.{len_record, part_records}
use Rattle.gs_wire.specs.Controls.{SaysMerged, control_records}
use Rattle.gs_wire.specs.Messages.{SaysSub, SaysMessage, SpellsRpc, sub_records, message_records, rpc_records, body, frame, IsControl, IsInMemory}
use Rattle.gs_wire.proofs.Varints.{written_varint, varint_read}
use Rattle.gs_wire.proofs.Rpcs.{one_rpc}
use Rattle.gs_wire.proofs.ControlKinds.{control_says}
use Rattle.gs_wire.proofs.Written.{records_text-single, len_text-length, sum_text}
use Rattle.gs_wire.proofs.RoundTrip.{IsWritable, all-append, parts_writable, records_spelled, values-append, part_values, parts_spelled, Any, all_any, sub_spelled, message_spelled}

-- ---- control messages, which are one record

control_writable : (v : Control) → AllByRecursion IsWritable (control_records v)
control_writable v = search (rules, all-append, parts_writable)

merged_says : (o : Option Control) → IfSome o IsControl → length (records_text (part_records control_records 3 (option_to_list o))) < 2 ^ 64 → SaysMerged (map (λ c. records_text (control_records c)) (option_to_list o)) o
merged_says None fits small = refl
merged_says (Some c) fits small =
    let text = records_text (control_records c) in
    let len = len_text-length 3 text (omega arith) in
    let few : length text < 2 ^ 64 = omega (arith, small, len, ap length (records_text-single (len_record 3 text))) in
    (c, control_records c ∷ [], refl, (records_spelled (control_records c) (control_writable c) few, tt), rw (append-nil (control_records c)) (control_says c fits few))

-- ---- an RPC

pub body_spelled : (v : Rpc) → IsInMemory v → SpellsRpc (body v) v
body_spelled v fits =
    let small = fits.body in
    let few = simp sum_text at small in (
      rpc_records v,
      records_spelled (rpc_records v) (search (rules, all-append, parts_writable)) small,
      record {
        subs = simp (values-append, part_values, append-nil) (parts_spelled SaysSub Any sub_records 1 v.subs (omega arith) sub_spelled (all_any v.subs) (omega (arith, few)));
        publish = simp (values-append, part_values, append-nil) (parts_spelled SaysMessage Any message_records 2 v.publish (omega arith) message_spelled (all_any v.publish) (omega (arith, few)));
        control = simp (values-append, part_values, append-nil) (merged_says v.control fits.control (omega (arith, few)));
      },
    )

-- two fronts of one length
pub same_fronts : (a b x y : List ℕ) → length a ≡ length b → a ++ x ≡ b ++ y → (a ≡ b) × (x ≡ y)
same_fronts a b x y len e =
    (sym (take_at a x (length a) refl) ∙ ap (take (length a)) e ∙ take_at b y (length a) (sym len), sym (drop_at a x (length a) refl) ∙ ap (drop (length a)) e ∙ drop_at b y (length a) (sym len))

pub frames_apart : (v w : Rpc) (x y : List ℕ) → IsInMemory v → IsInMemory w → frame v ++ x ≡ frame w ++ y → (v ≡ w) × (x ≡ y)
frames_apart v w x y fits fits' e =
    let read : (u : Rpc) (z : List ℕ) → length (body u) < 2 ^ 64 → varint_at (frame u ++ z) ≡ Some (length (body u), body u ++ z) = λ u z few. ap varint_at (append_assoc (varint (length (body u))) (body u) z) ∙ varint_read (varint (length (body u))) (length (body u)) (body u ++ z) (written_varint (length (body u)) few) in
    let both = some_pair_parts (length (body v)) (length (body w)) (body v ++ x) (body w ++ y) (sym (read v x fits.body) ∙ ap varint_at e ∙ read w y fits'.body) in
    let apart = same_fronts (body v) (body w) x y both.0 both.1 in
    (one_rpc (body v) v w (body_spelled v fits) (subst (λ (t : List ℕ). SpellsRpc t w) (sym apart.0) (body_spelled w fits')), apart.1)
