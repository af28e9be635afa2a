use Rattle.std.proofs.Common.{◌≡◌, ◌+◌, ◌-◌, ◌^◌, ◌<◌, ◌++◌, ◌∷◌, List, ℕ, length, min, Option, Some, None, ap, sym, ◌∙◌, append_assoc, length-append, arith}
use Rattle.std.specs.Prelude.{option_map}
use Rattle.std.proofs.lemmas.Option.{none-some, same_Some}
use Rattle.gs_base.specs.declared.control.Control.{Control}
use Rattle.gs_wire.specs.Varint.{varint}
use Rattle.gs_wire.specs.Records.{records_text}
use Rattle.gs_wire.specs.Controls.{control_records}
use Rattle.gs_wire.specs.Sections.{control_part}
use Rattle.gs_wire.proofs.SectionTexts.{control_part_length, control_part_text}
use Rattle.gs_wire.proofs.sections.put_control.Goals as goal
use Rattle.gs_wire.proofs.sections.put_control.Goals.{in_default-via-in-Some+in_default, in_default-via-in_default}

-- how long control messages are, by the length that was computed, which is exact where the whole has room
sized : (o : Option Control) (len : Option ℕ) (c : Control) (n most : ℕ) → o ≡ Some c → len ≡ Some n → len ≡ option_map (λ c. min most (length (records_text (control_records c)))) o → length (control_part o) < most → (n ≡ length (records_text (control_records c))) × (control_part o ≡ (26 ∷ varint n) ++ records_text (control_records c))
sized o len c n most o_is len_is is room =
    let text = records_text (control_records c) in
    let whole : length (control_part o) ≡ 1 + length (varint (length text)) + length text = omega (arith, ap (λ (o : Option Control). length (control_part o)) o_is, control_part_length c) in
    let computed : n ≡ min most (length text) = same_Some n (min most (length text)) (sym len_is ∙ is ∙ ap (option_map (λ c. min most (length (records_text (control_records c))))) o_is) in
    let exact : n ≡ length text = omega (arith, computed, whole, room) in
    (exact, ap control_part o_is ∙ control_part_text c ∙ ap (λ (k : ℕ). (26 ∷ varint k) ++ text) (sym exact))

-- where there are control messages there is a length
no_length : (o : Option Control) (len : Option ℕ) (c : Control) (most : ℕ) → o ≡ Some c → len ≡ None → len ≡ option_map (λ c. min most (length (records_text (control_records c)))) o → ⊥
no_length o len c most o_is len_is is =
    none-some (min most (length (records_text (control_records c)))) (sym len_is ∙ is ∙ ap (option_map (λ c. min most (length (records_text (control_records c))))) o_is)

pub returns-in_default-clause-stand : goal.returns-in_default-clause-stand
returns-in_default-clause-stand c = elim c.in_default.branch [
  | in_default-via-in-Some+in_default w ↦ absurd (no_length c.args.control.now c.args.len w.in_default.field-0-0 (2 ^ 64 - 1) w.in_default.is-0 w.in_default.is-1 c.requires.sized)
  | in_default-via-in_default w ↦ rw w.in_default.is-0 (c.no_sections.ensures c.args.buffer.now.items (omega (arith, c.len.ensures, c.args.buffer.now.ok)))
]

pub put_len-requires-clause-room : goal.put_len-requires-clause-room
put_len-requires-clause-room c =
    let (len, whole) = sized c.args.control.now c.args.len c.in-Some-Some.control c.in-Some-Some.len (2 ^ 64 - 1) c.in-Some-Some.is-0 c.in-Some-Some.is-1 c.requires.sized (omega (arith, c.requires.room, c.args.buffer.now.ok, c.args.buffer.now.small)) in
    omega (arith, c.requires.room, ap length whole, length-append (26 ∷ varint c.in-Some-Some.len) (records_text (control_records c.in-Some-Some.control)))

pub put_control_sections-requires : goal.put_control_sections-requires
put_control_sections-requires c =
    let (len, whole) = sized c.args.control.now c.args.len c.in-Some-Some.control c.in-Some-Some.len (2 ^ 64 - 1) c.in-Some-Some.is-0 c.in-Some-Some.is-1 c.requires.sized (omega (arith, c.requires.room, c.args.buffer.now.ok, c.args.buffer.now.small)) in
    record { room = omega (arith, c.requires.room, ap length whole, length-append (26 ∷ varint c.in-Some-Some.len) (records_text (control_records c.in-Some-Some.control)), ap length c.put_len.ensures.written, length-append c.args.buffer.now.items (26 ∷ varint c.in-Some-Some.len), c.put_len.ensures.capacity, c.args.buffer.now.ok, c.put_len.new.buffer.ok) }

pub returns-clause-written : goal.returns-clause-written
returns-clause-written c =
    let text = records_text (control_records c.in-Some-Some.control) in
    let prefix = 26 ∷ varint c.in-Some-Some.len in
    let (len, whole) = sized c.args.control.now c.args.len c.in-Some-Some.control c.in-Some-Some.len (2 ^ 64 - 1) c.in-Some-Some.is-0 c.in-Some-Some.is-1 c.requires.sized (omega (arith, c.requires.room, c.args.buffer.now.ok, c.args.buffer.now.small)) in
    c.put_control_sections.ensures.written ∙ ap (λ (t : List ℕ). t ++ text) c.put_len.ensures.written ∙ append_assoc c.args.buffer.now.items prefix text ∙ ap (λ (t : List ℕ). c.args.buffer.now.items ++ t) (sym whole)
