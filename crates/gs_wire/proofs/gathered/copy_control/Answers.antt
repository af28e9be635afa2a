use Rattle.std.proofs.Common.{◌++◌, ◌∷◌, ℕ, List, length, ap, sym, ◌∙◌, append_assoc, length-append, arith}
use Rattle.gs_wire.specs.Varint.{varint}
use Rattle.gs_wire.specs.Records.{records_text}
use Rattle.gs_wire.specs.Controls.{control_records}
use Rattle.gs_wire.specs.Joining.{joined_rpcs}
use Rattle.gs_wire.specs.Gathering.{as_one}
use Rattle.gs_wire.specs.Sections.{control_of}
use Rattle.gs_wire.proofs.ControlKinds.{sections_of_control}
use Rattle.gs_wire.proofs.Gathering.{recorded}
use Rattle.gs_wire.proofs.gathered.copy_control.Goals as goal

pub put_len-requires-clause-room : goal.put_len-requires-clause-room
put_len-requires-clause-room c =
    let v = as_one (joined_rpcs c.args.parts.now) in
    let whole = recorded v c.in-Some.len (sym c.in-Some.is ∙ c.requires.len) in
    omega (arith, c.requires.room, ap length whole, length-append (26 ∷ varint c.in-Some.len) (records_text (control_records (control_of v))))

pub copy_sections-requires : goal.copy_sections-requires
copy_sections-requires c =
    let v = as_one (joined_rpcs c.args.parts.now) in
    let prefix = 26 ∷ varint c.in-Some.len in
    let whole = recorded v c.in-Some.len (sym c.in-Some.is ∙ c.requires.len) in
    record { room = omega (arith, c.requires.room, ap length (sections_of_control v), ap length whole, length-append prefix (records_text (control_records (control_of v))), ap length c.put_len.ensures.written, length-append c.args.buffer.now.items prefix, c.put_len.ensures.capacity, c.args.buffer.now.ok, c.put_len.new.buffer.ok) }

pub returns : goal.returns
returns c =
    let v = as_one (joined_rpcs c.args.parts.now) in
    let prefix = 26 ∷ varint c.in-Some.len in
    let text = records_text (control_records (control_of v)) in
    let whole = recorded v c.in-Some.len (sym c.in-Some.is ∙ c.requires.len) in
    c.copy_sections.ensures.written ∙ ap (λ (t : List ℕ). c.put_len.new.buffer.items ++ t) (sections_of_control v) ∙ ap (λ (t : List ℕ). t ++ text) c.put_len.ensures.written ∙ append_assoc c.args.buffer.now.items prefix text ∙ ap (λ (t : List ℕ). c.args.buffer.now.items ++ t) (sym whole)
