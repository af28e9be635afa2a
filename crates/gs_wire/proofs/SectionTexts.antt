-- Sections of bodies, of one RPC and of several that are joined.
use Rattle.std.proofs.Common.{◌≡◌, ℕ, ◌+◌, List, ◌∷◌, ◌++◌, length, Option, Some, ap, ◌∙◌, length-append, arith}
use Rattle.std.specs.Prelude.{option_map, option_to_list}
use Rattle.gs_base.specs.declared.control.Control.{Control}
use Rattle.gs_base.specs.declared.rpc.Rpc.{Rpc}
use Rattle.gs_wire.specs.declared.sections.Section.TheVariants.{Subscriptions, Messages}
use Rattle.gs_wire.specs.Varint.{varint}
use Rattle.gs_wire.specs.Records.{records_text}
use Rattle.gs_wire.specs.Fields.{len_record, part_records}
use Rattle.gs_wire.specs.Controls.{control_records}
use Rattle.gs_wire.specs.Messages.{body, message_records, sub_records}
use Rattle.gs_wire.specs.Joining.{joined_rpc}
use Rattle.gs_wire.specs.Sections.{control_part, plain_length, section}
use Rattle.gs_wire.proofs.Written.{len_text, records_text-append, records_text-single}
use Rattle.gs_wire.proofs.ControlKinds.{section-joined}

-- ---- what a body is made of

pub body_parts : (v : Rpc) → body v ≡ (section Subscriptions v ++ section Messages v) ++ control_part v.control
body_parts v =
    let subs = part_records sub_records 1 v.subs in
    let publish = part_records message_records 2 v.publish in
    let control = part_records control_records 3 (option_to_list v.control) in
    records_text-append (subs ++ publish) control ∙ ap (λ (t : List ℕ). t ++ records_text control) (records_text-append subs publish)

pub body_length : (v : Rpc) → length (body v) ≡ plain_length v + length (control_part v.control)
body_length v = ap length (body_parts v) ∙ length-append (section Subscriptions v ++ section Messages v) (control_part v.control)

-- the record of control messages
pub control_part_text : (c : Control) → control_part (Some c) ≡ (26 ∷ varint (length (records_text (control_records c)))) ++ records_text (control_records c)
control_part_text c =
    let text = records_text (control_records c) in
    records_text-single (len_record 3 text) ∙ len_text 3 text (omega arith)

-- how long control messages are
abbrev pub length_of_control : Option Control → Option ℕ
length_of_control o = option_map (λ c. length (records_text (control_records c))) o

-- how long their record is
pub control_part_length : (c : Control) → length (control_part (Some c)) ≡ 1 + length (varint (length (records_text (control_records c)))) + length (records_text (control_records c))
control_part_length c =
    let text = records_text (control_records c) in
    omega (arith, ap length (control_part_text c), length-append (26 ∷ varint (length text)) text)

-- ---- the lengths of joined RPCs

pub plain_length-joined : (u v : Rpc) → plain_length (joined_rpc u v) ≡ plain_length u + plain_length v
plain_length-joined u v =
    omega (arith, length-append (section Subscriptions (joined_rpc u v)) (section Messages (joined_rpc u v)), length-append (section Subscriptions u) (section Messages u), length-append (section Subscriptions v) (section Messages v), ap length (section-joined Subscriptions u v), ap length (section-joined Messages u v), length-append (section Subscriptions u) (section Subscriptions v), length-append (section Messages u) (section Messages v))
