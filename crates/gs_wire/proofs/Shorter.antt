-- What was read is not longer when it is written: bytes that spell an RPC are at least as many as its body.
use Rattle.std.proofs.Common.{◌≡◌, ℕ, ◌+◌, ◌-◌, ◌*◌, ◌≤◌, List, [], ◌∷◌, ◌++◌, length, Option, ap, subst, append-nil, length-append, arith}
use Rattle.std.specs.Prelude.{not, option_to_list}
use Rattle.std.specs.List.{AllZip, AllByRecursion, concat}
use Rattle.gs_base.specs.declared.control.Control.{Control}
use Rattle.gs_base.specs.declared.rpc.SubOpt.{SubOpt}
use Rattle.gs_base.specs.declared.rpc.Message.{Message}
use Rattle.gs_base.specs.declared.rpc.Rpc.{Rpc}
use Rattle.gs_wire.specs.declared.frames.End.{End}
use Rattle.gs_wire.specs.Varint.{varint}
use Rattle.gs_wire.specs.Records.{Record, SpellRecords, len_values, record_text, records_text}
use Rattle.gs_wire.specs.Fields.{Spells, len_record, repeated_records, part_records}
use Rattle.gs_wire.specs.Controls.{SaysMerged, joined, control_records}
use Rattle.gs_wire.specs.Messages.{SaysSub, SaysMessage, SpellsRpc, sub_records, message_records, body}
use Rattle.gs_wire.specs.Stream.{SpellFrames, IsStream}
use Rattle.gs_wire.proofs.VarintLengths.{sum_groups}
use Rattle.gs_wire.proofs.Written.{records_text-single, sum_text}
use Rattle.gs_wire.proofs.ShorterFields.{IsShorter, all_spelled, bytes_more, len_more_field, len_shorter, no_fields, parts_more, records_shorter, topic_more, truth_more}
use Rattle.gs_wire.proofs.ControlKinds.{control_says_shorter}

-- ---- changes of subscription and messages

sub_shorter : (bytes : List ℕ) (v : SubOpt) → Spells SaysSub bytes v → IsShorter sub_records bytes v
sub_shorter bytes v (rs, spelled, says) =
    let a = truth_more 1 (no_fields rs) (omega arith) in
    let b = topic_more 2 a (omega arith) in
    rw says (all_spelled bytes spelled b)

message_shorter : (bytes : List ℕ) (v : Message) → Spells SaysMessage bytes v → IsShorter message_records bytes v
message_shorter bytes v (rs, spelled, says) =
    let a = bytes_more 1 (no_fields rs) (omega arith) in
    let b = bytes_more 2 a (omega arith) in
    let c = bytes_more 3 b (omega arith) in
    let d = topic_more 4 c (omega arith) in
    let e = bytes_more 5 d (omega arith) in
    let f = bytes_more 6 e (omega arith) in
    rw says (all_spelled bytes spelled f)

-- ---- control, where several values are written as one

joined_shorter : (values : List (List ℕ)) (lists : List (List Record)) → AllZip SpellRecords values lists → length (records_text (joined lists)) ≤ length (concat values)
joined_shorter [] [] h = omega arith
joined_shorter [] (rs ∷ lists) h = absurd h
joined_shorter (bytes ∷ values) [] h = absurd h
joined_shorter (bytes ∷ values) (rs ∷ lists) h =
    omega (arith, records_shorter rs bytes h.0, joined_shorter values lists h.1, sum_text rs (joined lists), length-append bytes (concat values))

-- one record of all the bytes isn't longer than one of each value
pub joined_record : (field : ℕ) (bytes : List ℕ) (values : List (List ℕ)) → length (record_text (len_record field (concat (bytes ∷ values)))) ≤ length (records_text (repeated_records field (bytes ∷ values)))
joined_record field bytes [] = omega (arith, len_shorter field (concat (bytes ∷ [])) bytes (omega (arith, ap length (append-nil bytes))), ap length (records_text-single (len_record field bytes)))
joined_record field bytes (next ∷ values) =
    let tag = varint (8 * field + 2) in
    let later = concat (next ∷ values) in
    let all = bytes ++ later in
    let len = length-append bytes later in
    let plain : length bytes + length later + 0 ≡ length all = omega (arith, len) in
    let groups : length (varint (length all)) ≤ length (varint (length bytes)) + length (varint (length later)) = subst (λ (n : ℕ). length (varint n) ≤ length (varint (length bytes)) + length (varint (length later))) plain (sum_groups 9 (length bytes) (length later) 0 (omega arith)) in
    omega (
      arith,
      groups,
      len,
      joined_record field next values,
      length-append tag (varint (length all) ++ all),
      length-append (varint (length all)) all,
      length-append tag (varint (length later) ++ later),
      length-append (varint (length later)) later,
      length-append tag (varint (length bytes) ++ bytes),
      length-append (varint (length bytes)) bytes,
      length-append (record_text (len_record field bytes)) (records_text (repeated_records field (next ∷ values))),
    )

merged_shorter : (values : List (List ℕ)) (control : Option Control) → SaysMerged values control → length (records_text (part_records control_records 3 (option_to_list control))) ≤ length (records_text (repeated_records 3 values))
merged_shorter [] control none = rw none (omega arith)
merged_shorter (bytes ∷ values) control (v, lists, is, spelled, says) =
    let text = records_text (control_records v) in
    let few : length text ≤ length (concat (bytes ∷ values)) = omega (arith, control_says_shorter (joined lists) v says, joined_shorter (bytes ∷ values) lists spelled) in
    rw is (omega (arith, len_shorter 3 text (concat (bytes ∷ values)) few, joined_record 3 bytes values, ap length (records_text-single (len_record 3 text))))

-- ---- an RPC

pub body_shorter : (bytes : List ℕ) (v : Rpc) → SpellsRpc bytes v → length (body v) ≤ length bytes
body_shorter bytes v (rs, spelled, says) =
    let a = parts_more (Spells SaysSub) sub_records 1 sub_shorter v.subs says.subs (no_fields rs) (omega arith) in
    let b = parts_more (Spells SaysMessage) message_records 2 message_shorter v.publish says.publish a (omega arith) in
    let c = len_more_field 3 (part_records control_records 3 (option_to_list v.control)) b (omega arith) (merged_shorter (len_values 3 rs) v.control says.control) in
    all_spelled bytes spelled c

-- ---- a stream

abbrev FitsIn : ℕ → Rpc → Type 0
FitsIn limit v = length (body v) ≤ limit

frames_fit : (limit : ℕ) (vs : List Rpc) (text : List ℕ) → SpellFrames limit text vs → AllByRecursion (FitsIn limit) vs
frames_fit limit [] text h = tt
frames_fit limit (v ∷ vs) text h = (omega (arith, body_shorter h.3.body v h.3.spells_body, h.3.within), frames_fit limit vs h.1 h.4)

pub stream_fits : (limit : ℕ) (bytes : List ℕ) (vs : List Rpc) (rest : List ℕ) (end : End) → IsStream limit bytes vs rest end → AllByRecursion (λ v. length (body v) ≤ limit) vs
stream_fits limit bytes vs rest end h = frames_fit limit vs h.front h.frames
