use Rattle.std.proofs.Common.{◌≡◌, ◌∙◌, ◌<◌, ℕ, List, Option, Some, None, min, length, ap, sym, arith}
use Rattle.std.specs.Prelude.{option_map, option_to_list}
use Rattle.std.proofs.lemmas.Option.{same_Some}
use Rattle.gs_base.specs.declared.control.Control.{Control}
use Rattle.gs_wire.specs.Records.{record_text, records_text}
use Rattle.gs_wire.specs.Fields.{len_record, part_records}
use Rattle.gs_wire.specs.Controls.{control_records}
use Rattle.gs_wire.proofs.Written.{records_text-single}
use Rattle.gs_wire.proofs.rpc.control_record_len.Goals as goal

-- the record of a control whose length is known
recorded : (len result most : ℕ) (control : Option Control) → Some len ≡ option_map (λ c. min most (length (records_text (control_records c)))) control → ((field : ℕ) (bytes : List ℕ) → field < 16 → len ≡ min most (length bytes) → result ≡ min most (length (record_text (len_record field bytes)))) → result ≡ min most (length (records_text (part_records control_records 3 (option_to_list control))))
recorded len result most None is told = absurd cc
recorded len result most (Some c) is told =
    let text = records_text (control_records c) in
    told 3 text (omega arith) (same_Some len (min most (length text)) is) ∙ ap (λ (t : List ℕ). min most (length t)) (sym (records_text-single (len_record 3 text)))

pub returns-in-Some : goal.returns-in-Some
returns-in-Some c = λ control is. recorded c.in-Some.len c.len_record_len.result _ control (rw c.in-Some.is at is) c.len_record_len.ensures
