-- How long gathered RPCs are with one more, by lengths that stop at a bound.
use Rattle.std.proofs.Common.{◌≡◌, ℕ, ◌+◌, ◌<◌, ◌≤◌, length, min, Option, Some, None, ap, ◌∙◌, arith}
use Rattle.std.proofs.lemmas.Option.{same_Some}
use Rattle.gs_base.specs.declared.control.Control.{Control}
use Rattle.gs_base.specs.declared.rpc.Rpc.{Rpc}
use Rattle.gs_wire.specs.Records.{records_text}
use Rattle.gs_wire.specs.Controls.{control_records}
use Rattle.gs_wire.specs.Messages.{body, longest_body}
use Rattle.gs_wire.specs.Joining.{joined_controls, joined_rpc, joined_to}
use Rattle.gs_wire.specs.Gathering.{IsMeasured, as_one}
use Rattle.gs_wire.specs.Sections.{control_length_within, control_part, plain_length}
use Rattle.gs_wire.proofs.SectionTexts.{body_length, control_part_length, length_of_control, plain_length-joined}
use Rattle.gs_wire.proofs.JoinedLists.{joined_to-as_one}
use Rattle.gs_wire.proofs.ControlKinds.{control_length-both}
use Rattle.gs_wire.proofs.Gathering.{exact_most}

-- a length up to a bound that it does not reach is exact
most_exact : (o : Option Control) (len : Option ℕ) (most : ℕ) → len ≡ control_length_within most o → length (control_part o) < most → len ≡ length_of_control o
most_exact None len most is room = is
most_exact (Some c) len most is room = is ∙ ap (λ (n : ℕ). Some n) (omega (arith, control_part_length c, room))

-- the length of both, up to a bound
pub both_length_within : (o p : Option Control) (m n most : ℕ) → Some m ≡ control_length_within most o → Some n ≡ control_length_within most p → Some (min (m + n) most) ≡ control_length_within most (joined_controls o p)
both_length_within None p m n most m_is n_is = absurd cc
both_length_within (Some c) None m n most m_is n_is = absurd cc
both_length_within (Some c) (Some d) m n most m_is n_is =
    ap (λ (k : ℕ). Some k) (omega (arith, same_Some m (min most (length (records_text (control_records c)))) m_is, same_Some n (min most (length (records_text (control_records d)))) n_is, control_length-both c d))

-- what is known of the lengths of gathered RPCs and of one more
pub record AreLengths (held : Option Rpc) (v : Rpc) (most plain more sum : ℕ) (before own both : Option ℕ) (control whole : ℕ) : Type 0 where
  pub measured : IsMeasured (as_one held) plain before
  pub more_is : more ≡ min most (plain_length v)
  pub sum_is : sum ≡ min (plain + more) most
  pub own_is : own ≡ control_length_within most v.control
  pub both_is : (o p : Option Control) → before ≡ control_length_within most o → own ≡ control_length_within most p → both ≡ control_length_within most (joined_controls o p)
  pub control_is : (o : Option Control) → both ≡ control_length_within most o → control ≡ min most (length (control_part o))
  pub whole_is : whole ≡ min (sum + control) most
  pub room : longest_body < most

-- the length of the control messages of all, and of their record
controls : (held : Option Rpc) (v : Rpc) (most plain more sum : ℕ) (before own both : Option ℕ) (control whole : ℕ)
    → AreLengths held v most plain more sum before own both control whole
    → (both ≡ control_length_within most (joined_rpc (as_one held) v).control)
    × (control ≡ min most (length (control_part (joined_rpc (as_one held) v).control)))
controls held v most plain more sum before own both control whole are =
    let held_control = (as_one held).control in
    let short : length (control_part held_control) ≤ most = omega (arith, are.measured.fits, body_length (as_one held), are.room) in
    let is = are.both_is held_control v.control (exact_most held_control before most are.measured.inside short) are.own_is in
    (is, are.control_is (joined_controls held_control v.control) is)

-- how long they are with one more
pub whole_length : (held : Option Rpc) (v : Rpc) (most plain more sum : ℕ) (before own both : Option ℕ) (control whole : ℕ)
    → AreLengths held v most plain more sum before own both control whole
    → whole ≡ min most (length (body (joined_to held v)))
whole_length held v most plain more sum before own both control whole are =
    let (_, record_is) = controls held v most plain more sum before own both control whole are in
    rw (joined_to-as_one held v) (omega (arith, record_is, are.whole_is, are.sum_is, are.more_is, are.measured.outside, plain_length-joined (as_one held) v, body_length (joined_rpc (as_one held) v)))

-- where that fits a frame, no length stopped at the bound
pub measured_with : (held : Option Rpc) (v : Rpc) (most plain more sum : ℕ) (before own both : Option ℕ) (control whole : ℕ)
    → AreLengths held v most plain more sum before own both control whole
    → whole ≤ longest_body
    → IsMeasured (joined_to held v) sum both
measured_with held v most plain more sum before own both control whole are fits =
    let joined = joined_rpc (as_one held) v in
    let (both_is, record_is) = controls held v most plain more sum before own both control whole are in
    let lengths = body_length joined in
    let outside = plain_length-joined (as_one held) v in
    let within : length (body joined) ≤ longest_body = omega (arith, fits, record_is, are.whole_is, are.sum_is, are.more_is, are.measured.outside, outside, lengths, are.room) in
    rw (joined_to-as_one held v) (record {
      outside = omega (arith, within, are.sum_is, are.more_is, are.measured.outside, outside, lengths, are.room);
      inside = most_exact joined.control both most both_is (omega (arith, within, lengths, are.room));
      fits = within;
    })
