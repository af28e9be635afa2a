-- RPCs that are gathered, and what is written for all of them.
use Rattle.std.proofs.Common.{◌≡◌, ℕ, ◌+◌, ◌^◌, ◌<◌, ◌≤◌, List, [], ◌∷◌, ◌++◌, length, get_or, take, min, Option, Some, None, refl, sym, ap, subst, ◌∙◌, append-nil, arith}
use Rattle.std.specs.Prelude.{◌==◌, IfSome, is_none, option_map, unwrap_or}
use Rattle.std.specs.List.{flat_map}
use Rattle.std.proofs.Math.Dec.{eqb-suc-zero}
use Rattle.std.proofs.lemmas.Grind.{flat_map-append}
use Rattle.std.proofs.lemmas.List.{take_more}
use Rattle.std.proofs.lemmas.List.Folds.{length-flat_map-take}
use Rattle.std.proofs.lemmas.Option.{same_Some}
use Rattle.gs_base.specs.declared.control.Control.{Control}
use Rattle.gs_base.specs.declared.rpc.Rpc.{Rpc}
use Rattle.gs_wire.specs.declared.sections.Section.{Section}
use Rattle.gs_wire.specs.Varint.{varint}
use Rattle.gs_wire.specs.Records.{records_text}
use Rattle.gs_wire.specs.Controls.{control_records, joined_control, no_control}
use Rattle.gs_wire.specs.Messages.{body, longest_body}
use Rattle.gs_wire.specs.Joining.{joined_controls, joined_onto, joined_rpc, joined_rpcs, joined_to}
use Rattle.gs_wire.specs.Sections.{control_length, control_of, control_part, plain_length, section}
use Rattle.gs_wire.specs.Gathering.{IsMeasured, as_one}
use Rattle.gs_wire.proofs.JoinedLists.{joined_to-as_one, list-all}
use Rattle.gs_wire.proofs.ControlKinds.{control_length-both, section-empty, section-joined}
use Rattle.gs_wire.proofs.SectionTexts.{body_length, control_part_length, control_part_text, length_of_control, plain_length-joined}
use Rattle.gs_wire.proofs.Written.{varint_ten}

-- ---- one RPC more

-- what several are joined to is there
onto_some : (u : Rpc) (vs : List Rpc) → joined_onto (Some u) vs ≡ Some (as_one (joined_onto (Some u) vs))
onto_some u [] = refl
onto_some u (v ∷ vs) = onto_some (joined_rpc u v) vs

-- nothing is there exactly where there are none
pub none_of_none : (vs : List Rpc) (n : ℕ) → n ≡ length vs → (n == 0) ≡ is_none (joined_rpcs vs)
none_of_none [] n is = rw is refl
none_of_none (v ∷ vs) n is = rw (is, onto_some v vs) (eqb-suc-zero (length vs))

pub joined_some : (vs : List Rpc) → 0 < length vs → joined_rpcs vs ≡ Some (as_one (joined_rpcs vs))
joined_some [] some = absurd (omega (arith, some))
joined_some (v ∷ vs) some = onto_some v vs

-- ---- the sections of all of them

pub section-all : (wanted : Section) (vs : List Rpc) → section wanted (as_one (joined_rpcs vs)) ≡ flat_map (section wanted) vs
section-all wanted vs = list-all (section wanted) (section-joined wanted) (section-empty wanted) vs

-- ---- lengths

-- joined control messages take at most eleven bytes more than both
control_part-joined : (o p : Option Control) → length (control_part (joined_controls o p)) ≤ 11 + (length (control_part o) + length (control_part p))
control_part-joined None p = omega arith
control_part-joined (Some c) None = omega arith
control_part-joined (Some c) (Some d) =
    omega (arith, control_part_length (joined_control c d), control_part_length c, control_part_length d, control_length-both c d, varint_ten (length (records_text (control_records (joined_control c d)))))

-- the length of both
pub both_length : (o p : Option Control) (m n : ℕ) → Some m ≡ length_of_control o → Some n ≡ length_of_control p → Some (m + n) ≡ length_of_control (joined_controls o p)
both_length None p m n m_is n_is = absurd cc
both_length (Some c) None m n m_is n_is = absurd cc
both_length (Some c) (Some d) m n m_is n_is =
    ap (λ (k : ℕ). Some k) (omega (arith, same_Some m (length (records_text (control_records c))) m_is, same_Some n (length (records_text (control_records d))) n_is, control_length-both c d))

-- it is within the limit in an RPC that fits a frame
pub control_within : (v : Rpc) (plain : ℕ) (control : Option ℕ) → IsMeasured v plain control → IfSome control (λ len. len ≤ longest_body)
control_within v plain control is = rw is.inside (of_option v.control (omega (arith, body_length v, is.fits)))
  where
    of_option : (o : Option Control) → length (control_part o) ≤ longest_body → IfSome (length_of_control o) (λ len. len ≤ longest_body)
    of_option None room = tt
    of_option (Some c) room = omega (arith, control_part_length c, room)

-- two RPCs that each fit a frame are joined to one whose length is a small number
pub joined_small : (u v : Rpc) → length (body u) ≤ longest_body → length (body v) ≤ longest_body → length (body (joined_rpc u v)) < 2 ^ 22
joined_small u v u_fits v_fits =
    omega (arith, u_fits, v_fits, body_length (joined_rpc u v), body_length u, body_length v, plain_length-joined u v, control_part-joined u.control v.control)

-- a length that is exact is also the length up to a bound
pub exact_most : (o : Option Control) (len : Option ℕ) (most : ℕ) → len ≡ length_of_control o → length (control_part o) ≤ most → len ≡ option_map (λ c. min most (length (records_text (control_records c)))) o
exact_most None len most is room = is
exact_most (Some c) len most is room = is ∙ ap (λ (n : ℕ). Some n) (omega (arith, control_part_length c, room))

-- how long an RPC is, by the lengths of its parts
pub measured_length : (v : Rpc) (plain result most : ℕ) (control : Option ℕ)
    → IsMeasured v plain control
    → ((o : Option Control) → control ≡ option_map (λ c. min most (length (records_text (control_records c)))) o → result ≡ min most (length (control_part o)))
    → longest_body ≤ most
    → plain + result ≡ length (body v)
measured_length v plain result most control is told room =
    let within : length (control_part v.control) ≤ most = omega (arith, is.fits, body_length v, room) in
    let exact : result ≡ length (control_part v.control) = omega (arith, told v.control (exact_most v.control control most is.inside within), within) in
    omega (arith, exact, body_length v, is.outside)

-- how long an RPC is with one more, which is a small number
pub grown : (held : Option Rpc) (v : Rpc) (plain more result most : ℕ) (before control : Option ℕ)
    → IsMeasured (as_one held) plain before
    → length (body v) ≤ longest_body
    → more ≡ plain_length v
    → control ≡ control_length (joined_rpc (as_one held) v)
    → ((o : Option Control) → control ≡ option_map (λ c. min most (length (records_text (control_records c)))) o → result ≡ min most (length (control_part o)))
    → 2 ^ 22 ≤ most
    → ((plain + more) + result ≡ length (body (joined_to held v))) × (length (body (joined_to held v)) < 2 ^ 22)
grown held v plain more result most before control is v_fits more_is control_is told room =
    let joined = joined_rpc (as_one held) v in
    let small : length (body joined) < 2 ^ 22 = joined_small (as_one held) v is.fits v_fits in
    let within : length (control_part joined.control) ≤ most = omega (arith, small, body_length joined, room) in
    let exact : result ≡ length (control_part joined.control) = omega (arith, told joined.control (exact_most joined.control control most control_is within), within) in
    rw (joined_to-as_one held v) (omega (arith, exact, body_length joined, plain_length-joined (as_one held) v, is.outside, more_is), small)

-- the lengths of an RPC with one more
pub measured_more : (held : Option Rpc) (v : Rpc) (plain more : ℕ) (before control : Option ℕ)
    → IsMeasured (as_one held) plain before
    → more ≡ plain_length v
    → control ≡ control_length (joined_rpc (as_one held) v)
    → length (body (joined_to held v)) ≤ longest_body
    → IsMeasured (joined_to held v) (plain + more) control
measured_more held v plain more before control is more_is control_is fits =
    rw (joined_to-as_one held v) (record {
      outside = omega (arith, is.outside, more_is, plain_length-joined (as_one held) v);
      inside = control_is;
      fits = subst (λ (u : Rpc). length (body u) ≤ longest_body) (joined_to-as_one held v) fits;
    })

-- the record of control messages whose length is known
pub recorded : (v : Rpc) (n : ℕ) → Some n ≡ control_length v → control_part v.control ≡ (26 ∷ varint n) ++ records_text (control_records (control_of v))
recorded v n is = of_option v.control n is
  where
    of_option : (o : Option Control) (n : ℕ) → Some n ≡ length_of_control o → control_part o ≡ (26 ∷ varint n) ++ records_text (control_records (unwrap_or o no_control))
    of_option None n is = absurd cc
    of_option (Some c) n is =
        let text = records_text (control_records c) in
        control_part_text c ∙ ap (λ (k : ℕ). (26 ∷ varint k) ++ text) (sym (same_Some n (length text) is))

-- ---- what is copied

-- what is copied of those so far and the next one
pub copied_more : {A : Type 0} (f : A → List ℕ) (vs : List A) (i : ℕ) (v : A) → i < length vs → v ≡ get_or vs i v → flat_map f (take (i + 1) vs) ≡ flat_map f (take i vs) ++ f v
copied_more {A} f vs i v below is =
    ap (flat_map f) (take_more vs i v below ∙ ap (λ (w : A). take i vs ++ w ∷ []) (sym is)) ∙ flat_map-append f (take i vs) (v ∷ []) ∙ ap (λ (t : List ℕ). flat_map f (take i vs) ++ t) (append-nil (f v))

-- it is no longer than what is copied of all
pub copied_room : {A : Type 0} (f : A → List ℕ) (vs : List A) (i : ℕ) (v : A) → i < length vs → v ≡ get_or vs i v → length (flat_map f (take i vs)) + length (f v) ≤ length (flat_map f vs)
copied_room {A} f vs i v below is =
    omega (arith, length-flat_map-take f vs i v below, ap (λ (w : A). length (f w)) is)
