-- RPCs that are joined: in any grouping, what spells them, and how long they are.
use Rattle.std.proofs.Common.{◌≡◌, ℕ, ◌+◌, ◌≤◌, List, [], ◌∷◌, ◌++◌, length, Option, Some, None, refl, sym, ap, ◌∙◌, append_assoc, append-nil, length-append, arith}
use Rattle.std.specs.Prelude.{option_to_list, ◌↔◌}
use Rattle.std.specs.List.{concat}
use Rattle.std.proofs.lemmas.Grind.{flat_map-append}
use Rattle.std.proofs.lemmas.Option.{none-some}
use Rattle.gs_base.specs.declared.control.Control.{Control}
use Rattle.gs_base.specs.declared.rpc.Rpc.{Rpc}
use Rattle.gs_wire.specs.Records.{SpellRecords, len_values, record_text, records_text}
use Rattle.gs_wire.specs.Fields.{Spells, len_record, part_records}
use Rattle.gs_wire.specs.Controls.{SaysMerged, control_records, joined, joined_control}
use Rattle.gs_wire.specs.Messages.{SaysSub, SaysMessage, SpellsRpc, IsInMemory, sub_records, message_records, body}
use Rattle.gs_wire.specs.Joining.{joined_controls, joined_rpc, joined_to, joined_options, joined_onto, joined_rpcs}
use Rattle.gs_wire.proofs.Zips.{AllZip-append}
use Rattle.gs_wire.proofs.RecordLists.{records_append}
use Rattle.gs_wire.proofs.RoundTrip.{values-append}
use Rattle.gs_wire.proofs.RpcRoundTrip.{body_spelled}
use Rattle.gs_wire.proofs.Written.{part_length-append, records_text-single, sum_text}
use Rattle.gs_wire.proofs.ShorterFields.{len_shorter}
use Rattle.gs_wire.proofs.Shorter.{joined_record}
use Rattle.gs_wire.proofs.ControlKinds.{control_grouping, control_length-both, control_says_both}

-- ---- in any grouping

controls_grouping : (b c d : Option Control) → joined_controls (joined_controls b c) d ≡ joined_controls b (joined_controls c d)
controls_grouping None c d = refl
controls_grouping (Some b) None d = refl
controls_grouping (Some b) (Some c) None = refl
controls_grouping (Some b) (Some c) (Some d) = ap (λ (e : Control). Some e) (control_grouping b c d)

pub rpc_grouping : (u v w : Rpc) → joined_rpc (joined_rpc u v) w ≡ joined_rpc u (joined_rpc v w)
rpc_grouping u v w = rw (append_assoc u.subs v.subs w.subs, append_assoc u.publish v.publish w.publish, controls_grouping u.control v.control w.control) refl

-- nothing before these, and nothing after them
pub options_none_first : (held : Option Rpc) → joined_options None held ≡ held
options_none_first None = refl
options_none_first (Some v) = refl

pub options_none_last : (held : Option Rpc) → joined_options held None ≡ held
options_none_last held = refl

pub options_grouping : (a b c : Option Rpc) → joined_options (joined_options a b) c ≡ joined_options a (joined_options b c)
options_grouping a b None = refl
options_grouping a None (Some w) = refl
options_grouping None (Some v) (Some w) = refl
options_grouping (Some u) (Some v) (Some w) = ap (λ (r : Rpc). Some r) (rpc_grouping u v w)

-- these, and then those
pub onto_append : (held : Option Rpc) (vs ws : List Rpc) → joined_onto held (vs ++ ws) ≡ joined_onto (joined_onto held vs) ws
onto_append held [] ws = refl
onto_append held (v ∷ vs) ws = onto_append (Some (joined_to held v)) vs ws

-- one RPC more after the others
pub onto_push : (held : Option Rpc) (vs : List Rpc) (v : Rpc) → joined_onto held (vs ++ v ∷ []) ≡ Some (joined_to (joined_onto held vs) v)
onto_push held vs v = onto_append held vs (v ∷ [])

-- an RPC and one more are joined to what is held one after the other, or both at once
pub to_grouping : (held : Option Rpc) (u v : Rpc) → joined_rpc (joined_to held u) v ≡ joined_to held (joined_rpc u v)
to_grouping None u v = refl
to_grouping (Some w) u v = rpc_grouping w u v

-- these, and then one
pub rpcs_push : (vs : List Rpc) (v : Rpc) → joined_rpcs (vs ++ v ∷ []) ≡ Some (joined_to (joined_rpcs vs) v)
rpcs_push vs v = onto_push None vs v

-- what is held, and all of these joined
pub onto_joined : (held : Option Rpc) (vs : List Rpc) → joined_onto held vs ≡ joined_options held (joined_rpcs vs)
onto_joined held [] = refl
onto_joined held (v ∷ vs) =
    onto_joined (Some (joined_to held v)) vs ∙ options_grouping held (Some v) (joined_rpcs vs) ∙ ap (joined_options held) (sym (onto_joined (Some v) vs))

pub rpcs_append : (vs ws : List Rpc) → joined_options (joined_rpcs vs) (joined_rpcs ws) ≡ joined_rpcs (vs ++ ws)
rpcs_append vs ws = sym (onto_append None vs ws ∙ onto_joined (joined_rpcs vs) ws)

-- ---- what is absent

pub controls_absent : (c d : Option Control) → (joined_controls c d ≡ None) ↔ ((c ≡ None) × (d ≡ None))
controls_absent None d = (λ e. (refl, e), λ h. h.1)
controls_absent (Some c) None = (λ e. (e, refl), λ h. h.0)
controls_absent (Some c) (Some d) = (λ e. absurd (none-some (joined_control c d) (sym e)), λ h. absurd (none-some c (sym h.0)))

never_absent : (u : Rpc) (vs : List Rpc) → joined_onto (Some u) vs ≡ None → ⊥
never_absent u [] e = none-some u (sym e)
never_absent u (v ∷ vs) e = never_absent (joined_rpc u v) vs e

pub rpcs_absent : (vs : List Rpc) → (joined_rpcs vs ≡ None) ↔ (vs ≡ [])
rpcs_absent [] = (λ e. refl, λ e. refl)
rpcs_absent (v ∷ vs) = (λ e. absurd (never_absent v vs e), λ e. absurd (omega (arith, ap length e)))

-- ---- what spells joined RPCs

merged_both : (xs ys : List (List ℕ)) (c d : Option Control) → SaysMerged xs c → SaysMerged ys d → SaysMerged (xs ++ ys) (joined_controls c d)
merged_both [] ys c d h k = rw h k
merged_both (x ∷ xs) [] c d (v, lists, is, spelled, says) k = rw (append-nil xs, is, k) (v, lists, refl, spelled, says)
merged_both (x ∷ xs) (y ∷ ys) c d (v, lists, is, spelled, says) (w, more, is', spelled', says') = (
  joined_control v w,
  lists ++ more,
  rw (is, is') refl,
  AllZip-append SpellRecords (x ∷ xs) lists (y ∷ ys) more spelled spelled',
  rw (flat_map-append (λ rs. rs) lists more) (control_says_both (joined lists) (joined more) v w says says'),
)

pub both_spelled : (x y : List ℕ) (v w : Rpc) → SpellsRpc x v → SpellsRpc y w → SpellsRpc (x ++ y) (joined_rpc v w)
both_spelled x y v w (rs, spelled, says) (qs, spelled', says') = (
  rs ++ qs,
  records_append rs qs x y spelled spelled',
  record {
    subs = rw (values-append 1 rs qs) (AllZip-append (Spells SaysSub) (len_values 1 rs) v.subs (len_values 1 qs) w.subs says.subs says'.subs);
    publish = rw (values-append 2 rs qs) (AllZip-append (Spells SaysMessage) (len_values 2 rs) v.publish (len_values 2 qs) w.publish says.publish says'.publish);
    control = rw (values-append 3 rs qs) (merged_both (len_values 3 rs) (len_values 3 qs) v.control w.control says.control says'.control);
  },
)

pub both_bodies_spelled : (v w : Rpc) → IsInMemory v → IsInMemory w → SpellsRpc (body v ++ body w) (joined_rpc v w)
both_bodies_spelled v w fits fits' = both_spelled (body v) (body w) v w (body_spelled v fits) (body_spelled w fits')

-- ---- how long they are

-- one record of both isn't longer than one of each
abbrev controls_text : Option Control → List ℕ
controls_text c = records_text (part_records control_records 3 (option_to_list c))

controls_shorter : (c d : Option Control) → length (controls_text (joined_controls c d)) ≤ length (controls_text c) + length (controls_text d)
controls_shorter None d = omega arith
controls_shorter (Some c) None = omega arith
controls_shorter (Some c) (Some d) =
    let one = records_text (control_records c) in
    let other = records_text (control_records d) in
    let both = records_text (control_records (joined_control c d)) in
    let len : length both ≤ length (concat (one ∷ other ∷ [])) = omega (arith, control_length-both c d, length-append one (other ++ []), length-append other []) in
    omega (
      arith,
      len_shorter 3 both (concat (one ∷ other ∷ [])) len,
      joined_record 3 one (other ∷ []),
      ap length (records_text-single (len_record 3 both)),
      ap length (records_text-single (len_record 3 one)),
      length-append (record_text (len_record 3 one)) (records_text (len_record 3 other ∷ [])),
    )

body_sum : (v : Rpc) → length (body v) ≡ length (records_text (part_records sub_records 1 v.subs)) + length (records_text (part_records message_records 2 v.publish)) + length (controls_text v.control)
body_sum v =
    let A = part_records sub_records 1 v.subs in
    let B = part_records message_records 2 v.publish in
    omega (arith, sum_text (A ++ B) (part_records control_records 3 (option_to_list v.control)), sum_text A B)

pub joined_body_shorter : (v w : Rpc) → length (body (joined_rpc v w)) ≤ length (body v) + length (body w)
joined_body_shorter v w =
    omega (
      arith,
      body_sum (joined_rpc v w),
      body_sum v,
      body_sum w,
      part_length-append sub_records 1 v.subs w.subs,
      part_length-append message_records 2 v.publish w.publish,
      controls_shorter v.control w.control,
    )
