-- What is proved of each kind of control message, and of control messages as a whole. A kind more needs a line or a lemma
-- in each part of this file.
use Rattle.std.proofs.Common.{◌≡◌, ℕ, ◌+◌, ◌<◌, ◌≤◌, ◌^◌, List, [], ◌∷◌, ◌++◌, length, length-append, map, Option, Some, None, refl, sym, ap, ◌∙◌, append_assoc, append-nil, arith, rules, inl, inr}
use Rattle.std.specs.Prelude.{unwrap_or}
use Rattle.std.specs.List.{AllZip, flat_map}
use Rattle.gs_base.specs.declared.control.IHave.{IHave}
use Rattle.gs_base.specs.declared.control.IWant.{IWant}
use Rattle.gs_base.specs.declared.control.Graft.{Graft}
use Rattle.gs_base.specs.declared.control.Prune.{Prune}
use Rattle.gs_base.specs.declared.control.Control.{Control}
use Rattle.gs_base.specs.declared.rpc.Rpc.{Rpc}
use Rattle.gs_base.specs.Rpcs.{empty_rpc, grafts_in, offers_in, prunes_in, requests_in}
use Rattle.gs_wire.specs.declared.sections.ControlPlaces.{ControlPlaces}
use Rattle.gs_wire.specs.declared.sections.Section.{Section}
use Rattle.gs_wire.specs.declared.sections.Section.TheVariants.{Subscriptions, Messages, Offers, Requests, Grafts, Prunes}
use Rattle.gs_wire.specs.Records.{Record, len_values, records_text}
use Rattle.gs_wire.specs.Fields.{Spells, topic_of, number_of, topic_bytes, bytes_records, number_records, part_records}
use Rattle.gs_wire.specs.Controls.{all_control, SaysControl, SaysGraft, SaysIHave, SaysIWant, SaysPrune, control_records, graft_records, ihave_records, iwant_records, joined_control, no_control, prune_records}
use Rattle.gs_wire.specs.Messages.{IsPrune, IsControl, sub_records, message_records}
use Rattle.gs_wire.specs.Joining.{joined_rpc, joined_rpcs}
use Rattle.gs_wire.specs.Gathering.{as_one}
use Rattle.gs_wire.specs.Sections.{ControlStands, control_of, section}
use Rattle.gs_wire.proofs.Zips.{AllZip-append, AllZip-same}
use Rattle.gs_wire.proofs.Parts.{one_said}
use Rattle.gs_wire.proofs.Written.{part_length-append, part_text-append, records_text-append, sum_text}
use Rattle.gs_wire.proofs.Deciding.{Decided, part, zips}
use Rattle.gs_wire.proofs.RoundTrip.{IsWritable, all-append, bytes_writable, number_writable, repeated_writable, records_spelled, values-append, numbers-append, bytes_values, number_values, no_bytes, no_numbers, part_values, repeated_values, last_own, last_number_own, own_topic, parts_spelled, Any, all_any}
use Rattle.gs_wire.proofs.ShorterFields.{IsShorter, all_counted, all_spelled, no_fields, number_more, parts_more, repeated_more, topic_more}
use Rattle.gs_wire.proofs.JoinedLists.{in_all, in_both}

-- ---- what records say of a part

abbrev pub ihave_of : List Record → IHave
ihave_of rs = record { topic = topic_of 1 rs; ids = len_values 2 rs }

abbrev pub iwant_of : List Record → IWant
iwant_of rs = record { ids = len_values 1 rs }

abbrev pub graft_of : List Record → Graft
graft_of rs = record { topic = topic_of 1 rs }

abbrev pub prune_of : List Record → Prune
prune_of rs = record { topic = topic_of 1 rs; backoff = number_of 3 rs }

-- no records say no control messages
pub none_says : SaysControl [] no_control
none_says = record { ihave = tt; iwant = tt; graft = tt; prune = tt }

-- ---- records say one control message at most

pub same_control : (rs : List Record) (v w : Control) → SaysControl rs v → SaysControl rs w → v ≡ w
same_control rs v w p q =
    let ihave = AllZip-same (Spells SaysIHave) (one_said ihave_of) (len_values 1 rs) v.ihave w.ihave p.ihave q.ihave in
    let iwant = AllZip-same (Spells SaysIWant) (one_said iwant_of) (len_values 2 rs) v.iwant w.iwant p.iwant q.iwant in
    let graft = AllZip-same (Spells SaysGraft) (one_said graft_of) (len_values 3 rs) v.graft w.graft p.graft q.graft in
    let prune = AllZip-same (Spells SaysPrune) (one_said prune_of) (len_values 4 rs) v.prune w.prune p.prune q.prune in
    ap (λ (x : List IHave). record v { ihave = x }) ihave
    ∙ ap (λ (x : List IWant). record v { ihave = w.ihave; iwant = x }) iwant
    ∙ ap (λ (x : List Graft). record w { graft = x; prune = v.prune }) graft
    ∙ ap (λ (x : List Prune). record w { prune = x }) prune

-- ---- it is decided what records say

ihaves : (values : List (List ℕ)) → Decided (AllZip (Spells SaysIHave)) values
ihaves values = zips (Spells SaysIHave) (part SaysIHave ihave_of (λ rs. refl)) values

iwants : (values : List (List ℕ)) → Decided (AllZip (Spells SaysIWant)) values
iwants values = zips (Spells SaysIWant) (part SaysIWant iwant_of (λ rs. refl)) values

grafts : (values : List (List ℕ)) → Decided (AllZip (Spells SaysGraft)) values
grafts values = zips (Spells SaysGraft) (part SaysGraft graft_of (λ rs. refl)) values

prunes : (values : List (List ℕ)) → Decided (AllZip (Spells SaysPrune)) values
prunes values = zips (Spells SaysPrune) (part SaysPrune prune_of (λ rs. refl)) values

pub control_said : (rs : List Record) → Decided SaysControl rs
control_said rs = elim (ihaves (len_values 1 rs)) [
  | inr none ↦ inr (λ v h. none v.ihave h.ihave)
  | inl ihave ↦ elim (iwants (len_values 2 rs)) [
    | inr none ↦ inr (λ v h. none v.iwant h.iwant)
    | inl iwant ↦ elim (grafts (len_values 3 rs)) [
      | inr none ↦ inr (λ v h. none v.graft h.graft)
      | inl graft ↦ elim (prunes (len_values 4 rs)) [
        | inr none ↦ inr (λ v h. none v.prune h.prune)
        | inl prune ↦ inl (record { ihave = ihave.0; iwant = iwant.0; graft = graft.0; prune = prune.0 }, record { ihave = ihave.1; iwant = iwant.1; graft = graft.1; prune = prune.1 })
      ]
    ]
  ]
]

-- ---- what is written spells what was written

ihave_spelled : (v : IHave) → Any v → length (records_text (ihave_records v)) < 2 ^ 64 → Spells SaysIHave (records_text (ihave_records v)) v
ihave_spelled v any small = (
  ihave_records v,
  records_spelled (ihave_records v) (search (rules, all-append, bytes_writable, repeated_writable)) small,
  sym (simp (values-append, bytes_values, repeated_values, append-nil, last_own, own_topic) refl),
)

iwant_spelled : (v : IWant) → Any v → length (records_text (iwant_records v)) < 2 ^ 64 → Spells SaysIWant (records_text (iwant_records v)) v
iwant_spelled v any small = (
  iwant_records v,
  records_spelled (iwant_records v) (search (rules, repeated_writable)) small,
  sym (simp repeated_values refl),
)

graft_spelled : (v : Graft) → Any v → length (records_text (graft_records v)) < 2 ^ 64 → Spells SaysGraft (records_text (graft_records v)) v
graft_spelled v any small = (
  graft_records v,
  records_spelled (graft_records v) (search (rules, bytes_writable)) small,
  sym (simp (bytes_values, last_own, own_topic) refl),
)

prune_spelled : (v : Prune) → IsPrune v → length (records_text (prune_records v)) < 2 ^ 64 → Spells SaysPrune (records_text (prune_records v)) v
prune_spelled v fits small = (
  prune_records v,
  records_spelled (prune_records v) (all-append IsWritable (bytes_records 1 (topic_bytes v.topic)) (number_records 3 v.backoff) (bytes_writable 1 (topic_bytes v.topic) (omega arith) (omega arith)) (number_writable 3 v.backoff fits (omega arith) (omega arith))) small,
  sym (simp (values-append, numbers-append, bytes_values, number_values, no_bytes, no_numbers, append-nil, last_own, last_number_own, own_topic) refl),
)

pub control_says : (v : Control) → IsControl v → length (records_text (control_records v)) < 2 ^ 64 → SaysControl (control_records v) v
control_says v fits small =
    let few = simp sum_text at small in
    record {
      ihave = simp (values-append, part_values, append-nil) (parts_spelled SaysIHave Any ihave_records 1 v.ihave (omega arith) ihave_spelled (all_any v.ihave) (omega (arith, few)));
      iwant = simp (values-append, part_values, append-nil) (parts_spelled SaysIWant Any iwant_records 2 v.iwant (omega arith) iwant_spelled (all_any v.iwant) (omega (arith, few)));
      graft = simp (values-append, part_values, append-nil) (parts_spelled SaysGraft Any graft_records 3 v.graft (omega arith) graft_spelled (all_any v.graft) (omega (arith, few)));
      prune = simp (values-append, part_values, append-nil) (parts_spelled SaysPrune IsPrune prune_records 4 v.prune (omega arith) prune_spelled fits (omega (arith, few)));
    }

-- ---- what was read is not longer when it is written

ihave_shorter : (bytes : List ℕ) (v : IHave) → Spells SaysIHave bytes v → IsShorter ihave_records bytes v
ihave_shorter bytes v (rs, spelled, says) =
    let a = topic_more 1 (no_fields rs) (omega arith) in
    let b = repeated_more 2 a (omega arith) in
    rw says (all_spelled bytes spelled b)

iwant_shorter : (bytes : List ℕ) (v : IWant) → Spells SaysIWant bytes v → IsShorter iwant_records bytes v
iwant_shorter bytes v (rs, spelled, says) = rw says (all_spelled bytes spelled (repeated_more 1 (no_fields rs) (omega arith)))

graft_shorter : (bytes : List ℕ) (v : Graft) → Spells SaysGraft bytes v → IsShorter graft_records bytes v
graft_shorter bytes v (rs, spelled, says) = rw says (all_spelled bytes spelled (topic_more 1 (no_fields rs) (omega arith)))

prune_shorter : (bytes : List ℕ) (v : Prune) → Spells SaysPrune bytes v → IsShorter prune_records bytes v
prune_shorter bytes v (rs, spelled, says) =
    let a = topic_more 1 (no_fields rs) (omega arith) in
    let b = number_more 3 a (omega arith) in
    rw says (all_spelled bytes spelled b)

pub control_says_shorter : (rs : List Record) (v : Control) → SaysControl rs v → length (records_text (control_records v)) ≤ length (records_text rs)
control_says_shorter rs v says =
    let a = parts_more (Spells SaysIHave) ihave_records 1 ihave_shorter v.ihave says.ihave (no_fields rs) (omega arith) in
    let b = parts_more (Spells SaysIWant) iwant_records 2 iwant_shorter v.iwant says.iwant a (omega arith) in
    let c = parts_more (Spells SaysGraft) graft_records 3 graft_shorter v.graft says.graft b (omega arith) in
    let d = parts_more (Spells SaysPrune) prune_records 4 prune_shorter v.prune says.prune c (omega arith) in
    all_counted d

-- ---- joined control messages

pub control_grouping : (b c d : Control) → joined_control (joined_control b c) d ≡ joined_control b (joined_control c d)
control_grouping b c d = rw (append_assoc b.ihave c.ihave d.ihave, append_assoc b.iwant c.iwant d.iwant, append_assoc b.graft c.graft d.graft, append_assoc b.prune c.prune d.prune) refl

pub control_says_both : (rs qs : List Record) (c d : Control) → SaysControl rs c → SaysControl qs d → SaysControl (rs ++ qs) (joined_control c d)
control_says_both rs qs c d h k = record {
  ihave = rw (values-append 1 rs qs) (AllZip-append (Spells SaysIHave) (len_values 1 rs) c.ihave (len_values 1 qs) d.ihave h.ihave k.ihave);
  iwant = rw (values-append 2 rs qs) (AllZip-append (Spells SaysIWant) (len_values 2 rs) c.iwant (len_values 2 qs) d.iwant h.iwant k.iwant);
  graft = rw (values-append 3 rs qs) (AllZip-append (Spells SaysGraft) (len_values 3 rs) c.graft (len_values 3 qs) d.graft h.graft k.graft);
  prune = rw (values-append 4 rs qs) (AllZip-append (Spells SaysPrune) (len_values 4 rs) c.prune (len_values 4 qs) d.prune h.prune k.prune);
}

-- control messages, part by part
control_sum : (c : Control) → length (records_text (control_records c)) ≡ length (records_text (part_records ihave_records 1 c.ihave)) + length (records_text (part_records iwant_records 2 c.iwant)) + length (records_text (part_records graft_records 3 c.graft)) + length (records_text (part_records prune_records 4 c.prune))
control_sum c =
    let A = part_records ihave_records 1 c.ihave in
    let B = part_records iwant_records 2 c.iwant in
    let C = part_records graft_records 3 c.graft in
    let D = part_records prune_records 4 c.prune in
    omega (arith, sum_text (A ++ B ++ C) D, sum_text (A ++ B) C, sum_text A B)

-- how long both together are
pub control_length-both : (c d : Control) → length (records_text (control_records (joined_control c d))) ≡ length (records_text (control_records c)) + length (records_text (control_records d))
control_length-both c d =
    omega (
      arith,
      control_sum (joined_control c d),
      control_sum c,
      control_sum d,
      part_length-append ihave_records 1 c.ihave d.ihave,
      part_length-append iwant_records 2 c.iwant d.iwant,
      part_length-append graft_records 3 c.graft d.graft,
      part_length-append prune_records 4 c.prune d.prune,
    )

-- ---- the sections of a body

pub section-empty : (wanted : Section) → section wanted empty_rpc ≡ []
section-empty Subscriptions = refl
section-empty Messages = refl
section-empty Offers = refl
section-empty Requests = refl
section-empty Grafts = refl
section-empty Prunes = refl

-- what is written for control messages is their sections in order
pub sections_of_control : (v : Rpc) → flat_map (λ (s : Section). section s v) (Offers ∷ Requests ∷ Grafts ∷ Prunes ∷ []) ≡ records_text (control_records (control_of v))
sections_of_control v = simp (records_text-append, append_assoc, append-nil) refl

-- a section of joined RPCs is that of the first and then that of the second
pub section-joined : (wanted : Section) (u v : Rpc) → section wanted (joined_rpc u v) ≡ section wanted u ++ section wanted v
section-joined Subscriptions u v = part_text-append sub_records 1 u.subs v.subs
section-joined Messages u v = part_text-append message_records 2 u.publish v.publish
section-joined Offers u v =
    ap (λ vs. records_text (part_records ihave_records 1 vs)) (in_both (λ o. (unwrap_or o no_control).ihave) refl (λ c d. refl) u.control v.control) ∙ part_text-append ihave_records 1 (control_of u).ihave (control_of v).ihave
section-joined Requests u v =
    ap (λ vs. records_text (part_records iwant_records 2 vs)) (in_both (λ o. (unwrap_or o no_control).iwant) refl (λ c d. refl) u.control v.control) ∙ part_text-append iwant_records 2 (control_of u).iwant (control_of v).iwant
section-joined Grafts u v =
    ap (λ vs. records_text (part_records graft_records 3 vs)) (in_both (λ o. (unwrap_or o no_control).graft) refl (λ c d. refl) u.control v.control) ∙ part_text-append graft_records 3 (control_of u).graft (control_of v).graft
section-joined Prunes u v =
    ap (λ vs. records_text (part_records prune_records 4 vs)) (in_both (λ o. (unwrap_or o no_control).prune) refl (λ c d. refl) u.control v.control) ∙ part_text-append prune_records 4 (control_of u).prune (control_of v).prune

-- the places of sections that follow one another from here on
pub record FollowFrom (start : ℕ) (places : ControlPlaces) (c : Control) : Type 0 where
  pub offers : places.offers.start ≡ start
  pub offers_end : places.offers.end ≡ places.offers.start + length (records_text (part_records ihave_records 1 c.ihave))
  pub requests : places.requests.start ≡ places.offers.end
  pub requests_end : places.requests.end ≡ places.requests.start + length (records_text (part_records iwant_records 2 c.iwant))
  pub grafts : places.grafts.start ≡ places.requests.end
  pub grafts_end : places.grafts.end ≡ places.grafts.start + length (records_text (part_records graft_records 3 c.graft))
  pub prunes : places.prunes.start ≡ places.grafts.end
  pub prunes_end : places.prunes.end ≡ places.prunes.start + length (records_text (part_records prune_records 4 c.prune))

-- control messages that were written at the end stand there, section after section
pub control_stands : (old text : List ℕ) (places : ControlPlaces) (c : Control) → text ≡ old ++ records_text (control_records c) → FollowFrom (length old) places c → ControlStands text places c
control_stands old text places c is f =
    let o = records_text (part_records ihave_records 1 c.ihave) in
    let r = records_text (part_records iwant_records 2 c.iwant) in
    let g = records_text (part_records graft_records 3 c.graft) in
    let p = records_text (part_records prune_records 4 c.prune) in
    record {
      offers = record { before = old; behind = r ++ (g ++ p); parts = rw is (simp (records_text-append, append_assoc) refl); start = f.offers; end = omega (arith, f.offers, f.offers_end) };
      requests = record { before = old ++ o; behind = g ++ p; parts = rw is (simp (records_text-append, append_assoc) refl); start = omega (arith, f.offers, f.offers_end, f.requests, length-append old o); end = omega (arith, f.offers, f.offers_end, f.requests, f.requests_end, length-append old o) };
      grafts = record { before = old ++ (o ++ r); behind = p; parts = rw is (simp (records_text-append, append_assoc) refl); start = omega (arith, f.offers, f.offers_end, f.requests, f.requests_end, f.grafts, length-append old (o ++ r), length-append o r); end = omega (arith, f.offers, f.offers_end, f.requests, f.requests_end, f.grafts, f.grafts_end, length-append old (o ++ r), length-append o r) };
      prunes = record { before = old ++ (o ++ (r ++ g)); behind = []; parts = rw is (simp (records_text-append, append_assoc, append-nil) refl); start = omega (arith, f.offers, f.offers_end, f.requests, f.requests_end, f.grafts, f.grafts_end, f.prunes, length-append old (o ++ (r ++ g)), length-append o (r ++ g), length-append r g); end = omega (arith, f.offers, f.offers_end, f.requests, f.requests_end, f.grafts, f.grafts_end, f.prunes, f.prunes_end, length-append old (o ++ (r ++ g)), length-append o (r ++ g), length-append r g) };
      all = record { before = old; behind = []; parts = rw is (simp append-nil refl); start = f.offers; end = omega (arith, f.offers, f.offers_end, f.requests, f.requests_end, f.grafts, f.grafts_end, f.prunes, f.prunes_end, control_sum c) };
    }

-- ---- the lists of several RPCs

-- control messages by their lists
by_lists : (o : Option Control) → unwrap_or o no_control ≡ record { ihave = offers_in o; iwant = requests_in o; graft = grafts_in o; prune = prunes_in o }
by_lists None = refl
by_lists (Some c) = refl

-- the control messages of all are the lists of all
pub all_control_is : {A : Type 0} (rpc_of : A → Rpc) (xs : List A) → all_control rpc_of xs ≡ control_of (as_one (joined_rpcs (map rpc_of xs)))
all_control_is rpc_of xs =
    rw (by_lists (as_one (joined_rpcs (map rpc_of xs))).control, in_all offers_in refl (λ c d. refl) rpc_of xs, in_all requests_in refl (λ c d. refl) rpc_of xs, in_all grafts_in refl (λ c d. refl) rpc_of xs, in_all prunes_in refl (λ c d. refl) rpc_of xs) refl
