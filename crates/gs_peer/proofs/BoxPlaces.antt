-- What outboxes hold, where one of them changes.
use Rattle.std.proofs.Common.{◌≡◌, ℕ, zero, suc, ◌<◌, ◌≤◌, Bool, true, false, nat_eq, nat_lt, cond, List, [], ◌∷◌, ◌++◌, length, refl, sym, ap, subst, ◌∙◌, true≢false, arith}
use Rattle.std.proofs.Math.Bool.{and-true}
use Rattle.std.proofs.Math.Dec.{eqb-zero-suc, eqb-suc-zero, eqb-suc-suc}
use Rattle.std.proofs.lemmas.Bool.{eqb-true, ltb-false}
use Rattle.std.proofs.lemmas.List.Folds.{list_any-append}
use Rattle.std.specs.Prelude.{◌≢◌, ◌&&◌, ◌||◌, if◌then◌else◌, Option, Some, None, option_map, unwrap_or, slice_get}
use Rattle.std.specs.Cmp.{nat_eq_equiv}
use Rattle.std.specs.Map.{lookup, values_of}
use Rattle.indexmap.specs.IndexMap.{set_value_at}
use Rattle.gs_base.specs.declared.names.PeerNo.{PeerNo}
use Rattle.gs_base.specs.declared.rpc.Rpc.{Rpc}
use Rattle.gs_base.specs.Names.{same_peer}
use Rattle.gs_base.specs.Codecs.{Codec}
use Rattle.gs_rules.specs.declared.event.Event.{Event}
use Rattle.gs_rules.specs.Modes.{sent_to}
use Rattle.gs_rules.specs.Saying.{Outgoing, behind_event, sending, sending_all}
use Rattle.gs_link.specs.declared.item.Slot.{Slot}
use Rattle.gs_link.specs.Flat.{flat}
use Rattle.gs_peer.specs.declared.outbox.Outbox.{Outbox}
use Rattle.gs_peer.specs.Outboxes.{is_neighbour, outgoing_of, place_in}

-- ---- one place

module _ (q : PeerNo) where
  place_set_by : (b : Bool) (old new : ℕ) → new ≡ old → (if b then 0 else suc new) ≡ (if b then 0 else suc old)
  place_set_by b old new is = ap (λ (k : ℕ). if b then 0 else suc k) is

  -- a change of a value moves nobody
  pub place_set : (xs : List (PeerNo × Outbox)) (place : ℕ) (new : Outbox) → place_in (set_value_at xs place new) q ≡ place_in xs q
  place_set [] place new = refl
  place_set (x ∷ xs) zero new = refl
  place_set (x ∷ xs) (suc place) new = place_set_by (same_peer q x.0) (place_in xs q) (place_in (set_value_at xs place new) q) (place_set xs place new)

  set_first : (b : Bool) (k : ℕ) (old new : Outbox) (rest : Option Outbox) → cond b (Some new) rest ≡ cond (nat_eq zero (if b then 0 else suc k)) (Some new) (cond b (Some old) rest)
  set_first true k old new rest = refl
  set_first false k old new rest = sym (ap (λ (b : Bool). cond b (Some new) rest) (eqb-zero-suc k))

  set_later : (b : Bool) (place k : ℕ) (old new : Outbox) (was now : Option Outbox) → now ≡ cond (nat_eq place k) (Some new) was → cond b (Some old) now ≡ cond (nat_eq (suc place) (if b then 0 else suc k)) (Some new) (cond b (Some old) was)
  set_later true place k old new was now is = sym (ap (λ (b : Bool). cond b (Some new) (Some old)) (eqb-suc-zero place))
  set_later false place k old new was now is = is ∙ sym (ap (λ (b : Bool). cond b (Some new) was) (eqb-suc-suc place k))

  -- after a change at a place, it is there that the new one is found
  pub found_set : (xs : List (PeerNo × Outbox)) (place : ℕ) (new : Outbox) → place < length xs → lookup (same_peer q) (set_value_at xs place new) ≡ cond (nat_eq place (place_in xs q)) (Some new) (lookup (same_peer q) xs)
  found_set [] place new low = absurd (omega (arith, low))
  found_set (x ∷ xs) zero new low = set_first (same_peer q x.0) (place_in xs q) x.1 new (lookup (same_peer q) xs)
  found_set (x ∷ xs) (suc place) new low =
      set_later (same_peer q x.0) place (place_in xs q) x.1 new (lookup (same_peer q) xs) (lookup (same_peer q) (set_value_at xs place new)) (found_set xs place new (omega (arith, low)))

  at_first : (b : Bool) (k : ℕ) (box : Outbox) (rest : Option Outbox) → nat_eq zero (if b then 0 else suc k) ≡ true → cond b (Some box) rest ≡ Some box
  at_first true k box rest here = refl
  at_first false k box rest here = absurd (true≢false (sym here ∙ eqb-zero-suc k))

  at_later : (b : Bool) (place k : ℕ) (box : Outbox) (rest there : Option Outbox) → (nat_eq place k ≡ true → rest ≡ there) → nat_eq (suc place) (if b then 0 else suc k) ≡ true → cond b (Some box) rest ≡ there
  at_later true place k box rest there later here = absurd (true≢false (sym here ∙ eqb-suc-zero place))
  at_later false place k box rest there later here = later (sym (eqb-suc-suc place k) ∙ here)

  -- at its place stands what is found
  pub found_at : (xs : List (PeerNo × Outbox)) (place : ℕ) → nat_eq place (place_in xs q) ≡ true → lookup (same_peer q) xs ≡ slice_get (values_of xs) place
  found_at [] place here = refl
  found_at (x ∷ xs) zero here = at_first (same_peer q x.0) (place_in xs q) x.1 (lookup (same_peer q) xs) here
  found_at (x ∷ xs) (suc place) here =
      at_later (same_peer q x.0) place (place_in xs q) x.1 (lookup (same_peer q) xs) (slice_get (values_of xs) place) (found_at xs place) here

  absent_by : (b : Bool) (len k : ℕ) (box : Outbox) (rest : Option Outbox) → (len ≤ k → rest ≡ None) → suc len ≤ (if b then 0 else suc k) → cond b (Some box) rest ≡ None
  absent_by true len k box rest later past = absurd (omega (arith, past))
  absent_by false len k box rest later past = later (omega (arith, past))

  -- who has no place among them has none
  pub absent : (xs : List (PeerNo × Outbox)) → length xs ≤ place_in xs q → lookup (same_peer q) xs ≡ None
  absent [] past = refl
  absent (x ∷ xs) past = absent_by (same_peer q x.0) (length xs) (place_in xs q) x.1 (lookup (same_peer q) xs) (absent xs) past

-- ---- what is found

abbrev pub open_in : Option Outbox → Bool
open_in found = unwrap_or (option_map (λ (box : Outbox). box.is_open) found) false

abbrev pub slots_in : Option Outbox → List Slot
slots_in found = unwrap_or (option_map (λ (box : Outbox). box.slots) found) []

abbrev pub goes_in : Option Outbox → Outgoing
goes_in found = record {
  said = flat (slots_in found);
  gathered = unwrap_or (option_map (λ (box : Outbox). box.gathered) found) None;
}

-- what f cannot tell from the old one is as it was
pub same_by : {Y : Type 0} (f : Outbox → Y) (d : Y) (here : Bool) (old new : Outbox) (was now : Option Outbox) → now ≡ cond here (Some new) was → (here ≡ true → was ≡ Some old) → f new ≡ f old → unwrap_or (option_map f now) d ≡ unwrap_or (option_map f was) d
same_by {Y} f d true old new was now is there same =
    let at = λ (found : Option Outbox). unwrap_or (option_map f found) d in
    ap at is ∙ same ∙ sym {A = Y} (ap at (there refl))
same_by {Y} f d false old new was now is there same = ap (λ (found : Option Outbox). unwrap_or (option_map f found) d) is

-- what f makes of what is to go out, where more may be said, and here
abbrev pub told : (Outgoing → Outgoing) → Bool → Bool → Outgoing → Outgoing
told f may here o = if may && here then f o else o

told_here : (f : Outgoing → Outgoing) (may : Bool) (o : Outgoing) → (if may then f o else o) ≡ told f may true o
told_here f true o = refl
told_here f false o = refl

told_elsewhere : (f : Outgoing → Outgoing) (may : Bool) (o : Outgoing) → o ≡ told f may false o
told_elsewhere f true o = refl
told_elsewhere f false o = refl

-- one of them is told
pub told_by : (f : Outgoing → Outgoing) (here : Bool) (old new : Outbox) (was now : Option Outbox) → now ≡ cond here (Some new) was → (here ≡ true → was ≡ Some old) → outgoing_of new ≡ (if old.is_open then f (outgoing_of old) else outgoing_of old) → goes_in now ≡ told f (open_in was) here (goes_in was)
told_by f true old new was now is there says =
    ap goes_in is
    ∙ says
    ∙ told_here f old.is_open (outgoing_of old)
    ∙ sym (ap (λ (found : Option Outbox). told f (open_in found) true (goes_in found)) (there refl))
told_by f false old new was now is there says = ap goes_in is ∙ told_elsewhere f (open_in was) (goes_in was)

-- there is none here
pub told_none : (f : Outgoing → Outgoing) (here : Bool) (was : Option Outbox) → (here ≡ true → was ≡ None) → goes_in was ≡ told f (open_in was) here (goes_in was)
told_none f true was there = subst (λ (found : Option Outbox). goes_in found ≡ told f (open_in found) true (goes_in found)) (sym (there refl)) refl
told_none f false was there = told_elsewhere f (open_in was) (goes_in was)

-- one of them is shut
pub shut_by : (here : Bool) (new : Outbox) (was now : Option Outbox) → now ≡ cond here (Some new) was → new.is_open ≡ false → open_in now ≡ cond here false (open_in was)
shut_by true new was now is shut = ap open_in is ∙ shut
shut_by false new was now is shut = ap open_in is

pub shut_none : (here : Bool) (was : Option Outbox) → (here ≡ true → was ≡ None) → open_in was ≡ cond here false (open_in was)
shut_none true was there = ap open_in (there refl)
shut_none false was there = refl

-- ---- all places

both_so : {Y : Type 0} (b : Bool) (y : Y) → cond b y y ≡ y
both_so true y = refl
both_so false y = refl

open_below : (q : PeerNo) (xs : List (PeerNo × Outbox)) (b : Bool) → nat_lt (place_in xs q) (length xs) ≡ b → (open_in (lookup (same_peer q) xs) && b) ≡ open_in (lookup (same_peer q) xs)
open_below q xs true is = and-true (open_in (lookup (same_peer q) xs))
open_below q xs false is =
    let shut : open_in (lookup (same_peer q) xs) ≡ false = ap open_in (absent q xs (ltb-false (place_in xs q) (length xs) is)) in
    ap (λ (o : Bool). o && false) shut ∙ sym shut

pub told_to_end : (f : Outgoing → Outgoing) (q : PeerNo) (xs : List (PeerNo × Outbox)) (i : ℕ) (old now : Outgoing) → i ≡ length xs → now ≡ told f (open_in (lookup (same_peer q) xs)) (nat_lt (place_in xs q) i) old → now ≡ (if open_in (lookup (same_peer q) xs) then f old else old)
told_to_end f q xs i old now ends is =
    is ∙ ap (λ (b : Bool). if b then f old else old)
    (ap (λ (n : ℕ). open_in (lookup (same_peer q) xs) && nat_lt (place_in xs q) n) ends ∙ open_below q xs (nat_lt (place_in xs q) (length xs)) refl)

shut_below : (q : PeerNo) (xs : List (PeerNo × Outbox)) (b : Bool) → nat_lt (place_in xs q) (length xs) ≡ b → cond b false (open_in (lookup (same_peer q) xs)) ≡ false
shut_below q xs true is = refl
shut_below q xs false is = ap open_in (absent q xs (ltb-false (place_in xs q) (length xs) is))

pub shut_to_end : (q : PeerNo) (xs : List (PeerNo × Outbox)) (i : ℕ) (now : Bool) → i ≡ length xs → now ≡ cond (nat_lt (place_in xs q) i) false (open_in (lookup (same_peer q) xs)) → now ≡ false
shut_to_end q xs i now ends is =
    is ∙ ap (λ (n : ℕ). cond (nat_lt (place_in xs q) n) false (open_in (lookup (same_peer q) xs))) ends
    ∙ shut_below q xs (nat_lt (place_in xs q) (length xs)) refl

-- ---- one neighbour

-- it is found under its number
pub found_here : (to q : PeerNo) (xs : List (PeerNo × Outbox)) (found : Option Outbox) → lookup (same_peer to) xs ≡ found → same_peer to q ≡ true → lookup (same_peer q) xs ≡ found
found_here to q xs found is same = sym (ap (λ (n : ℕ). lookup (λ (p : PeerNo). nat_eq n p.0) xs) (eqb-true to.0 q.0 same)) ∙ is

-- what stands at a place is one box
pub box_is : (k to : PeerNo) (old box : Outbox) (found : Option (PeerNo × Outbox)) → found ≡ Some (k, old) → found ≡ Some (to, box) → old ≡ box
box_is k to old box found is there = ap (λ (x : Option (PeerNo × Outbox)). (unwrap_or x (to, box)).1) (sym is ∙ there)

-- where one is put, it is found
pub put_is : (to : PeerNo) (new : Outbox) (was now : Option Outbox) → now ≡ cond (same_peer to to) (Some new) was → now ≡ Some new
put_is to new was now is = let laws = nat_eq_equiv in is ∙ ap (λ (b : Bool). cond b (Some new) was) (laws.refl to.0)

pub emptied : {Y : Type 0} (b : Bool) (d now was : Y) → now ≡ cond b d was → was ≡ d → now ≡ d
emptied b d now was is none = is ∙ ap (λ y. cond b d y) none ∙ both_so b d

-- of another nothing changes
pub stays_apart : (to q : PeerNo) (new : Outbox) (was now : Option Outbox) → now ≡ cond (same_peer to q) (Some new) was → q ≢ to → slots_in now ≡ slots_in was
stays_apart to q new was now is apart = ap slots_in (is ∙ elsewhere (same_peer to q) refl)
  where
    elsewhere : (b : Bool) → same_peer to q ≡ b → cond b (Some new) was ≡ was
    elsewhere true same =
        let one : q ≡ to = ap (λ (n : ℕ). record { 0 = n }) (sym (eqb-true to.0 q.0 same)) in
        absurd (apart one)
    elsewhere false same = refl

-- ---- what an entry says

-- what is to go to q after these sends, the first one first
abbrev pub after_sends : Codec → PeerNo → Bool → Outgoing → List (PeerNo × Rpc) → Outgoing
after_sends c q may o [] = o
after_sends c q may o (x ∷ xs) = after_sends c q may (if may && same_peer x.0 q then sending c o x.1 else o) xs

sent_more : (c : Codec) (o : Outgoing) (here : Bool) (rpc : Rpc) (rpcs : List Rpc) → sending_all c (if here then sending c o rpc else o) rpcs ≡ sending_all c o (if here then rpc ∷ rpcs else rpcs)
sent_more c o true rpc rpcs = refl
sent_more c o false rpc rpcs = refl

-- of what is sent, q's part is gathered, where more may be said to it
pub sends_told : (c : Codec) (q : PeerNo) (may : Bool) (o : Outgoing) (sends : List (PeerNo × Rpc)) → after_sends c q may o sends ≡ (if may then sending_all c o (sent_to q sends) else o)
sends_told c q true o [] = refl
sends_told c q true o (x ∷ xs) =
    sends_told c q true (if same_peer x.0 q then sending c o x.1 else o) xs
    ∙ sent_more c o (same_peer x.0 q) x.1 (sent_to q xs)
sends_told c q false o [] = refl
sends_told c q false o (x ∷ xs) = sends_told c q false o xs

-- the sends, and then the event
pub entry_told : (c : Codec) (q : PeerNo) (may still : Bool) (given sends : List (PeerNo × Rpc)) (event : Event) (old sent new : Outgoing)
    → given ≡ sends
    → sent ≡ (if may then sending_all c old (sent_to q given) else old)
    → still ≡ may
    → new ≡ (if still then behind_event c q sent event else sent)
    → new ≡ (if may then behind_event c q (sending_all c old (sent_to q sends)) event else old)
entry_told c q true still given sends event old sent new are before same here =
    here
    ∙ ap (λ (b : Bool). if b then behind_event c q sent event else sent) same
    ∙ ap (λ (o : Outgoing). behind_event c q o event) (before ∙ ap (λ (xs : List (PeerNo × Rpc)). sending_all c old (sent_to q xs)) are)
entry_told c q false still given sends event old sent new are before same here =
    here
    ∙ ap (λ (b : Bool). if b then behind_event c q sent event else sent) same
    ∙ before

-- ---- whose outboxes are open

or_false : (b : Bool) → (b || false) ≡ b
or_false true = refl
or_false false = refl

-- who was open stays so
pub stays_open : (was now : PeerNo → Bool) (p : PeerNo) → ((q : PeerNo) → now q ≡ (was q || same_peer p q)) → (q : PeerNo) → was q ≡ true → now q ≡ true
stays_open was now p opens q before = opens q ∙ ap (λ (b : Bool). b || same_peer p q) before

-- one neighbour more
pub each_more : (was now : PeerNo → Bool) (p : PeerNo) (xs ys : List PeerNo)
    → ys ≡ xs ++ p ∷ []
    → ((q : PeerNo) → now q ≡ (was q || same_peer p q))
    → ((q : PeerNo) → was q ≡ is_neighbour xs q)
    → (q : PeerNo) → now q ≡ is_neighbour ys q
each_more was now p xs ys more opens before q =
    opens q
    ∙ ap (λ (b : Bool). b || same_peer p q) (before q)
    ∙ sym
    (ap (λ (zs : List PeerNo). is_neighbour zs q) more
    ∙ list_any-append (λ (n : PeerNo). same_peer n q) xs (p ∷ [])
    ∙ ap (λ (b : Bool). is_neighbour xs q || b) (or_false (same_peer p q)))
