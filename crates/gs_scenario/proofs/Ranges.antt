-- What is known of what the kinds of keys and the elements of lists are read as.
use Rattle.std.proofs.Common.{◌≡◌, ℕ, ◌+◌, ◌≤◌, ◌<◌, ◌%◌, nat_le, nat_lt, nat_eq, cond, Bool, true, false, not, T, ℤ, pos, negsuc, ◌≤ℤ◌, int_le, List, [], ◌∷◌, ◌++◌, length, get_or, Option, Some, None, Result, Ok, Err, Decides, refl, sym, subst, arith}
use Rattle.std.specs.Prelude.{◌&&◌, ◌||◌, IfOk, IfSome, if◌then◌else◌, option_and_then, option_map, is_some, position, find, AllPairs}
use Rattle.std.specs.List.{list_any, position_or_len}
use Rattle.std.proofs.lemmas.List.Sums.{prefix_len_passes}
use Rattle.std.specs.Cmp.Lexicographic.{pointwise}
use Rattle.std.proofs.lemmas.Bool.{leb-true, le-leb}
use Rattle.std.proofs.lemmas.Bool.Decides.{Decides-and, Decides-eqb, nat_tests}
use Rattle.std.proofs.lemmas.List.{length_push}
use Rattle.std.proofs.lemmas.List.Folds.{list_any_at}
use Rattle.std.proofs.lemmas.List.Quantifiers.{all_pairs_push}
use Rattle.toml.specs.Data.{Data, Items, no_items, item, as_integer, as_array}
use Rattle.gs_params.specs.Params.{int_in_range}
use Rattle.gs_scenario.specs.declared.fault.ScenarioFault.{ScenarioFault}
use Rattle.gs_scenario.specs.declared.reason.NameKind.{NameKind}
use Rattle.gs_scenario.specs.Refusal.{item_count}
use Rattle.gs_scenario.specs.Keys.{◌>>=◌, or_refuse, refuse_if, Kind, Section, optional, reads_optional, reads_required, required, read_key, read_each}
use Rattle.gs_scenario.specs.Kinds.{between, whole_number, int_between, signed_number, of_length, list_of, hex_text, short_hex, reference, new_name, name_text, is_multiple, multiple_of, reads_multiple, optional_multiple}

-- ---- steps

-- the second step of what is known after the first
pub next : {A B : Type 0} (Q : A → Type 0) (P : B → Type 0) (r : Result A ScenarioFault) (f : A → Result B ScenarioFault) → IfOk r Q → ((x : A) → Q x → IfOk (f x) P) → IfOk (r >>= f) P
next Q P (Ok x) f q h = h x q
next Q P (Err fault) f q h = tt

-- the second step, whatever the first gives
pub past : {A B : Type 0} (P : B → Type 0) (r : Result A ScenarioFault) (f : A → Result B ScenarioFault) → ((x : A) → IfOk (f x) P) → IfOk (r >>= f) P
past P (Ok x) f h = h x
past P (Err fault) f h = tt

pub allowed : {A : Type 0} (Q : A → Type 0) (fault : ScenarioFault) (found : Option A) → IfSome found Q → IfOk (or_refuse fault found) Q
allowed Q fault None h = tt
allowed Q fault (Some x) h = h

pub not_refused : {A : Type 0} (Q : A → Type 0) (test : Bool) (fault : ScenarioFault) (x : A) → (test ≡ false → Q x) → IfOk (refuse_if test fault x) Q
not_refused Q true fault x h = tt
not_refused Q false fault x h = h refl

kept_if : {A : Type 0} (Q : A → Type 0) (test : Bool) (x : A) → (test ≡ true → Q x) → IfSome (if test then Some x else None) Q
kept_if Q true x h = h refl
kept_if Q false x h = tt

-- ---- keys

required_of : {A : Type 0} (Q : A → Type 0) (kind : Kind A) (place : List ℕ) (found : Option Data) → ((d : Data) → IfOk (kind place d) Q) → IfOk (reads_required kind place found) Q
required_of Q kind place None h = tt
required_of Q kind place (Some d) h = h d

-- what is read at a key that is required is of its kind
pub at_required : {A : Type 0} (Q : A → Type 0) (name : List ℕ) (kind : Kind A) (section : Section) → ((place : List ℕ) (d : Data) → IfOk (kind place d) Q) → IfOk (read_key section (required name kind)) Q
at_required Q name kind section h = required_of Q kind _ _ (λ d. h _ d)

optional_of : {A : Type 0} (Q : A → Type 0) (kind : Kind A) (default : A) (place : List ℕ) (found : Option Data) → Q default → ((d : Data) → IfOk (kind place d) Q) → IfOk (reads_optional kind default place found) Q
optional_of Q kind default place None given h = given
optional_of Q kind default place (Some d) given h = h d

-- what is read at a key that may be missing is of its kind, or the default
pub at_optional : {A : Type 0} (Q : A → Type 0) (name : List ℕ) (kind : Kind A) (default : A) (section : Section) → Q default → ((place : List ℕ) (d : Data) → IfOk (kind place d) Q) → IfOk (read_key section (optional name kind default)) Q
at_optional Q name kind default section given h = optional_of Q kind default _ _ given (λ d. h _ d)

le : (a b : ℕ) → Decides (nat_le a b) (a ≤ b)
le a b = (leb-true a b, le-leb a b)

between_are : (low high : ℕ) (z : ℤ) → IfSome (between low high z) (λ n. (low ≤ n) × (n ≤ high))
between_are low high (negsuc n) = tt
between_are low high (pos n) =
    kept_if (λ m. (low ≤ m) × (m ≤ high)) (nat_le low n && nat_le n high) n
    (λ e. (Decides-and (nat_le low n) (nat_le n high) (le low n) (le n high)).0 e)

read_between : (low high : ℕ) (found : Option ℤ) → IfSome (option_and_then (between low high) found) (λ n. (low ≤ n) × (n ≤ high))
read_between low high None = tt
read_between low high (Some z) = between_are low high z

pub number_is : (low high : ℕ) (place : List ℕ) (d : Data) → IfOk (whole_number low high place d) (λ n. (low ≤ n) × (n ≤ high))
number_is low high place d = allowed (λ n. (low ≤ n) × (n ≤ high)) _ _ (read_between low high (as_integer d))

of_length_is : (low high : ℕ) (found : Option Items) → IfSome (option_and_then (of_length low high) found) (λ ds. (low ≤ item_count ds) × (item_count ds ≤ high))
of_length_is low high None = tt
of_length_is low high (Some ds) =
    kept_if (λ found. (low ≤ item_count found) × (item_count found ≤ high)) (nat_le low (item_count ds) && nat_le (item_count ds) high) ds
    (λ e. (Decides-and (nat_le low (item_count ds)) (nat_le (item_count ds) high) (le low (item_count ds)) (le (item_count ds) high)).0 e)

pub list_is : (low high : ℕ) (place : List ℕ) (d : Data) → IfOk (list_of low high place d) (λ ds. (low ≤ item_count ds) × (item_count ds ≤ high))
list_is low high place d = allowed (λ ds. (low ≤ item_count ds) × (item_count ds ≤ high)) _ _ (of_length_is low high (as_array d))

passes : (b : Bool) → T b → b ≡ true
passes true h = refl
passes false h = absurd h

le_int : (a b : ℤ) → Decides (int_le a b) (a ≤ℤ b)
le_int a b = (λ e. record { le = subst T (sym e) tt }, λ h. passes (int_le a b) h.le)

ints_between : (low high z : ℤ) → int_in_range low high z ≡ true → (low ≤ℤ z) × (z ≤ℤ high)
ints_between low high z e = (Decides-and (int_le low z) (int_le z high) (le_int low z) (le_int z high)).0 e

read_ints_between : (low high : ℤ) (found : Option ℤ) → IfSome (option_and_then (int_between low high) found) (λ z. (low ≤ℤ z) × (z ≤ℤ high))
read_ints_between low high None = tt
read_ints_between low high (Some z) = kept_if (λ y. (low ≤ℤ y) × (y ≤ℤ high)) (int_in_range low high z) z (ints_between low high z)

pub signed_is : (low high : ℤ) (place : List ℕ) (d : Data) → IfOk (signed_number low high place d) (λ z. (low ≤ℤ z) × (z ≤ℤ high))
signed_is low high place d = allowed (λ z. (low ≤ℤ z) × (z ≤ℤ high)) _ _ (read_ints_between low high (as_integer d))

not_above : (most n : ℕ) → nat_lt most n ≡ false → n ≤ most
not_above most n e = grind (arith, nat_tests, e)

pub short_hex_is : (most : ℕ) (place : List ℕ) (d : Data) → IfOk (short_hex most place d) (λ bytes. length bytes ≤ most)
short_hex_is most place d =
    past (λ bytes. length bytes ≤ most) (hex_text place d) _
    (λ bytes. not_refused (λ x. length x ≤ most) (nat_lt most (length bytes)) _ bytes (not_above most (length bytes)))

pub reference_is : {A : Type 0} (Q : A → Type 0) (kind : NameKind) (named : List ℕ → Option A) → ((text : List ℕ) → IfSome (named text) Q) → (place : List ℕ) (d : Data) → IfOk (reference kind named place d) Q
reference_is Q kind named h place d = past Q (name_text place d) _ (λ text. allowed Q _ (named text) (h text))

-- a test that is not refused as failed has passed
pub not_failed : (b : Bool) → not b ≡ false → b ≡ true
not_failed true e = refl
not_failed false e = search (e)

passes_step : (step n : ℕ) (fault : ScenarioFault) → IfOk (refuse_if (not (is_multiple step n)) fault n) (λ m. m % step ≡ 0)
passes_step step n fault = not_refused (λ m. m % step ≡ 0) (not (is_multiple step n)) fault n (λ e. (Decides-eqb (n % step) 0).0 (not_failed (is_multiple step n) e))

pub multiple_between : (low high step : ℕ) (place : List ℕ) (d : Data) → IfOk (multiple_of step (whole_number low high) place d) (λ n. (n ≤ high) × (n % step ≡ 0))
multiple_between low high step place d =
    let P = λ (n : ℕ). (n ≤ high) × (n % step ≡ 0) in
    next (λ n. (low ≤ n) × (n ≤ high)) P (whole_number low high place d) _ (number_is low high place d)
    (λ n h. not_refused P (not (is_multiple step n)) _ n (λ e. (h.1, (Decides-eqb (n % step) 0).0 (not_failed (is_multiple step n) e))))

read_multiple : (step : ℕ) (kind : Kind ℕ) (default : ℕ) (place : List ℕ) (found : Option Data) → IfOk (reads_multiple step kind default place found) (λ n. n % step ≡ 0)
read_multiple step kind default place None = passes_step step default _
read_multiple step kind default place (Some d) = past (λ n. n % step ≡ 0) (kind place d) _ (λ n. passes_step step n _)

pub multiple_is : (step : ℕ) (name : List ℕ) (kind : Kind ℕ) (default : ℕ) (section : Section) → IfOk (read_key section (optional_multiple step name kind default)) (λ n. n % step ≡ 0)
multiple_is step name kind default section = read_multiple step kind default _ _

-- ---- lists

-- what holds of each front of a list holds of the list
pub each_is : {A : Type 0} (P : List A → Type 0) (read : List A → Data → Result A ScenarioFault) → ((before : List A) (d : Data) → P before → IfOk (read before d) (λ x. P (before ++ x ∷ []))) → (before : List A) (ds : Items) → P before → IfOk (read_each read before ds) P
unfolding read_each
each_is P read step before no_items h = h
each_is P read step before (item d ds) h =
    next (λ x. P (before ++ x ∷ [])) P (read before d) _ (step before d h)
    (λ x k. each_is P read step (before ++ x ∷ []) ds k)

-- as many are read as there are
pub count_is : {A : Type 0} (read : List A → Data → Result A ScenarioFault) (n : ℕ) (before : List A) (ds : Items) → length before + item_count ds ≡ n → IfOk (read_each read before ds) (λ xs. length xs ≡ n)
unfolding read_each
count_is read n before no_items h = omega (arith, h)
count_is read n before (item d ds) h =
    past (λ xs. length xs ≡ n) (read before d) _
    (λ x. count_is read n (before ++ x ∷ []) ds (omega (arith, h, length_push before x)))

not_both : (a b : Bool) → (b ≡ true → a ≡ true) → a ≡ false → b ≡ false
not_both a false h k = refl
not_both a true h k = let e : a ≡ true = h refl in cc

-- what no element passes, the element at a place does not pass
pub none_at : {A : Type 0} (p : A → Bool) (xs : List A) → list_any p xs ≡ false → (k : ℕ) (d : A) → k < length xs → p (get_or xs k d) ≡ false
none_at p xs h k d below = not_both (list_any p xs) (p (get_or xs k d)) (λ e. list_any_at p xs k d below e) h

-- one more that is not the same as any of those before
pub differ_push : {A : Type 0} (same : A → A → Bool) (xs : List A) (y : A) → AllPairs (λ a b. same b a ≡ false) xs → list_any (same y) xs ≡ false → AllPairs (λ a b. same b a ≡ false) (xs ++ y ∷ [])
differ_push same xs y h e = all_pairs_push (λ a b. same b a ≡ false) xs y h (λ k d below. none_at (same y) xs e k d below)

pub same_bytes : (xs : List ℕ) → pointwise nat_eq xs xs ≡ true
same_bytes [] = refl
same_bytes (x ∷ xs) = rw ((Decides-eqb x x).1 refl, same_bytes xs) refl

-- no two elements of an empty list
pub no_pairs : {A : Type 0} (R : A → A → Type 0) → AllPairs R []
no_pairs R i j d below inside = absurd (let e : ⊥ = omega (arith, inside) in e)

-- two facts of one value
-- what two facts say of what is read, in one
pub both_are : {A : Type 0} (P Q R : A → Type 0) (r : Result A ScenarioFault) → ((x : A) → P x → Q x → R x) → IfOk r P → IfOk r Q → IfOk r R
both_are P Q R (Ok x) f h k = f x h k
both_are P Q R (Err fault) f h k = tt

pub and_also : {A : Type 0} (P Q : A → Type 0) (r : Result A ScenarioFault) → IfOk r P → IfOk r Q → IfOk r (λ x. P x × Q x)
and_also P Q (Ok x) h k = (h, k)
and_also P Q (Err fault) h k = tt

-- ---- new names

-- a name that is not refused as repeated is new
pub new_is : {A : Type 0} (Q : List ℕ → Type 0) (named : List ℕ → Option A) → ((text : List ℕ) → is_some (named text) ≡ false → Q text) → (place : List ℕ) (d : Data) → IfOk (new_name named place d) Q
new_is Q named h place d = past Q (name_text place d) _ (λ text. not_refused Q (is_some (named text)) _ text (h text))

no_place : {A : Type 0} (f : ℕ → A) (b : Bool) (n : ℕ) → is_some (option_map f (cond b (Some n) None)) ≡ false → b ≡ false
no_place f true n e = e
no_place f false n e = refl

passes_not : (b : Bool) → not b ≡ true → b ≡ false
passes_not true e = sym e
passes_not false e = refl

-- where no place is found, no element passes
pub no_position : {A B : Type 0} (f : ℕ → B) (p : A → Bool) (xs : List A) → is_some (option_map f (position p xs)) ≡ false → (k : ℕ) (d : A) → k < length xs → p (get_or xs k d) ≡ false
no_position f p xs e k d below =
    let far : nat_lt (position_or_len p xs) (length xs) ≡ false = no_place f (nat_lt (position_or_len p xs) (length xs)) (position_or_len p xs) e in
    let before : k < position_or_len p xs = grind (arith, nat_tests, far, below) in
    passes_not (p (get_or xs k d)) (prefix_len_passes (λ x. not (p x)) xs k d before)

find_step : {A B : Type 0} (f : A → B) (b : Bool) (x : A) (found : Option A) (rest : Bool) → (is_some (option_map f found) ≡ false → rest ≡ false) → is_some (option_map f (cond b (Some x) found)) ≡ false → (b || rest) ≡ false
find_step f true x found rest h e = e
find_step f false x found rest h e = h e

-- where none is found, none passes
pub not_found : {A B : Type 0} (f : A → B) (p : A → Bool) (xs : List A) → is_some (option_map f (find p xs)) ≡ false → list_any p xs ≡ false
not_found f p [] e = refl
not_found f p (x ∷ xs) e = find_step f (p x) x (find p xs) (list_any p xs) (not_found f p xs) e
