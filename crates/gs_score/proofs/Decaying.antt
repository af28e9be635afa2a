-- Steps of decay, one after the other.
use Rattle.std.proofs.Common.{◌≡◌, ℕ, zero, suc, ◌+◌, ◌-◌, ◌*◌, ◌<◌, ◌≤◌, Bool, true, false, nat_lt, le_refl, mul-le-mul, mul-add, suc-mul, ap, sym, refl, ◌∙◌, arith}
use Rattle.std.proofs.lemmas.Bool.Decides.{nat_tests}
use Rattle.gs_score.specs.Counters.{Stored, decay_step, decayed, read_at}
use Rattle.gs_score.specs.Millionths.{scaled}
use Rattle.gs_score.specs.declared.counter.Decay.{Decay}
use Rattle.gs_score.proofs.Sums.{decayed_nothing}

-- a step that changes nothing is the last that is needed
pub decayed-fixed : (d : Decay) (x : ℕ) (n : ℕ) → decay_step d x ≡ x → decayed d n x ≡ x
decayed-fixed d x zero h = refl
decayed-fixed d x (suc n) h = ap (decayed d n) h ∙ decayed-fixed d x n h

pub decayed-more : (d : Decay) (m n x : ℕ) → decayed d (m + n) x ≡ decayed d n (decayed d m x)
decayed-more d zero n x = let e : 0 + n ≡ n = omega arith in rw e refl
decayed-more d (suc m) n x = let e : suc m + n ≡ suc (m + n) = omega arith in rw e (decayed-more d m n (decay_step d x))

-- a step that leaves nothing is the last that is needed
pub decayed-none : (d : Decay) (x n : ℕ) → 0 < n → decay_step d x ≡ 0 → decayed d n x ≡ 0
decayed-none d x zero some h = absurd (omega (arith, some))
decayed-none d x (suc n) some h = ap (decayed d n) h ∙ decayed_nothing d n

-- after some of the steps the others are left
pub decayed-rest : (d : Decay) (x y m n : ℕ) → m ≤ n → decayed d m x ≡ y → decayed d (n - m) y ≡ decayed d n x
decayed-rest d x y m n h is =
    let e : n ≡ m + (n - m) = omega (arith, h) in
    ap (decayed d (n - m)) (sym is) ∙ sym (decayed-more d m (n - m) x) ∙ ap (λ k. decayed d k x) (sym e)

pub read-later : (d : Decay) (c : Stored) (decays n : ℕ) → c.decays ≤ decays → read_at d (decays + n) c ≡ decayed d n (read_at d decays c)
read-later d c decays n h =
    let e : decays + n - c.decays ≡ (decays - c.decays) + n = omega arith in
    rw e (decayed-more d (decays - c.decays) n c.value)

-- ---- steps that take the same

-- what a factor leaves of a larger amount is more by no more than that is larger
leaves_less : (f x y : ℕ) → f ≤ 1_000_000 → y ≤ x → scaled f x ≤ scaled f y + (x - y)
leaves_less f x y small h =
    let e : x ≡ y + (x - y) = omega (arith, h) in
    let split : f * (y + (x - y)) ≡ f * y + f * (x - y) = mul-add f y (x - y) in
    let most : f * (x - y) ≤ 1_000_000 * (x - y) = mul-le-mul small (le_refl (x - y)) in
    let all : f * x ≡ f * y + f * (x - y) = ap (λ n. f * n) e ∙ split in
    omega (arith, all, most)

-- where a step takes the same of two amounts, it takes that of each between them, too
takes_same : (f k low y x : ℕ) → f ≤ 1_000_000 → low + k ≤ y → y ≤ x → scaled f (low + k) ≡ low → scaled f x ≡ x - k → scaled f y ≡ y - k
takes_same f k low y x small above below last first =
    omega (arith, leaves_less f x y small below, leaves_less f y (low + k) small above, first, last, above, below)

step_above : (d : Decay) (x y : ℕ) → scaled d.factor x ≡ y → d.floor ≤ y → decay_step d x ≡ y
step_above d x y is above =
    let not : nat_lt (scaled d.factor x) d.floor ≡ false = grind (arith, nat_tests, is, above) in
    rw not is

-- where the first step and the last of a row take the same, each of them does
alike : (d : Decay) (k low m : ℕ) → d.factor ≤ 1_000_000 → d.floor ≤ low → scaled d.factor (low + k) ≡ low → scaled d.factor (low + suc m * k) ≡ low + m * k → decayed d (suc m) (low + suc m * k) ≡ low
alike d k low zero small above last first =
    let e : low + 1 * k ≡ low + k = omega arith in
    rw e (step_above d (low + k) low last above)
alike d k low (suc m) small above last first =
    let one : suc (suc m) * k ≡ suc m * k + k = suc-mul (suc m) k in
    let two : suc m * k ≡ m * k + k = suc-mul m k in
    let next : scaled d.factor (low + suc m * k) ≡ low + suc m * k - k
    = takes_same d.factor k low (low + suc m * k) (low + suc (suc m) * k) small (omega (arith, two)) (omega (arith, one)) last (first ∙ omega (arith, one)) in
    ap (decayed d (suc m)) (step_above d (low + suc (suc m) * k) (low + suc m * k) first (omega (arith, above)))
    ∙ alike d k low m small above last (next ∙ omega (arith, two))

step_scaled : (d : Decay) (x : ℕ) → 0 < decay_step d x → scaled d.factor x ≡ decay_step d x
step_scaled d x some = by (nat_lt (scaled d.factor x) d.floor) refl
  where
    by : (b : Bool) → nat_lt (scaled d.factor x) d.floor ≡ b → scaled d.factor x ≡ decay_step d x
    by true e = absurd (let none : decay_step d x ≡ 0 = rw e refl in omega (arith, none, some))
    by false e = rw e refl

-- the steps that take what the first takes
pub decayed-alike : (d : Decay) (x k n : ℕ) → d.factor ≤ 1_000_000 → 0 < n → n * k ≤ x → 0 < decay_step d x → decay_step d x ≡ x - k
    → d.floor ≤ x - n * k → scaled d.factor (x - n * k + k) ≡ x - n * k → decayed d n x ≡ x - n * k
decayed-alike d x k zero small some within left next above last = absurd (omega (arith, some))
decayed-alike d x k (suc m) small some within left next above last =
    let low : ℕ = x - suc m * k in
    let e : x ≡ low + suc m * k = omega (arith, within) in
    let one : suc m * k ≡ m * k + k = suc-mul m k in
    let first : scaled d.factor (low + suc m * k) ≡ low + m * k
    = ap (scaled d.factor) (sym e) ∙ step_scaled d x left ∙ next ∙ omega (arith, e, one) in
    ap (decayed d (suc m)) e ∙ alike d k low m small above last first
