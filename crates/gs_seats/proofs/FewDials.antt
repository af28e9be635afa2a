-- How many dials and links a plan has at most.
use Rattle.std.proofs.Common.{◌≡◌, ◌≢◌, ℕ, suc, ◌+◌, ◌*◌, ◌^◌, ◌<◌, ◌≤◌, true, false, true≢false, eqb, ⊎_elim, List, [], ◌∷◌, map, length, refl, sym, ◌∙◌, arith}
use Rattle.std.specs.Prelude.{AllPairs}
use Rattle.std.specs.List.{AllByRecursion, IsDistinct, list_any}
use Rattle.std.proofs.lemmas.List.{length-map}
use Rattle.std.proofs.lemmas.List.Elements.{recursion_from_All}
use Rattle.std.proofs.lemmas.Map.Keys.{IsDistinct-cons}
use Rattle.std.proofs.lemmas.Map.Steps.{length-le_from_distinct_below}
use Rattle.std.proofs.lemmas.Bool.{eq-eqb, ne_eqb}
use Rattle.std.proofs.lemmas.Bool.Decides.{eqb_tells}
use Rattle.gs_plan.specs.declared.plan.Dial.{Dial}
use Rattle.gs_plan.specs.declared.plan.Plan.{Plan}
use Rattle.gs_plan.specs.Plans.{IsInRange, join_the_same}

abbrev code : Dial → ℕ
code dial = dial.from.0 * 4096 + dial.to.0

-- it is a dial of peers below 4096
abbrev IsLow : Dial → Type 0
IsLow dial = (dial.from.0 < 4096) × (dial.to.0 < 4096)

codes_apart : (x y : Dial) → IsLow x → IsLow y → join_the_same y x ≡ false → eqb (code x) (code y) ≡ false
codes_apart x y low_x low_y differ = ne_eqb (code x) (code y) (λ e.
    let from : x.from.0 ≡ y.from.0 = omega arith in
    let to : x.to.0 ≡ y.to.0 = omega arith in
    let same : join_the_same y x ≡ true = rw (eq-eqb x.from.0 y.from.0 from, eq-eqb x.to.0 y.to.0 to) refl in
    true≢false (sym same ∙ differ))

codes_after : (x : Dial) (dials : List Dial) → IsLow x → AllByRecursion IsLow dials → AllByRecursion (λ y. join_the_same y x ≡ false) dials → AllByRecursion (λ n. eqb (code x) n ≡ false) (map code dials)
codes_after x [] low lows differ = tt
codes_after x (y ∷ dials) low lows differ = (codes_apart x y low lows.0 differ.0, codes_after x dials low lows.1 differ.1)

codes_distinct : (dials : List Dial) → AllByRecursion IsLow dials → AllPairs (λ x y. join_the_same y x ≡ false) dials → IsDistinct eqb (map code dials)
unfolding IsDistinct
codes_distinct [] lows differ = tt
codes_distinct (x ∷ dials) lows differ = IsDistinct-cons eqb (code x) (map code dials)
    (codes_after x dials lows.0 lows.1 (recursion_from_All (λ y. join_the_same y x ≡ false) dials (λ k d within. differ 0 (suc k) d (omega arith) (omega arith))))
    (codes_distinct dials lows.1 (λ i j d a b. differ (suc i) (suc j) d (omega arith) (omega arith)))

codes_low : (dials : List Dial) → AllByRecursion IsLow dials → (n : ℕ) → list_any (eqb n) (map code dials) ≡ true → n < 16777216
codes_low [] lows n there = let e : false ≡ true = there in cc
codes_low (x ∷ dials) lows n there = ⊎_elim
    (λ (y : (eqb n (code x) ≡ true) × (n ≡ code x)). let is = y.1 in let low = lows.0 in omega (arith, is, low))
    (λ (m : (eqb n (code x) ≡ false) × (n ≢ code x)). let further = rw m.0 at there in codes_low dials lows.1 n further) (eqb_tells n (code x))

-- among 4096 peers there are at most 4096 * 4096 dials
few_dials : (plan : Plan) → IsInRange plan → length plan.dials ≤ 16777216
few_dials plan range =
    let lows : AllByRecursion IsLow plan.dials = recursion_from_All IsLow plan.dials (λ k d within. let a = range.dials_from k d within in let b = range.dials_to k d within in let most : length plan.peers ≤ 4096 = range.peers in (omega (arith, a, most), omega (arith, b, most))) in
    let few = length-le_from_distinct_below (map code plan.dials) 16777216 (codes_distinct plan.dials lows range.dials_differ) (codes_low plan.dials lows) in
    let same : length (map code plan.dials) ≡ length plan.dials = length-map plan.dials code in
    omega (arith, few, same)

-- the links of a plan, two a dial, are below 2^64
pub links_fit : (plan : Plan) → IsInRange plan → 2 * length plan.dials < 2 ^ 64
links_fit plan range = omega (arith, few_dials plan range)
