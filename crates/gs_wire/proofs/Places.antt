-- Stretches of a body.
use Rattle.std.proofs.Common.{◌≡◌, ℕ, ◌+◌, ◌-◌, ◌≤◌, List, length, take, drop, sym, ap, ◌∙◌, length-drop, arith}
use Rattle.std.proofs.lemmas.List.{drop-drop, take-take, length-take-le}
use Rattle.bytes.proofs.Ranges.{drop-take_less}
use Rattle.gs_wire.specs.Placed.{IsPlaced}

-- the front of a stretch
pub placed_front : (body : List ℕ) (start : ℕ) (bytes : List ℕ) (count : ℕ) → IsPlaced body start bytes → count ≤ length bytes → IsPlaced body start (take count bytes)
placed_front body start bytes count p within =
    let len : length (take count bytes) ≡ count = length-take-le count bytes within in
    record {
      small = p.small;
      within = omega (arith, p.within, len);
      same = ap (take count) p.same ∙ take-take count (length bytes) (drop start body) within ∙ ap (λ (n : ℕ). take n (drop start body)) (sym len);
    }

-- what follows it
pub placed_rest : (body : List ℕ) (start : ℕ) (bytes : List ℕ) (count : ℕ) → IsPlaced body start bytes → count ≤ length bytes → IsPlaced body (start + count) (drop count bytes)
placed_rest body start bytes count p within =
    let len : length (drop count bytes) ≡ length bytes - count = length-drop count bytes in
    record {
      small = p.small;
      within = omega (arith, p.within, len);
      same = ap (drop count) p.same ∙ drop-take_less (drop start body) count (length bytes) within ∙ ap (take (length bytes - count)) (drop-drop count start body) ∙ ap (λ (n : ℕ). take n (drop (start + count) body)) (sym len);
    }
