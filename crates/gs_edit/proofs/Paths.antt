-- The parts of a key.
use Rattle.std.proofs.Common.{◌≡◌, ◌≢◌, ◌<◌, ◌++◌, ◌==◌, ℕ, suc, false, List, [], ◌∷◌, length, get_or, refl, arith}
use Rattle.std.proofs.lemmas.Bool.Decides.{nat_tests}
use Rattle.gs_edit.specs.Keys.{path_of}

no_dot : (byte : ℕ) → byte ≢ 46 → (byte == 46) ≡ false
no_dot byte other = grind (arith, nat_tests)

-- a key without a dot is one part
pub path_of-whole : (key : List ℕ) → ((i : ℕ) → i < length key → get_or key i 0 ≢ 46) → path_of key ≡ key ∷ []
path_of-whole [] other = refl
path_of-whole (byte ∷ bytes) other =
    let here = no_dot byte (other 0 (omega arith)) in
    let behind = path_of-whole bytes (λ i within. other (suc i) (omega (arith, within))) in
    rw (here, behind) refl

-- what stands before the first dot is the first part
pub path_of-cut : (part rest : List ℕ) → ((i : ℕ) → i < length part → get_or part i 0 ≢ 46) → path_of (part ++ (46 ∷ rest)) ≡ part ∷ path_of rest
path_of-cut [] rest other = refl
path_of-cut (byte ∷ bytes) rest other =
    let here = no_dot byte (other 0 (omega arith)) in
    let behind = path_of-cut bytes rest (λ i within. other (suc i) (omega (arith, within))) in
    rw (here, behind) refl
