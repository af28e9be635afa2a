-- A text that is written piece by piece.
use Rattle.std.proofs.Common.{◌≡◌, ℕ, ◌-◌, List, ◌++◌, length, take, drop, Option, refl, sym, ap, subst, ◌∙◌, append_assoc, append-nil, take-append-drop, [], Result, Ok, Err, OnOk, OnErr}
use Rattle.std.proofs.lemmas.List.{take_at, take_rest}
use Rattle.std.specs.Io.KnownBytes.{Appends}
use Rattle.gs_streams.specs.Streams.{AppendsFront}

-- what was written is a front of the text
pub front_written : (old new : Option (List ℕ)) (text done rest : List ℕ) → text ≡ done ++ rest → Appends old new done → AppendsFront old new text
front_written old new text done rest split appended =
    let is_front : take (length done) text ≡ done = ap (take (length done)) split ∙ take_at done rest (length done) refl in
    (length done, subst (λ (front : List ℕ). Appends old new front) (sym is_front) appended)

-- a piece of what is left goes to what is done
pub split_further : (text done rest : List ℕ) (n : ℕ) → text ≡ done ++ rest → text ≡ (done ++ take n rest) ++ drop n rest
split_further text done rest n split =
    split ∙ ap (λ l. done ++ l) (sym (take-append-drop n rest)) ∙ sym (append_assoc done (take n rest) (drop n rest))

-- the same, where what is left is the slice from n on
pub split_at_slice : (text done rest : List ℕ) (n : ℕ) → text ≡ done ++ rest → text ≡ (done ++ take n rest) ++ take (length rest - n) (drop n rest)
split_at_slice text done rest n split =
    split_further text done rest n split ∙ ap (λ l. (done ++ take n rest) ++ l) (sym (take_rest rest n))

-- the whole text is a front of it too
pub whole_or_front : {A E : Type 0} (result : Result A E) (old new : Option (List ℕ)) (text : List ℕ) → OnOk result (Appends old new text) → OnErr result (AppendsFront old new text) → AppendsFront old new text
whole_or_front (Ok x) old new text whole front = front_written old new text text [] (sym (append-nil text)) whole
whole_or_front (Err e) old new text whole front = front
