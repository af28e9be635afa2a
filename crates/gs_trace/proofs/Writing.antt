-- A text that is written page by page.
use Rattle.std.proofs.Common.{◌≡◌, ℕ, ◌+◌, ◌<◌, Bool, true, false, if◌then◌else◌, List, [], ◌∷◌, ◌++◌, drop, filter, get_or, length, map, take, refl, Option, Result, Ok, Err, OnErr, sym, ap, ◌∙◌, append_assoc, append-nil, subst, take-append-drop}
use Rattle.std.specs.List.{flat_map}
use Rattle.std.proofs.lemmas.Grind.{flat_map-append}
use Rattle.std.proofs.lemmas.List.{take_more}
use Rattle.std.specs.Io.KnownBytes.{Appends}
use Rattle.std.proofs.KnownBytes.{Appends-nil, Appends-trans}
use Rattle.gs_streams.specs.Streams.{AppendsFront}
use Rattle.gs_streams.proofs.Fronts.{front_written}
use Rattle.gs_trace.specs.Pages.{Adds}

pub no_text : (page : List ℕ) (output : Option (List ℕ)) → Adds [] page page output output
no_text page output = record { front = []; written = Appends-nil output; rest = append-nil page }

-- nothing of a text is written
pub unwritten : (output : Option (List ℕ)) (text : List ℕ) → AppendsFront output output text
unwritten output text = (0, Appends-nil output)

module _ {text page between : List ℕ} {output middle : Option (List ℕ)} (so : Adds text page between output middle) where
  further : (more : List ℕ) → page ++ (text ++ more) ≡ so.front ++ (between ++ more)
  further more = sym (append_assoc page text more) ∙ ap (λ l. l ++ more) so.rest ∙ append_assoc so.front between more

  -- a text more comes onto the page
  pub pushed : {page' : List ℕ} (more : List ℕ) → page' ≡ between ++ more → Adds (text ++ more) page page' output middle
  pushed more is = record {
    front = so.front;
    written = so.written;
    rest = further more ∙ ap (λ l. so.front ++ l) (sym is);
  }

  -- a text more is written
  pub and_more : {more page' : List ℕ} {output' : Option (List ℕ)} → Adds more between page' middle output' → Adds (text ++ more) page page' output output'
  and_more {more = more} {page' = page'} next = record {
    front = so.front ++ next.front;
    written = Appends-trans _ _ _ _ _ so.written next.written;
    rest = further more ∙ ap (λ l. so.front ++ l) next.rest ∙ sym (append_assoc so.front next.front page');
  }

  -- of the page only
  pub turned : {page' : List ℕ} {output' : Option (List ℕ)} → Adds [] between page' middle output' → Adds text page page' output output'
  turned {page'} {output'} next = subst (λ l. Adds l page page' output output') (append-nil text) (and_more next)

  -- what was written so far is a front of a whole text
  pub so_far : (whole rest : List ℕ) → whole ≡ text ++ rest → AppendsFront output middle (page ++ whole)
  so_far whole rest is = front_written output middle (page ++ whole) so.front (between ++ rest) (ap (λ l. page ++ l) is ∙ further rest) so.written

  -- and so is what was written of the next text
  pub cut_off : (output' : Option (List ℕ)) (more whole rest : List ℕ) → AppendsFront middle output' (between ++ more) → whole ≡ (text ++ more) ++ rest
      → AppendsFront output output' (page ++ whole)
  cut_off output' more whole rest (n, last) is =
      let left = between ++ more in
      let front : List ℕ = so.front ++ take n left in
      let back : List ℕ = drop n left ++ rest in
      let split : page ++ whole ≡ front ++ back =
      ap (λ l. page ++ l) (is ∙ append_assoc text more rest)
      ∙ further (more ++ rest)
      ∙ ap (λ l. so.front ++ l) (sym (append_assoc between more rest) ∙ ap (λ l. l ++ rest) (sym (take-append-drop n left)) ∙ append_assoc (take n left) (drop n left) rest)
      ∙ sym (append_assoc so.front (take n left) back) in
      front_written output output' (page ++ whole) front back split (Appends-trans _ _ _ _ _ so.written last)

  -- and what was written of the page only
  pub cut_page : (output' : Option (List ℕ)) (whole rest : List ℕ) → AppendsFront middle output' between → whole ≡ text ++ rest → AppendsFront output output' (page ++ whole)
  cut_page output' whole rest last is =
      cut_off output' [] whole rest (subst (AppendsFront middle output') (sym (append-nil between)) last) (is ∙ ap (λ l. l ++ rest) (sym (append-nil text)))

-- the text began on a clear page, and the page is clear again
pub all_written : {text page' : List ℕ} {output output' : Option (List ℕ)} → Adds text [] page' output output' → page' ≡ [] → Appends output output' text
all_written {output = output} {output' = output'} so clear =
    subst (Appends output output') (sym (so.rest ∙ ap (λ l. so.front ++ l) clear ∙ append-nil so.front)) so.written

-- ---- what holds of a result

pub at_err : {T E P : Type 0} (r : Result T E) → P → OnErr r P
at_err (Ok x) holds = tt
at_err (Err e) holds = holds

-- ---- the text of items, one after the other

-- a front of items and the others

pub parts : {X Y : Type 0} (text : X → List Y) (xs : List X) (i : ℕ) → flat_map text xs ≡ flat_map text (take i xs) ++ flat_map text (drop i xs)
parts text xs i = ap (flat_map text) (sym (take-append-drop i xs)) ∙ flat_map-append text (take i xs) (drop i xs)

-- and of one item more
pub one_more : {X : Type 0} (text : X → List ℕ) (xs : List X) (i : ℕ) (d : X) → i < length xs → flat_map text (take i xs) ++ text (get_or xs i d) ≡ flat_map text (take (i + 1) xs)
one_more text xs i d low =
    sym (
    ap (flat_map text) (take_more xs i d low)
    ∙ flat_map-append text (take i xs) (get_or xs i d ∷ [])
    ∙ ap (λ l. flat_map text (take i xs) ++ l) (append-nil (text (get_or xs i d)))
    )

pub of_map : {X Y : Type 0} (text : Y → List ℕ) (f : X → Y) (xs : List X) → flat_map (λ x. text (f x)) xs ≡ flat_map text (map f xs)
of_map text f [] = refl
of_map text f (x ∷ xs) = ap (λ l. text (f x) ++ l) (of_map text f xs)

pub of_filter : {X : Type 0} (text : X → List ℕ) (test : X → Bool) (xs : List X) → flat_map (λ x. if test x then text x else []) xs ≡ flat_map text (filter test xs)
of_filter text test [] = refl
of_filter {X = X} text test (x ∷ xs) = by (test x) (of_filter text test xs)
  where
    by : (b : Bool) → flat_map (λ (y : X). if test y then text y else []) xs ≡ flat_map text (filter test xs)
        → (if b then text x else []) ++ flat_map (λ (y : X). if test y then text y else []) xs ≡ flat_map text (if b then x ∷ filter test xs else filter test xs)
    by true more = ap (λ l. text x ++ l) more
    by false more = more
