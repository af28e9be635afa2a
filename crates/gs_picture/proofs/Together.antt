-- The pairs of all courses together.
use Rattle.std.proofs.Common.{◌≡◌, ◌++◌, ◌&&◌, ◌∙◌, Bool, true, false, List, [], ◌∷◌, filter, map, refl, ap}
use Rattle.std.specs.List.{flat_map}
use Rattle.std.proofs.lemmas.List.Elements.{filter_agree}
use Rattle.gs_reach.specs.declared.chosen.Chosen.{Chosen}
use Rattle.gs_reach.specs.declared.chosen.Chosen.TheVariants.{Any}
use Rattle.gs_reach.specs.declared.messages.MessageReach.{MessageReach}
use Rattle.gs_reach.specs.declared.pairs.Pair.{Pair}
use Rattle.gs_reach.specs.Chosen.{is_accepted, is_by}
use Rattle.gs_picture.specs.Courses.{accepted, course, courses_of, has_pairs}

abbrev joined : List (List Pair) → List Pair
joined courses = flat_map (λ (pairs : List Pair). pairs) courses

and_true : (b : Bool) → (b && true) ≡ b
and_true true = refl
and_true false = refl

-- a course without pairs adds none
with_course : (pairs all : List Pair) (others : List (List Pair)) → all ≡ joined (filter has_pairs others)
    → pairs ++ all ≡ joined (filter has_pairs (pairs ∷ others))
with_course [] all others e = e
with_course (x ∷ xs) all others e = ap (λ (ys : List Pair). (x ∷ xs) ++ ys) e

together : (of : Chosen) (messages : List MessageReach) → flat_map (course of) messages ≡ joined (filter has_pairs (map (course of) messages))
together of [] = refl
together of (m ∷ ms) = with_course (course of m) (flat_map (course of) ms) (map (course of) ms) (together of ms)

pub all_together : (of : Chosen) (messages : List MessageReach) → (courses_of of messages).all ≡ joined (courses_of of messages).each
all_together of messages =
    ap (λ (ms : List MessageReach). flat_map (course of) ms)
    (filter_agree (λ (m : MessageReach). is_accepted m.verdict && is_by Any m) (λ (m : MessageReach). is_accepted m.verdict) (λ m. and_true (is_accepted m.verdict)) messages)
    ∙ together of (accepted messages)
