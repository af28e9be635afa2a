-- Which check of two lists in a row fails first, and when none does.
use Rattle.std.proofs.Common.{◌≡◌, refl, ap, sym, ◌∙◌, true, false, true≢false, Bool, not, cond, ◌&&◌, ℕ, ◌+◌, ◌<◌, List, [], ◌∷◌, ◌++◌, Option, None, Some, drop, length, slice_index_or}
use Rattle.std.proofs.lemmas.List.{drop_more}
use Rattle.gs_base.specs.declared.names.Topic.{Topic}
use Rattle.gs_params.specs.declared.topic_params.TopicParams.{TopicParams}
use Rattle.std.proofs.lemmas.Option.{none-some}
use Rattle.std.specs.Option.{option_or}
use Rattle.std.specs.List.{list_all}
use Rattle.std.proofs.lemmas.List.Folds.{find-append}
use Rattle.gs_params.specs.declared.checks.Check.{Check}
use Rattle.gs_params.specs.Checks.{each_topic_from, first_broken, holds}

pub in_the_first : (xs ys : List Check) (check : Check) → first_broken xs ≡ Some check → first_broken (xs ++ ys) ≡ Some check
in_the_first xs ys check h = find-append _ xs ys ∙ ap (λ (found : Option Check). option_or found (first_broken ys)) h

in_the_second : (xs ys : List Check) → first_broken xs ≡ None → first_broken (xs ++ ys) ≡ first_broken ys
in_the_second xs ys h = find-append _ xs ys ∙ ap (λ (found : Option Check). option_or found (first_broken ys)) h

-- ---- all hold exactly where none fails

without_one : (b : Bool) (check : Check) (found : Option Check) (rest : Bool) → (rest ≡ true → found ≡ None) → (b && rest) ≡ true → cond (not b) (Some check) found ≡ None
without_one true check found rest next h = next h
without_one false check found rest next h = absurd (true≢false (sym h))

with_one : (b : Bool) (check : Check) (found : Option Check) (rest : Bool) → (found ≡ None → rest ≡ true) → cond (not b) (Some check) found ≡ None → (b && rest) ≡ true
with_one true check found rest next h = next h
with_one false check found rest next h = absurd (none-some check (sym h))

pub none_fails : (checks : List Check) → list_all holds checks ≡ true → first_broken checks ≡ None
none_fails [] h = refl
none_fails (check ∷ checks) h = without_one (holds check) check (first_broken checks) (list_all holds checks) (none_fails checks) h

pub all_hold : (checks : List Check) → first_broken checks ≡ None → list_all holds checks ≡ true
all_hold [] h = refl
all_hold (check ∷ checks) h = with_one (holds check) check (first_broken checks) (list_all holds checks) (all_hold checks) h

-- ---- topics

-- the checks of a topic, and then those of the topics after it
of_topic : (checks : ℕ → TopicParams → List Check) (topics : List (Topic × TopicParams)) (place : ℕ) (one : Topic × TopicParams) → place < length topics → one ≡ slice_index_or topics place one → first_broken (each_topic_from checks place (drop place topics)) ≡ first_broken (checks place one.1 ++ each_topic_from checks (place + 1) (drop (place + 1) topics))
of_topic checks topics place one less is =
    ap (λ (left : List (Topic × TopicParams)). first_broken (each_topic_from checks place left))
    (drop_more topics place one less ∙ ap (λ (x : Topic × TopicParams). x ∷ drop (place + 1) topics) (sym is))

pub fails_at : (checks : ℕ → TopicParams → List Check) (topics : List (Topic × TopicParams)) (place : ℕ) (one : Topic × TopicParams) → place < length topics → one ≡ slice_index_or topics place one → (check : Check) → first_broken (checks place one.1) ≡ Some check → first_broken (each_topic_from checks place (drop place topics)) ≡ Some check
fails_at checks topics place one less is check fails =
    of_topic checks topics place one less is
    ∙ in_the_first (checks place one.1) (each_topic_from checks (place + 1) (drop (place + 1) topics)) check fails

pub holds_at : (checks : ℕ → TopicParams → List Check) (topics : List (Topic × TopicParams)) (place : ℕ) (one : Topic × TopicParams) → place < length topics → one ≡ slice_index_or topics place one → first_broken (checks place one.1) ≡ None → first_broken (each_topic_from checks place (drop place topics)) ≡ first_broken (each_topic_from checks (place + 1) (drop (place + 1) topics))
holds_at checks topics place one less is none =
    of_topic checks topics place one less is
    ∙ in_the_second (checks place one.1) (each_topic_from checks (place + 1) (drop (place + 1) topics)) none
