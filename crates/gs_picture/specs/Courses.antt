-- How many rounds each accepted message on a topic took to reach its subscribers, and the same for all of them together.
use Rattle.std.specs.Prelude.{ℕ, ◌+◌, ◌∷◌, [], Bool, true, false, nat_eq, max, if◌then◌else◌, List, filter, fold, map}
use Rattle.gs_base.specs.declared.names.Topic.{Topic}
use Rattle.gs_base.specs.Names.{same_topic}
use Rattle.gs_reach.specs.declared.chosen.Chosen.{Chosen}
use Rattle.gs_reach.specs.declared.chosen.Chosen.TheVariants.{Any}
use Rattle.gs_reach.specs.declared.distribution.Within.{Within}
use Rattle.gs_reach.specs.declared.messages.MessageReach.{MessageReach}
use Rattle.gs_reach.specs.declared.pairs.Pair.{Pair}
use Rattle.gs_picture.specs.declared.courses.Courses.{Courses}
use Rattle.gs_reach.specs.Chosen.{accepted_pairs, is_accepted, pairs_among}
use Rattle.gs_reach.specs.Order.{ascending}
use Rattle.gs_reach.specs.Reached.{rounds_of, within}

-- ---- messages

-- those on a topic
abbrev pub on_topic : Topic → List MessageReach → List MessageReach
on_topic t messages = filter (λ (m : MessageReach). same_topic m.publication.topic t) messages

-- those that validation accepts
abbrev pub accepted : List MessageReach → List MessageReach
accepted messages = filter (λ (m : MessageReach). is_accepted m.verdict) messages

-- The course of a message: each of its subscribers among some peers, and in how many rounds the message reached it, if it
-- did.
abbrev pub course : Chosen → MessageReach → List Pair
course of m = pairs_among of m.pairs

abbrev pub has_pairs : List Pair → Bool
has_pairs [] = false
has_pairs (x ∷ xs) = true

-- the course of each of these messages that validation accepts and that has such subscribers
abbrev pub each_course : Chosen → List MessageReach → List (List Pair)
each_course of messages = filter has_pairs (map (course of) (accepted messages))

-- these courses, and all pairs of such messages and subscribers together
abbrev pub courses_of : Chosen → List MessageReach → Courses
courses_of of messages = record { each = each_course of messages; all = accepted_pairs Any of messages }

-- ---- steps

-- the first of these is the same number
abbrev pub begins_with : ℕ → List ℕ → Bool
begins_with n [] = false
begins_with n (m ∷ ms) = nat_eq n m

-- each of these once, where the same ones stand side by side
abbrev pub each_once : List ℕ → List ℕ
each_once [] = []
each_once (n ∷ ns) = if begins_with n ns then each_once ns else n ∷ each_once ns

-- the step at a number of rounds that this many stand ahead of, unless the next number is the same
abbrev pub step_at : ℕ → ℕ → List ℕ → List Within
step_at ahead n next = if begins_with n next then [] else record { limit = n; reached = ahead + 1 } ∷ []

-- in how many rounds subscribers were reached, ascending, and how many were reached within each of these numbers of rounds
abbrev pub steps : List Pair → List Within
steps pairs = map (within pairs) (each_once (ascending (λ n. n) (rounds_of pairs)))

-- the most rounds that one of them took
abbrev pub longest : List Pair → ℕ
longest pairs = fold max 0 (rounds_of pairs)
