-- The members of meshes, and the sizes of the smallest and the largest of several meshes.
use Rattle.std.specs.Prelude.{ℕ, ℤ, Bool, true, not, ◌&&◌, ◌||◌, nat_lt, if◌then◌else◌, List, [], ◌∷◌, length, filter, fold, Option, Some, None}
use Rattle.std.specs.Int.{int_max, int_min}
use Rattle.std.specs.Ordering.{nat_cmp}
use Rattle.std.specs.FinMap.Entries.{by_order}
use Rattle.gs_base.specs.declared.names.PeerNo.{PeerNo}
use Rattle.gs_base.specs.declared.names.Topic.{Topic}
use Rattle.gs_base.specs.declared.mark.Mark.{Mark}
use Rattle.gs_base.specs.declared.mark.Mark.TheVariants as marks
use Rattle.gs_base.specs.Names.{same_peer, same_topic}
use Rattle.gs_rules.specs.Tables.{Entries, after_marks}
use Rattle.gs_counts.specs.declared.span.Span.{Span}

-- ---- the lowest and the highest

-- a span with one more value
abbrev pub widened : Option Span → ℤ → Option Span
widened None z = Some (record { lowest = z; highest = z })
widened (Some span) z = Some (record { lowest = int_min span.lowest z; highest = int_max span.highest z })

-- the lowest and the highest of these, if there are any
abbrev pub span_of : List ℤ → Option Span
span_of zs = fold widened None zs

-- ---- members of meshes

-- a member in its place among the members of its topic, which ascend by number; a member that is there already stays once
abbrev pub put_member : Topic → PeerNo → List (Topic × PeerNo) → List (Topic × PeerNo)
put_member t q [] = (t, q) ∷ []
put_member t q (x ∷ xs) =
    if same_topic x.0 t
    then by_order (nat_cmp x.1.0 q.0) (x ∷ put_member t q xs) (x ∷ xs) ((t, q) ∷ x ∷ xs)
    else x ∷ put_member t q xs

-- it comes after another member, which has another topic or a lower number
abbrev pub stands_after : Topic → PeerNo → Topic × PeerNo → Bool
stands_after t q x = not (same_topic x.0 t) || nat_lt x.1.0 q.0

-- it comes after none of these, as far as the first of them says
abbrev pub is_place : Topic → PeerNo → List (Topic × PeerNo) → Bool
is_place t q [] = true
is_place t q (x ∷ xs) = not (stands_after t q x)

-- all of these, except a member of a topic's mesh
abbrev pub without_member : Topic → PeerNo → List (Topic × PeerNo) → List (Topic × PeerNo)
without_member t q members = filter (λ x. not (same_topic x.0 t && same_peer q x.1)) members

-- What a mark leaves of the members of all meshes. Each mark is named here, so that a new one must be decided on.
abbrev pub members_after : Mark → List (Topic × PeerNo) → List (Topic × PeerNo)
members_after (marks.Grafted q t) before = put_member t q before
members_after (marks.Pruned q t) before = without_member t q before
members_after (marks.First q t id) before = before
members_after (marks.Invalid q t) before = before
members_after (marks.Seen id verdict) before = before
members_after (marks.Near q t id) before = before
members_after (marks.Deficit q t z) before = before
members_after (marks.Misbehaviour q) before = before
members_after (marks.Cached id t) before = before
members_after (marks.Answered q id) before = before
members_after (marks.Offered q) before = before
members_after (marks.Asked q n) before = before
members_after (marks.Fanned q t) before = before
members_after (marks.Unfanned q t) before = before
members_after (marks.Backoff q t end) before = before
members_after (marks.Published t) before = before

-- the members of all meshes after a trace, each with its topic
abbrev pub members : Entries → List (Topic × PeerNo)
members [] = []
members (e ∷ L) = after_marks members_after e.effects.marks (members L)

-- how many of these members of meshes are in that of a topic
abbrev pub members_in : List (Topic × PeerNo) → Topic → ℕ
members_in members t = length (filter (λ x. same_topic x.0 t) members)
