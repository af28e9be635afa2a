-- The rows of a table make up the whole.
use Rattle.std.specs.Prelude.{◌≡◌, ◌+◌, not, Bool, List, filter, map}
use Rattle.std.specs.List.{flat_map, list_any, sum_by}
use Rattle.gs_base.specs.declared.names.PeerNo.{PeerNo}
use Rattle.gs_base.specs.declared.names.Topic.{Topic}
use Rattle.gs_plan.specs.declared.plan.Plan.{Plan}
use Rattle.gs_seats.specs.Rounds.{neighbours, numbers}
use Rattle.gs_counts.specs.declared.happening.Happening.{Happening}
use Rattle.gs_counts.specs.declared.kind.Kind.{Kind}
use Rattle.gs_counts.specs.Rows.{amount_in}
use Rattle.gs_counts.specs.Standing.{is_on}

-- those that stand in none of these rows
abbrev pub in_none : {K : Type 0} → (K → Happening → Bool) → List K → Happening → Bool
in_none stands ks h = not (list_any (λ k. stands k h) ks)

-- the amount of each kind is the sum over these rows, with that of what stands in none
abbrev pub MakeUp : {K : Type 0} → (K → Happening → Bool) → List K → List Happening → Type 0
MakeUp stands ks hs =
    (kind : Kind) → amount_in hs kind
    ≡ sum_by (λ k. amount_in (filter (stands k) hs) kind) ks + amount_in (filter (in_none stands ks) hs) kind

-- it is on a topic
abbrev pub stands_on : Topic → Happening → Bool
stands_on t h = is_on t h.topic

-- both directions of each dial: the links of a plan, by the peer that they come from
abbrev pub linked : Plan → List (PeerNo × PeerNo)
linked plan = flat_map (λ p. map (λ q. (p, q)) (neighbours plan p)) (numbers plan)
