-- The lowest opinions of a run: for any two peers, and for each round.
use Rattle.std.specs.Prelude.{ℕ, ℤ, ◌+◌, ◌/◌, Bool, ◌&&◌, nat_eq, List, [], ◌∷◌, filter, map, Option, None, Some, option_map}
use Rattle.std.specs.List.{flat_map, range_with_len}
use Rattle.gs_base.specs.declared.names.Millis.{Millis}
use Rattle.gs_base.specs.declared.names.PeerNo.{PeerNo}
use Rattle.gs_base.specs.Names.{same_peer}
use Rattle.gs_plan.specs.declared.plan.Plan.{Plan}
use Rattle.gs_report.specs.declared.report.Report.{Report}
use Rattle.gs_reach.specs.declared.chosen.Chosen.{Chosen}
use Rattle.gs_reach.specs.Chosen.{is_chosen}
use Rattle.gs_seats.specs.Rounds.{numbers}
use Rattle.gs_opinions.specs.declared.opinion.Opinion.{Opinion}
use Rattle.gs_opinions.specs.declared.opinion.Lowest.{Lowest}
use Rattle.gs_opinions.specs.declared.run.Opinions.{Opinions}
use Rattle.gs_opinions.specs.declared.run.PairOpinion.{PairOpinion}
use Rattle.gs_opinions.specs.declared.run.RoundOpinions.{RoundOpinions}
use Rattle.gs_opinions.specs.Lowest.{lowest}
use Rattle.gs_opinions.specs.Opinions.{opinions}

abbrev pub score_in : Opinion → ℤ
score_in o = o.score

-- the score of an opinion, and its moment
abbrev pub lowest_in : Opinion → Lowest
lowest_in o = record { score = o.score; at = o.at }

-- ---- pairs

-- what one peer scores another
abbrev pub is_between : PeerNo → PeerNo → Opinion → Bool
is_between p q o = same_peer o.by p && same_peer o.of q

-- the lowest of these opinions, at its first moment
abbrev pub lowest_between : List Opinion → PeerNo → PeerNo → Option Lowest
lowest_between os p q = option_map lowest_in (lowest score_in (filter (is_between p q) os))

-- a row, if there is a lowest opinion
abbrev pub pair_row : PeerNo → PeerNo → Option Lowest → List PairOpinion
pair_row p q None = []
pair_row p q (Some x) = record { by = p; of = q; lowest = x } ∷ []

-- the rows for what one peer scores each other, by number; and those of all peers
abbrev pub pairs_by : Plan → List Opinion → PeerNo → List PairOpinion
pairs_by plan os p = flat_map (λ q. pair_row p q (lowest_between os p q)) (numbers plan)

abbrev pub pairs_of : Plan → List Opinion → List PairOpinion
pairs_of plan os = flat_map (pairs_by plan os) (numbers plan)

-- ---- rounds

-- the round that a moment lies in
abbrev pub round_of : Plan → Millis → ℕ
round_of plan at = at.0 / plan.round_ms

abbrev pub is_in : Plan → ℕ → Opinion → Bool
is_in plan r o = nat_eq (round_of plan o.at) r

-- the lowest score of a round
abbrev pub lowest_in_round : Plan → List Opinion → ℕ → Option ℤ
lowest_in_round plan os r = option_map score_in (lowest score_in (filter (is_in plan r) os))

-- the opinion is about a member of a group
abbrev pub is_about : Chosen → Opinion → Bool
is_about group o = is_chosen group o.of

abbrev pub round_row : Plan → List Chosen → List Opinion → ℕ → RoundOpinions
round_row plan groups os r = record {
  round = r;
  lowest = lowest_in_round plan os r;
  groups = map (λ group. lowest_in_round plan (filter (is_about group) os) r) groups;
}

-- each round, including the last one of the plan
abbrev pub rounds_of : Plan → List Chosen → List Opinion → List RoundOpinions
rounds_of plan groups os = map (round_row plan groups os) (range_with_len 0 (plan.rounds + 1))

-- ---- a run

abbrev pub lowest_opinions : Plan → List Chosen → List Opinion → Opinions
lowest_opinions plan groups os = record { pairs = pairs_of plan os; rounds = rounds_of plan groups os }

-- the lowest opinions of a run: those of these peers, and those about each group
abbrev pub opinions_of : Plan → Report → Chosen → List Chosen → Opinions
opinions_of plan report by groups = lowest_opinions plan groups (opinions plan report by)
