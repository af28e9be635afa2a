-- The sum over a neighbour's topics in the order of their bytes is that over its topics in any order.
use Rattle.std.proofs.Common.{◌≡◌, ℕ, ℤ, pos, ◌+ℤ◌, List, [], ◌∷◌, map, refl, ap, ◌∙◌}
use Rattle.gs_base.specs.declared.names.PeerNo.{PeerNo}
use Rattle.gs_base.specs.declared.names.Topic.{Topic}
use Rattle.gs_base.specs.Names.{same_topic}
use Rattle.gs_params.specs.declared.params.Params.{Params}
use Rattle.gs_score.specs.declared.rules.TopicRules.{TopicRules}
use Rattle.gs_score.specs.Accounts.{Covers, rules_of, topic_sum, total}
use Rattle.gs_score.specs.Formula.{topic_part}
use Rattle.gs_score.specs.Histories.{History, held_by, named}
use Rattle.gs_score.specs.Standings.{Held, nothing_held}
use Rattle.gs_score.proofs.Naming.{named_covers}
use Rattle.gs_score.proofs.Sums.{apart_from_distinct, sum_same, times_nothing, topics_tell}
use Rattle.gs_rules.specs.Peers.{Peer}
use Rattle.gs_rules.specs.Scored.{parts_on_topic}
use Rattle.gs_rules.specs.Scoring.{history}
use Rattle.gs_rules.specs.Tables.{Entries, ascending}
use Rattle.gs_router.proofs.Ascending.{ascending_covers}
use Rattle.gs_snapshots.specs.Snapshots.{on_topic}
use Rattle.gs_snapshots.specs.declared.snapshot.OnTopic.{OnTopic}

nothing_counts : (r : TopicRules) (now : ℕ) → topic_part r now nothing_held ≡ pos 0
unfolding topic_part
nothing_counts r now =
    rw (times_nothing r.factors.w1, times_nothing r.factors.w2, times_nothing r.factors.w3, times_nothing r.factors.w3b, times_nothing r.factors.w4)
    (times_nothing r.factors.topic_weight)

-- two lists of topics that leave none out have one sum
covered_alike : (params : Params) (now : ℕ) (at : Topic → Held) (ts us : List Topic)
    → Covers at ts
    → Covers at us
    → topic_sum params now at ts ≡ topic_sum params now at us
covered_alike params now at ts us one other =
    let f : Topic → ℤ = λ t. topic_part (rules_of params t) now (at t) in
    let none : (t : Topic) → at t ≡ nothing_held → f t ≡ pos 0
    = λ t e. ap (topic_part (rules_of params t) now) e ∙ nothing_counts (rules_of params t) now in
    sum_same same_topic topics_tell ts us f
    (apart_from_distinct same_topic ts one.apart) (apart_from_distinct same_topic us other.apart)
    (λ t h. none t (one.all t h))
    (λ t h. none t (other.all t h))

pub ascending_sum : (params : Params) (now : ℕ) (H : History) (q : PeerNo)
    → topic_sum params now (held_by params H q) (ascending (named H q)) ≡ topic_sum params now (held_by params H q) (named H q)
ascending_sum params now H q =
    let covers = named_covers params H q in
    covered_alike params now (held_by params H q) (ascending (named H q)) (named H q)
    (ascending_covers (held_by params H q) (named H q) covers) covers

-- ---- what a snapshot shows

-- what the topics of a snapshot give, by what each shows
pub shown_sum : (p : Peer) (L : Entries) (at : ℕ) (q : PeerNo) (ts : List Topic)
    → topic_sum p.params at (held_by p.params (history p L) q) ts
    ≡ total (map (λ (x : OnTopic). x.parts.topic_score) (map (on_topic p L at q) ts))
unfolding parts_on_topic
shown_sum p L at q [] = refl
shown_sum p L at q (t ∷ ts) = ap (λ (x : ℤ). topic_part (rules_of p.params t) at (held_by p.params (history p L) q t) +ℤ x) (shown_sum p L at q ts)
