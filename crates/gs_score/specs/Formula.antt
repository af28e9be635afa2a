-- The parts of a score (gossipsub v1.1, Peer Scoring, "The Score Function"), each product rounded down.
use Rattle.std.specs.Prelude.{ℕ, ◌*◌, ◌-◌, ◌/◌, min, nat_le, nat_lt, ℤ, pos, ◌+ℤ◌, Bool, false, ◌&&◌, if◌then◌else◌}
use Rattle.std.specs.Prelude.{Option, Some, None}
use Rattle.std.specs.Int.{int_min}
use Rattle.gs_base.specs.declared.names.Millis.{Millis}
use Rattle.gs_params.specs.declared.params.Factors.{Factors}
use Rattle.gs_score.specs.declared.rules.TopicRules.{TopicRules}
use Rattle.gs_score.specs.Millionths.{times, squared}
use Rattle.gs_score.specs.Standings.{Held}

-- P1, time in mesh: one for each whole quantum in the mesh, up to a cap
abbrev pub p1 : TopicRules → ℕ → Option Millis → ℕ
p1 r now None = 0
p1 r now (Some since) = min (1_000_000 * ((now - since.0) / r.timing.p1_quantum_ms)) r.factors.p1_cap

-- P2, first message deliveries
abbrev pub p2 : Held → ℕ
p2 h = h.first

-- it has been in the mesh for the activation time
abbrev pub is_active : TopicRules → ℕ → Option Millis → Bool
is_active r now None = false
is_active r now (Some since) = nat_le r.timing.p3_activation_ms (now - since.0)

-- P3, mesh message delivery rate: the square of what an active member lacks to the threshold
abbrev pub p3 : TopicRules → ℕ → Held → ℕ
p3 r now h =
    if is_active r now h.since && nat_lt h.near r.factors.p3_threshold
    then squared (r.factors.p3_threshold - h.near)
    else 0

-- P3b, mesh message delivery failures
abbrev pub p3b : Held → ℕ
p3b h = h.deficit

-- P4, invalid messages
abbrev pub p4 : Held → ℕ
p4 h = squared h.invalid

-- the sum of the five, each times its weight
abbrev pub weighed : TopicRules → ℕ → Held → ℤ
weighed r now h =
    times r.factors.w1 (pos (p1 r now h.since))
    +ℤ times r.factors.w2 (pos (p2 h))
    +ℤ times r.factors.w3 (pos (p3 r now h))
    +ℤ times r.factors.w3b (pos (p3b h))
    +ℤ times r.factors.w4 (pos (p4 h))

-- what a topic gives
unfoldable pub topic_part : TopicRules → ℕ → Held → ℤ
topic_part r now h = times r.factors.topic_weight (weighed r now h)

-- ---- the parts without a topic

-- P5, the score that the application gives it
abbrev pub p5 : ℤ → ℤ
p5 app = app

-- P6, IP colocation: the square of the number by which the neighbours at its address exceed the threshold
abbrev pub p6 : ℕ → ℕ → ℕ
p6 threshold n = if nat_lt threshold n then squared (1_000_000 * (n - threshold)) else 0

-- P7, behavioural penalty
abbrev pub p7 : ℕ → ℕ
p7 misbehaviour = squared misbehaviour

-- limited to the cap, if there is one
abbrev pub capped : ℕ → ℤ → ℤ
capped cap x = if nat_lt 0 cap then int_min x (pos cap) else x

-- the score of a neighbour with this sum over topics, this score of the application, n neighbours at its address, and
-- this misbehaviour
unfoldable pub score_of : Factors → ℤ → ℤ → ℕ → ℕ → ℤ
score_of f topics app n misbehaviour =
    capped f.topic_cap topics
    +ℤ times f.w5 (p5 app)
    +ℤ times f.w6 (pos (p6 f.p6_threshold n))
    +ℤ times f.w7 (pos (p7 misbehaviour))
