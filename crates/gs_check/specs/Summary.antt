-- What the program says about a scenario that is fine: how many of each thing its plan has.
use Rattle.std.specs.Prelude.{ℕ, ◌+◌, ◌*◌, ◌/◌, ◌%◌, ◌^◌, ◌-◌, ◌==◌, ◌++◌, min, List, codes, decimal, length, if◌then◌else◌}
use Rattle.gs_plan.specs.declared.plan.Plan.{Plan}

-- a number, and what it counts: `1 peer`, `0 peers`
abbrev pub counted : ℕ → List ℕ → List ℕ → List ℕ
counted n one many = if n == 1 then decimal n ++ codes " " ++ one else decimal n ++ codes " " ++ many

-- a number below 1000 in three digits
abbrev pub three_digits : ℕ → List ℕ
three_digits n = decimal (n / 100) ++ decimal (n / 10 % 10) ++ decimal (n % 10)

-- milliseconds as seconds: `2 s`, and with three digits after the point where they are no whole number of seconds
abbrev pub seconds : ℕ → List ℕ
seconds ms =
    if ms % 1000 == 0 then decimal (ms / 1000) ++ codes " s"
    else decimal (ms / 1000) ++ codes "." ++ three_digits (ms % 1000) ++ codes " s"

abbrev pub peers_text : Plan → List ℕ
peers_text plan = counted (length plan.peers) (codes "peer") (codes "peers") ++ codes ", "

abbrev pub connections_text : Plan → List ℕ
connections_text plan = counted (length plan.dials) (codes "connection") (codes "connections") ++ codes " ("

-- Each dial is a connection of two links. (No count is above 2^64 - 1.)
abbrev pub links_text : Plan → List ℕ
links_text plan = counted (min (length plan.dials * 2) (2 ^ 64 - 1)) (codes "link") (codes "links") ++ codes "), "

abbrev pub topics_text : Plan → List ℕ
topics_text plan = counted (length plan.params.topics) (codes "topic") (codes "topics") ++ codes "\n"

-- The rounds begin with round 0, so there is one more than the number of the last.
abbrev pub rounds_text : Plan → List ℕ
rounds_text plan = counted (plan.rounds + 1) (codes "round") (codes "rounds") ++ codes " of "

abbrev pub length_text : Plan → List ℕ
length_text plan = decimal plan.round_ms ++ codes " ms: "

abbrev pub time_text : Plan → List ℕ
time_text plan = seconds ((plan.rounds + 1) * plan.round_ms) ++ codes " of simulated time\n"

abbrev pub script_text : Plan → List ℕ
script_text plan = counted (length plan.script) (codes "line") (codes "lines") ++ codes " in the script\n"

-- the whole answer: `ok`, who takes part, and what happens
abbrev pub summary : Plan → List ℕ
summary plan =
    (((((((codes "ok\n" ++ peers_text plan) ++ connections_text plan) ++ links_text plan) ++ topics_text plan)
    ++ rounds_text plan) ++ length_text plan) ++ time_text plan)
    ++ script_text plan
