-- The texts of what neighbours sent or promised without effect.
use Rattle.std.specs.Prelude.{ℕ, List, ◌++◌, codes}
use Rattle.gs_base.specs.declared.names.PeerNo.{PeerNo}
use Rattle.gs_rules.specs.declared.fallen.Fallen.{Fallen}
use Rattle.gs_rules.specs.declared.fallen.Fallen.TheVariants.{Graylisted, Late, Graft, Request, Broken}
use Rattle.gs_rules.specs.declared.fallen.NoAnswer.{NoAnswer}
use Rattle.gs_rules.specs.declared.fallen.NoAnswer.TheVariants.{Ignored, NotKept, TooOften}
use Rattle.gs_rules.specs.declared.outcome.GraftRefusal.{GraftRefusal}
use Rattle.gs_rules.specs.declared.outcome.GraftRefusal.TheVariants.{Explicit, TooSoon, Negative, Full}
use Rattle.gs_trace.specs.Texts.{id_text, list_text, moment_text}
use Rattle.gs_trace.specs.Events.{from_text, topic_member}

-- why a GRAFT was refused
abbrev pub refusal_word : GraftRefusal → List ℕ
refusal_word Explicit = codes "explicit"
refusal_word TooSoon = codes "backoff"
refusal_word Negative = codes "score"
refusal_word Full = codes "full"

-- why an identifier is not answered
abbrev pub no_answer_word : NoAnswer → List ℕ
no_answer_word Ignored = codes "score"
no_answer_word NotKept = codes "not_kept"
no_answer_word TooOften = codes "too_often"

abbrev pub why_member : List ℕ → List ℕ
why_member word = codes ",\"why\":\"" ++ word ++ codes "\""

-- what had no effect, and the neighbour that sent or promised it
abbrev pub fallen_of : List ℕ → List (List ℕ) → PeerNo → List ℕ
fallen_of word names q = codes "{\"what\":\"" ++ word ++ codes "\"" ++ from_text names q

abbrev pub fallen_members : List (List ℕ) → Fallen → List ℕ
fallen_members names (Graylisted q) = fallen_of (codes "graylisted") names q
fallen_members names (Late q) = fallen_of (codes "late") names q
fallen_members names (Graft q t why) =
    fallen_of (codes "graft") names q ++ topic_member t ++ why_member (refusal_word why)
fallen_members names (Request q id why) =
    fallen_of (codes "iwant") names q ++ codes ",\"id\":" ++ id_text id ++ why_member (no_answer_word why)
fallen_members names (Broken p) =
    fallen_of (codes "promise") names p.from ++ codes ",\"id\":" ++ id_text p.id
    ++ codes ",\"until\":" ++ moment_text p.until

abbrev pub fallen_object : List (List ℕ) → Fallen → List ℕ
fallen_object names fallen = fallen_members names fallen ++ codes "}"

-- everything that had no effect at an entry
abbrev pub fell_away_member : List (List ℕ) → List Fallen → List ℕ
fell_away_member names all = codes ",\"fell_away\":" ++ list_text (fallen_object names) all
