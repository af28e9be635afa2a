-- Which lines of a trace are wanted. The first line always is.
use Rattle.std.specs.Prelude.{ℕ, nat_le, Bool, true, ◌&&◌, ◌==◌, if◌then◌else◌, List, [], ◌++◌, filter, Option, None, Some}
use Rattle.std.specs.List.{flat_map, list_any, slice_split}
use Rattle.gs_base.specs.declared.names.PeerNo.{PeerNo}
use Rattle.gs_plan.specs.declared.plan.Plan.{Plan}
use Rattle.gs_rules.specs.declared.trace.Entry.{Entry}
use Rattle.gs_rules.specs.Rules.{same_bytes}
use Rattle.gs_report.specs.declared.report.Report.{Report}
use Rattle.gs_report.specs.Text.{name_of}
use Rattle.gs_trace.specs.declared.wanted.RoundSpan.{RoundSpan}
use Rattle.gs_trace.specs.declared.wanted.Wanted.{Wanted}
use Rattle.gs_trace.specs.declared.wanted.Wish.{Wish}
use Rattle.gs_trace.specs.declared.wanted.Wish.TheVariants.{Any, Only}
use Rattle.gs_trace.specs.Events.{event_word, refused_word}
use Rattle.gs_trace.specs.Lines.{Told, Did, Refused, head_text, line_text, told}
use Rattle.gs_trace.specs.Topics.{entry_names, line_names}

-- What the options ask for. A part is None if that option is not given.
pub record Wishes : Type 0 where
  -- lines of the peer with this name
  pub peer : Option (List ℕ)
  -- lines that name this topic
  pub topic : Option (List ℕ)
  pub rounds : Option RoundSpan
  -- lines whose event has one of these words, with commas between them
  pub events : Option (List ℕ)

-- the text that an option asks for
abbrev pub spelled : Wish → Option (List ℕ)
spelled Any = None
spelled (Only text) = Some text.now

abbrev pub wishes_of : Wanted → Wishes
wishes_of w =
    record { peer = spelled w.peer; topic = spelled w.topic; rounds = w.rounds; events = spelled w.events }

abbrev pub no_wish : Wishes
no_wish = record { peer = None; topic = None; rounds = None; events = None }

-- what an option asks for satisfies the test, or the option is not given
abbrev pub suits : {A : Type 0} → (A → Bool) → Option A → Bool
suits test None = true
suits test (Some wish) = test wish

-- ---- words with commas between them

-- whether a word is one of those that a text has between commas
abbrev pub is_among : List ℕ → List ℕ → Bool
is_among word words = list_any (λ one. same_bytes one word) (slice_split (λ byte. byte == 44) words)

-- ---- lines

abbrev pub is_of_peer : Wishes → Plan → PeerNo → Bool
is_of_peer w plan q = suits (same_bytes (name_of plan q)) w.peer

abbrev pub lies_in : ℕ → RoundSpan → Bool
lies_in r rounds = nat_le rounds.first r && nat_le r rounds.last

abbrev pub is_in_rounds : Wishes → ℕ → Bool
is_in_rounds w r = suits (lies_in r) w.rounds

-- the line has the word of one of these events
abbrev pub is_event : Wishes → List ℕ → Bool
is_event w word = suits (is_among word) w.events

-- the event, an RPC that was sent, a delivery or a mark names the topic
abbrev pub is_about : Wishes → Entry → Bool
is_about w e = suits (λ (topic : List ℕ). entry_names topic e) w.topic

-- the line of the script names the topic
abbrev pub is_line_about : Wishes → Plan → ℕ → Bool
is_line_about w plan place = suits (λ (topic : List ℕ). line_names plan topic place) w.topic

abbrev pub is_wanted : Wishes → Plan → Told → Bool
is_wanted w plan (Did r q e fallen) =
    (is_of_peer w plan q && is_in_rounds w r) && (is_event w (event_word e.event) && is_about w e)
is_wanted w plan (Refused r q line) =
    (is_of_peer w plan q && is_in_rounds w r) && (is_event w refused_word && is_line_about w plan line.line)

-- the first line, and those that are wanted
abbrev pub wanted_text : Wishes → Plan → Report → List ℕ
wanted_text w plan report = head_text plan ++ flat_map (line_text plan) (filter (is_wanted w plan) (told plan report))

-- the line, if it is wanted
abbrev pub line_if : Wishes → Plan → Told → List ℕ
line_if w plan x = if is_wanted w plan x then line_text plan x else []
