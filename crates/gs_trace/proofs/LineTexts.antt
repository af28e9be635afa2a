-- Each line of a trace tells what it is of, and the first one tells the names of the peers and the rounds.
use Rattle.std.proofs.Common.{◌≡◌, ℕ, ◌&&◌, Bool, true, ltb, List, [], ◌∷◌, ◌++◌, codes, decimal, drop, map, flat_map, slice_get, Option, None, Some, option_map, unwrap_or, refl, sym, ap, ◌∙◌, append_assoc, arith, ltb-true}
use Rattle.std.specs.List.{AllByRecursion}
use Rattle.std.proofs.lemmas.Bool.{and_parts, eqb-false}
use Rattle.gs_base.specs.declared.names.Millis.{Millis}
use Rattle.gs_base.specs.declared.names.PeerNo.{PeerNo}
use Rattle.gs_plan.specs.Plans.{what_word}
use Rattle.gs_plan.specs.declared.plan.Act.{Act}
use Rattle.gs_plan.specs.declared.plan.Act.TheVariants.{Subscribe}
use Rattle.gs_plan.specs.declared.plan.Dial.{Dial}
use Rattle.gs_plan.specs.declared.plan.Line.{Line}
use Rattle.gs_plan.specs.declared.plan.Plan.{Plan}
use Rattle.gs_rules.specs.declared.event.Event.{Event}
use Rattle.gs_rules.specs.declared.event.Event.TheVariants.{Heard}
use Rattle.gs_rules.specs.declared.fallen.Fallen.{Fallen}
use Rattle.gs_rules.specs.declared.refusal.Refusal.{Refusal}
use Rattle.gs_rules.specs.declared.refusal.Refusal.TheVariants.{AlreadySeen, TooLong, Joined, NotJoined, Stopped, NotOpen, TooMany}
use Rattle.gs_rules.specs.declared.refusal.RefusedLine.{RefusedLine}
use Rattle.gs_rules.specs.declared.trace.Effects.{Effects}
use Rattle.gs_rules.specs.declared.trace.Entry.{Entry}
use Rattle.gs_rules.specs.Refusals.{number_of}
use Rattle.gs_report.specs.Text.{word_of}
use Rattle.gs_trace.specs.Events.{effects_members, event_members, event_text}
use Rattle.gs_trace.specs.Fallen.{fell_away_member}
use Rattle.gs_trace.specs.Lines.{Told, Did, Refused, dial_text, entry_members, head_text, line_start, line_text}
use Rattle.gs_trace.specs.Stored.{AreStoredBytes, IsStoredDial, IsStoredEntry, IsStoredMoment, IsStoredNumber, IsStoredPeer, IsStoredRefusal}
use Rattle.gs_trace.specs.Texts.{list_text, names_of, quoted}
use Rattle.gs_trace.proofs.EventTexts.{event_sort, sort_told, tell_event, text_sort}
use Rattle.gs_trace.proofs.FallenTexts.{IsStoredFallen, tell_fell_away}
use Rattle.gs_trace.proofs.MarkTexts.{tell_effects}
use Rattle.gs_trace.proofs.Numbers.{IsShort, tell_decimal}
use Rattle.gs_trace.proofs.Prefixes.{Anything, NoDigit, Tells, TellsAll, and_next, and_then, anywhere, back, clashes, front, made, next, of_part, tell_items}
use Rattle.gs_trace.proofs.Quotes.{tell_quoted}
use Rattle.gs_trace.proofs.Values.{Differ, tell_list, tell_moment, tell_number, tell_peer}

-- ---- texts of parts

three_parts : (a b c s : List ℕ) → a ++ b ++ c ++ s ≡ a ++ (b ++ (c ++ s))
three_parts a b c s = simp append_assoc

-- ---- the first line

pub record IsStoredHead (plan : Plan) : Type 0 where
  pub names : AllByRecursion AreStoredBytes (names_of plan)
  pub round_ms : IsStoredNumber plan.round_ms
  pub rounds : IsStoredNumber plan.rounds
  pub dials : AllByRecursion IsStoredDial plan.dials

-- the first line up to who dials whom
abbrev front_text : Plan → List ℕ
front_text plan =
    codes "{\"peers\":" ++ list_text quoted (names_of plan) ++ codes ",\"round_ms\":" ++ decimal plan.round_ms
    ++ codes ",\"last_round\":" ++ decimal plan.rounds

-- what that tells
abbrev Front : Type 0
Front = (List (List ℕ) × ℕ) × ℕ

abbrev front_of : Plan → Front
front_of plan = ((names_of plan, plan.round_ms), plan.rounds)

tell_front : Tells NoDigit IsStoredHead front_text front_of
tell_front = next (next
    (front (codes "{\"peers\":") (of_part {Fits = IsStoredHead} (tell_list (anywhere tell_quoted) (λ x s t h e. clashes _ _ refl e)) names_of (λ p h. h.names)))
    (codes ",\"round_ms\":") (λ s. tt) (of_part tell_number (λ (p : Plan). p.round_ms) (λ p h. h.round_ms)))
    (codes ",\"last_round\":") (λ s. refl) (of_part tell_number (λ (p : Plan). p.rounds) (λ p h. h.rounds))

tell_dial : (names : List (List ℕ)) → AllByRecursion AreStoredBytes names → Differ names → TellsAll Anything IsStoredDial (dial_text names)
tell_dial names stored differ = made (back {After = NoDigit} (next
    (front (codes "{\"from\":") (of_part {Fits = IsStoredDial} (tell_peer names stored differ) (λ (d : Dial). d.from) (λ d h. h.0)))
    (codes ",\"to\":") (λ s. refl) (of_part (tell_peer names stored differ) (λ (d : Dial). d.to) (λ d h. h.1)))
    (codes "}") (λ s. refl)) (λ (x : PeerNo × PeerNo). record { from = x.0; to = x.1 })

tell_dials : (names : List (List ℕ)) → AllByRecursion AreStoredBytes names → Differ names → TellsAll Anything (AllByRecursion IsStoredDial) (list_text (dial_text names))
tell_dials names stored differ = tell_list (anywhere (tell_dial names stored differ)) (λ x s t h e. clashes _ _ refl e)

-- what the first line tells
abbrev pub head_of : Plan → Front × List Dial
head_of plan = (front_of plan, plan.dials)

head_cut : (plan : Plan) (s : List ℕ)
    → head_text plan ++ s ≡ front_text plan ++ (codes ",\"dials\":" ++ (list_text (dial_text (names_of plan)) plan.dials ++ (codes "}\n" ++ s)))
head_cut plan s =
    three_parts (front_text plan ++ codes ",\"dials\":") (list_text (dial_text (names_of plan)) plan.dials) (codes "}\n") s
    ∙ append_assoc (front_text plan) (codes ",\"dials\":") (list_text (dial_text (names_of plan)) plan.dials ++ (codes "}\n" ++ s))

-- of a plan whose peers' names differ
pub tell_head : (p q : Plan) (s t : List ℕ) → IsStoredHead p → IsStoredHead q → Differ (names_of p) → head_text p ++ s ≡ head_text q ++ t → (head_of p ≡ head_of q) × (s ≡ t)
tell_head p q s t hp hq differ e =
    let dials = λ (names : List (List ℕ)) (ds : List Dial) (u : List ℕ). list_text (dial_text names) ds ++ (codes "}\n" ++ u) in
    let one = tell_front.tell p q (codes ",\"dials\":" ++ dials (names_of p) p.dials s) (codes ",\"dials\":" ++ dials (names_of q) q.dials t) refl refl hp hq
    (sym (head_cut p s) ∙ e ∙ head_cut q t) in
    let names : names_of p ≡ names_of q = ap (λ (f : Front). f.0.0) one.0 in
    let two = (tell_dials (names_of p) hp.names differ).tell p.dials q.dials (codes "}\n" ++ s) (codes "}\n" ++ t) tt tt hp.dials hq.dials
    (ap (drop 9) one.1 ∙ ap (λ (ns : List (List ℕ)). dials ns q.dials t) (sym names)) in
    (λ i. (one.0 i, two.0 i), ap (drop 2) two.1)

-- ---- lines of peers

abbrev pub IsStoredTold : Told → Type 0
IsStoredTold (Did r q e fallen) = IsStoredNumber r × IsStoredPeer q × IsStoredEntry e × AllByRecursion IsStoredFallen fallen
IsStoredTold (Refused r q line) = IsStoredNumber r × IsStoredPeer q × IsStoredRefusal line

-- the words of a script by their places
abbrev Words : Type 0
Words = ℕ → List ℕ

abbrev refusal_with : Words → RefusedLine → List ℕ
refusal_with words line =
    event_text (codes "refused") ++ codes ",\"line\":" ++ decimal line.line ++ codes ",\"what\":" ++ quoted (words line.line)
    ++ codes ",\"number\":" ++ decimal (number_of line.why)

-- a line by the names and the words that it needs of a plan
abbrev pub line_with : List (List ℕ) → Words → Told → List ℕ
line_with names words (Did r q e fallen) = line_start names r e.at q ++ entry_members names e fallen ++ codes "}\n"
line_with names words (Refused r q line) = line_start names r line.at q ++ refusal_with words line ++ codes "}\n"

short_number : (why : Refusal) → IsShort (number_of why)
short_number AlreadySeen = omega arith
short_number why = omega arith

-- a number tells the refusal
number_told : (x y : Refusal) → number_of x ≡ number_of y → x ≡ y
number_told AlreadySeen AlreadySeen e = refl
number_told AlreadySeen y e = absurd (eqb-false _ _ refl e)
number_told TooLong TooLong e = refl
number_told TooLong y e = absurd (eqb-false _ _ refl e)
number_told Joined Joined e = refl
number_told Joined y e = absurd (eqb-false _ _ refl e)
number_told NotJoined NotJoined e = refl
number_told NotJoined y e = absurd (eqb-false _ _ refl e)
number_told Stopped Stopped e = refl
number_told Stopped y e = absurd (eqb-false _ _ refl e)
number_told NotOpen NotOpen e = refl
number_told NotOpen y e = absurd (eqb-false _ _ refl e)
number_told TooMany TooMany e = refl
number_told TooMany y e = absurd (eqb-false _ _ refl e)

no_refused_event : (x : Event) → event_sort x ≡ 10 → ⊥
no_refused_event (Heard q rpc) e = eqb-false _ _ refl e
no_refused_event x e = eqb-false _ _ refl e

five_parts : (a b c d e s : List ℕ) → a ++ (b ++ c ++ d) ++ e ++ s ≡ a ++ (b ++ (c ++ (d ++ (e ++ s))))
five_parts a b c d e s = simp append_assoc

module _ (names : List (List ℕ)) (stored : AllByRecursion AreStoredBytes names) (differ : Differ names) where
  abbrev Start : Type 0
  Start = (ℕ × Millis) × PeerNo

  abbrev IsStoredStart : Start → Type 0
  IsStoredStart x = IsStoredNumber x.0.0 × IsStoredMoment x.0.1 × IsStoredPeer x.1

  tell_start : TellsAll Anything IsStoredStart (λ x. line_start names x.0.0 x.0.1 x.1)
  tell_start = back {After = NoDigit} (next (next
      (front (codes "{\"round\":") (of_part {Fits = IsStoredStart} tell_number (λ (x : Start). x.0.0) (λ x h. h.0)))
      (codes ",\"at\":") (λ s. refl) (of_part tell_moment (λ (x : Start). x.0.1) (λ x h. h.1)))
      (codes ",\"peer\":") (λ s. refl) (of_part (tell_peer names stored differ) (λ (x : Start). x.1) (λ x h. h.2)))
      (codes ",") (λ s. refl)

  abbrev Doing : Type 0
  Doing = (ℕ × PeerNo) × (Entry × List Fallen)

  abbrev IsStoredDoing : Doing → Type 0
  IsStoredDoing x = IsStoredNumber x.0.0 × IsStoredPeer x.0.1 × IsStoredEntry x.1.0 × AllByRecursion IsStoredFallen x.1.1

  -- what an entry tells, and what came to nothing at it
  abbrev Done : Type 0
  Done = (Event × Effects) × List Fallen

  tell_entry : Tells {B = Start × Done} Anything IsStoredDoing (λ x. line_with names (λ n. []) (Did x.0.0 x.0.1 x.1.0 x.1.1)) (λ x. (((x.0.0, x.1.0.at), x.0.1), ((x.1.0.event, x.1.0.effects), x.1.1)))
  tell_entry = back {After = Anything} (and_then
      (of_part {Fits = IsStoredDoing} tell_start (λ (x : Doing). ((x.0.0, x.1.0.at), x.0.1)) (λ x h. (h.0, h.2.moment, h.1)))
      (and_then (and_next (of_part (tell_event names stored differ) (λ (x : Doing). x.1.0.event) (λ x h. h.2.event))
      (of_part (tell_effects names stored differ) (λ (x : Doing). x.1.0.effects) (λ x h. h.2.effects)) (λ x s. refl))
      (of_part (tell_fell_away names stored differ) (λ (x : Doing). x.1.1) (λ x h. h.3))))
      (codes "}\n") (λ s. tt)

  abbrev Refusing : Type 0
  Refusing = (ℕ × PeerNo) × (Words × RefusedLine)

  abbrev IsStoredRefusing : Refusing → Type 0
  IsStoredRefusing x = IsStoredNumber x.0.0 × IsStoredPeer x.0.1 × IsStoredRefusal x.1.1 × ((n : ℕ) → AreStoredBytes (x.1.0 n))

  tell_refusal : Tells {B = Start × ((ℕ × List ℕ) × ℕ)} Anything IsStoredRefusing (λ x. line_with names x.1.0 (Refused x.0.0 x.0.1 x.1.1)) (λ x. (((x.0.0, x.1.1.at), x.0.1), ((x.1.1.line, x.1.0 x.1.1.line), number_of x.1.1.why)))
  tell_refusal = back {After = NoDigit} (and_then
      (of_part {Fits = IsStoredRefusing} tell_start (λ (x : Refusing). ((x.0.0, x.1.1.at), x.0.1)) (λ x h. (h.0, h.2.moment, h.1)))
      (next (next
      (front (event_text (codes "refused") ++ codes ",\"line\":") (of_part {Fits = IsStoredRefusing} tell_number (λ (x : Refusing). x.1.1.line) (λ x h. h.2.place)))
      (codes ",\"what\":") (λ s. refl) (of_part tell_quoted (λ (x : Refusing). x.1.0 x.1.1.line) (λ x h. h.3 x.1.1.line)))
      (codes ",\"number\":") (λ s. tt) (of_part tell_decimal (λ (x : Refusing). number_of x.1.1.why) (λ x h. short_number x.1.1.why))))
      (codes "}\n") (λ s. refl)

  -- no line is of an entry and of a refused line
  no_both : (words : Words) (r k : ℕ) (q p : PeerNo) (x : Entry) (fallen : List Fallen) (line : RefusedLine) (s t : List ℕ) → IsStoredTold (Did r q x fallen) → IsStoredTold (Refused k p line)
      → line_with names words (Did r q x fallen) ++ s ≡ line_with names words (Refused k p line) ++ t → ⊥
  no_both words r k q p x fallen line s t hx hy e =
      let a = line_start names r x.at q in
      let b = line_start names k line.at p in
      let more = effects_members names x.effects ++ (fell_away_member names fallen ++ (codes "}\n" ++ s)) in
      let u = event_members names x.event ++ more in
      let v = refusal_with words line ++ (codes "}\n" ++ t) in
      let left : line_with names words (Did r q x fallen) ++ s ≡ a ++ u =
      five_parts a (event_members names x.event) (effects_members names x.effects) (fell_away_member names fallen) (codes "}\n") s in
      let right : line_with names words (Refused k p line) ++ t ≡ b ++ v = three_parts b (refusal_with words line) (codes "}\n") t in
      let both = tell_start.tell ((r, x.at), q) ((k, line.at), p) u v tt tt (hx.0, hx.2.moment, hx.1) (hy.0, hy.2.moment, hy.1) (sym left ∙ e ∙ right) in
      let refused : text_sort v ≡ 10 = refl in
      no_refused_event x.event (sym (sort_told names x.event more) ∙ ap text_sort both.1 ∙ refused)

  -- a line, with the words of its plan
  abbrev Worded : Type 0
  Worded = Words × Told

  abbrev IsStoredWorded : Worded → Type 0
  IsStoredWorded x = ((n : ℕ) → AreStoredBytes (x.0 n)) × IsStoredTold x.1

  line_by : (w v : Words) (x y : Told) (s t : List ℕ) → ((n : ℕ) → AreStoredBytes (w n)) → ((n : ℕ) → AreStoredBytes (v n)) → IsStoredTold x → IsStoredTold y
      → line_with names w x ++ s ≡ line_with names v y ++ t → (x ≡ y) × (s ≡ t)
  line_by w v (Did r q x f) (Did k p y g) s t hw hv hx hy e =
      let both = tell_entry.tell ((r, q), (x, f)) ((k, p), (y, g)) s t tt tt hx hy e in
      (ap (λ (z : Start × Done). Did z.0.0.0 z.0.1 (record { at = z.0.0.1; event = z.1.0.0; effects = z.1.0.1 }) z.1.1) both.0, both.1)
  line_by w v (Did r q x f) (Refused k p line) s t hw hv hx hy e = absurd (no_both v r k q p x f line s t hx hy e)
  line_by w v (Refused k p line) (Did r q x f) s t hw hv hx hy e = absurd (no_both w r k q p x f line t s hy hx (sym e))
  line_by w v (Refused r q x) (Refused k p y) s t hw hv hx hy e =
      let both = tell_refusal.tell ((r, q), (w, x)) ((k, p), (v, y)) s t tt tt (hx.0, hx.1, hx.2, hw) (hy.0, hy.1, hy.2, hv) e in
      let why = number_told x.why y.why (ap (λ (z : Start × ((ℕ × List ℕ) × ℕ)). z.1.1) both.0) in
      (λ i. Refused (both.0 i).0.0.0 (both.0 i).0.1 (record { at = (both.0 i).0.0.1; line = (both.0 i).1.0.0; why = why i }), both.1)

  tell_line : Tells Anything IsStoredWorded (λ x. line_with names x.0 x.1) (λ x. x.1)
  tell_line = record { tell = λ x y s t fs ft hx hy e. line_by x.0 y.0 x.1 y.1 s t hx.0 hy.0 hx.1 hy.1 e }

  abbrev IsEnd : List ℕ → Type 0
  IsEnd s = s ≡ []

  no_end : (x : Worded) (s t : List ℕ) → IsStoredWorded x → IsEnd t → line_with names x.0 x.1 ++ s ≡ t → ⊥
  no_end (w, Did r q x f) s t h end e = let none : line_with names w (Did r q x f) ++ s ≡ [] = e ∙ end in cc (none)
  no_end (w, Refused r q x) s t h end e = let none : line_with names w (Refused r q x) ++ s ≡ [] = e ∙ end in cc (none)

  with_words : Words → List Told → List Worded
  with_words w [] = []
  with_words w (x ∷ xs) = (w, x) ∷ with_words w xs

  words_text : (w : Words) (xs : List Told) → flat_map (λ (x : Worded). line_with names x.0 x.1) (with_words w xs) ≡ flat_map (line_with names w) xs
  unfolding with_words
  words_text w [] = refl
  words_text w (x ∷ xs) = ap (λ (u : List ℕ). line_with names w x ++ u) (words_text w xs)

  words_told : (w : Words) (xs : List Told) → map (λ (x : Worded). x.1) (with_words w xs) ≡ xs
  unfolding with_words
  words_told w [] = refl
  words_told w (x ∷ xs) = ap (λ u. x ∷ u) (words_told w xs)

  words_stored : (w : Words) (xs : List Told) → ((n : ℕ) → AreStoredBytes (w n)) → AllByRecursion IsStoredTold xs → AllByRecursion IsStoredWorded (with_words w xs)
  unfolding with_words
  words_stored w [] hw h = tt
  words_stored w (x ∷ xs) hw h = ((hw, h.0), words_stored w xs hw h.1)

  pub tell_lines : (w v : Words) (xs ys : List Told) → ((n : ℕ) → AreStoredBytes (w n)) → ((n : ℕ) → AreStoredBytes (v n)) → AllByRecursion IsStoredTold xs → AllByRecursion IsStoredTold ys
      → flat_map (line_with names w) xs ≡ flat_map (line_with names v) ys → xs ≡ ys
  tell_lines w v xs ys hw hv hx hy e =
      let text = λ (x : Worded). line_with names x.0 x.1 in
      let same : flat_map text (with_words w xs) ++ [] ≡ flat_map text (with_words v ys) ++ [] =
      ap (λ (u : List ℕ). u ++ []) (words_text w xs ∙ e ∙ sym (words_text v ys)) in
      let both = tell_items Anything IsEnd IsStoredWorded text (λ x. x.1) tell_line no_end (λ s h. tt) (λ x s h. tt) (with_words w xs) (with_words v ys) [] [] (words_stored w xs hw hx) (words_stored v ys hv hy) refl refl same in
      sym (words_told w xs) ∙ both.0 ∙ words_told v ys

-- ---- the lines of a plan

abbrev are_small : List ℕ → Bool
are_small [] = true
are_small (c ∷ cs) = ltb c 256 && are_small cs

small_stored : (cs : List ℕ) → are_small cs ≡ true → AreStoredBytes cs
small_stored [] h = tt
small_stored (c ∷ cs) h =
    let both = and_parts (ltb c 256) (are_small cs) h in
    (ltb-true c 256 both.0, small_stored cs both.1)

small_word : (act : Act) → are_small (what_word act) ≡ true
small_word (Subscribe t) = refl
small_word act = refl

word_stored : (line : Option Line) → AreStoredBytes (unwrap_or (option_map (λ (l : Line). what_word l.what) line) [])
word_stored None = tt
word_stored (Some line) = small_stored (what_word line.what) (small_word line.what)

pub words_of_plan : (plan : Plan) (n : ℕ) → AreStoredBytes (word_of plan n)
words_of_plan plan n = word_stored (slice_get plan.script n)

pub lines_of_plan : (plan : Plan) (xs : List Told) → flat_map (line_text plan) xs ≡ flat_map (line_with (names_of plan) (word_of plan)) xs
lines_of_plan plan [] = refl
lines_of_plan plan (Did r q x f ∷ xs) = ap (λ (u : List ℕ). line_text plan (Did r q x f) ++ u) (lines_of_plan plan xs)
lines_of_plan plan (Refused r q x ∷ xs) = ap (λ (u : List ℕ). line_text plan (Refused r q x) ++ u) (lines_of_plan plan xs)
