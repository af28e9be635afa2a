-- The texts of what came to nothing tell it.
use Rattle.std.proofs.Common.{◌≡◌, ℕ, List, ◌∷◌, ◌++◌, codes, drop, refl, ap}
use Rattle.std.specs.List.{AllByRecursion}
use Rattle.gs_base.specs.declared.names.Millis.{Millis}
use Rattle.gs_base.specs.declared.names.MsgId.{MsgId}
use Rattle.gs_base.specs.declared.names.PeerNo.{PeerNo}
use Rattle.gs_base.specs.declared.names.Topic.{Topic}
use Rattle.gs_rules.specs.declared.fallen.Fallen.{Fallen}
use Rattle.gs_rules.specs.declared.fallen.Fallen.TheVariants.{Graylisted, Late, Graft, Request, Broken}
use Rattle.gs_rules.specs.declared.fallen.NoAnswer.{NoAnswer}
use Rattle.gs_rules.specs.declared.fallen.NoAnswer.TheVariants.{Ignored, NotKept, TooOften}
use Rattle.gs_rules.specs.declared.outcome.GraftRefusal.{GraftRefusal}
use Rattle.gs_rules.specs.declared.outcome.GraftRefusal.TheVariants.{Explicit, TooSoon, Negative, Full}
use Rattle.gs_rules.specs.declared.trace.Promise.{Promise}
use Rattle.gs_trace.specs.Events.{topic_member}
use Rattle.gs_trace.specs.Fallen.{fallen_members, fallen_object, fallen_of, fell_away_member, no_answer_word, refusal_word, why_member}
use Rattle.gs_trace.specs.Stored.{AreStoredBytes, IsStoredId, IsStoredPeer, IsStoredPromise, IsStoredTopic}
use Rattle.gs_trace.specs.Texts.{id_text, moment_text}
use Rattle.gs_trace.proofs.EventTexts.{tell_topic_member}
use Rattle.gs_trace.proofs.Prefixes.{Anything, NoDigit, TellsAll, and_next, and_then, anywhere, back, clashes, front, made, next, of_part}
use Rattle.gs_trace.proofs.Values.{Differ, tell_id, tell_list, tell_moment, tell_peer}

-- what satisfies in memory what the logic does not know of it
abbrev pub IsStoredFallen : Fallen → Type 0
IsStoredFallen (Graylisted q) = IsStoredPeer q
IsStoredFallen (Late q) = IsStoredPeer q
IsStoredFallen (Graft q t why) = IsStoredPeer q × IsStoredTopic t
IsStoredFallen (Request q id why) = IsStoredPeer q × IsStoredId id
IsStoredFallen (Broken p) = IsStoredPromise p

-- ---- reasons

abbrev AnyRefusal : GraftRefusal → Type 0
AnyRefusal why = Unit {0}

tell_refusal : TellsAll Anything AnyRefusal refusal_word
tell_refusal = record { tell = by }
  where
    by : (x y : GraftRefusal) (s t : List ℕ) → Anything s → Anything t → AnyRefusal x → AnyRefusal y → refusal_word x ++ s ≡ refusal_word y ++ t → (x ≡ y) × (s ≡ t)
    by Explicit Explicit s t fs ft hx hy e = (refl, ap (drop 8) e)
    by Explicit y s t fs ft hx hy e = absurd (clashes _ _ refl e)
    by TooSoon TooSoon s t fs ft hx hy e = (refl, ap (drop 7) e)
    by TooSoon y s t fs ft hx hy e = absurd (clashes _ _ refl e)
    by Negative Negative s t fs ft hx hy e = (refl, ap (drop 5) e)
    by Negative y s t fs ft hx hy e = absurd (clashes _ _ refl e)
    by Full Full s t fs ft hx hy e = (refl, ap (drop 4) e)
    by Full y s t fs ft hx hy e = absurd (clashes _ _ refl e)

abbrev AnyReason : NoAnswer → Type 0
AnyReason why = Unit {0}

tell_no_answer : TellsAll Anything AnyReason no_answer_word
tell_no_answer = record { tell = by }
  where
    by : (x y : NoAnswer) (s t : List ℕ) → Anything s → Anything t → AnyReason x → AnyReason y → no_answer_word x ++ s ≡ no_answer_word y ++ t → (x ≡ y) × (s ≡ t)
    by Ignored Ignored s t fs ft hx hy e = (refl, ap (drop 5) e)
    by Ignored y s t fs ft hx hy e = absurd (clashes _ _ refl e)
    by NotKept NotKept s t fs ft hx hy e = (refl, ap (drop 8) e)
    by NotKept y s t fs ft hx hy e = absurd (clashes _ _ refl e)
    by TooOften TooOften s t fs ft hx hy e = (refl, ap (drop 9) e)
    by TooOften y s t fs ft hx hy e = absurd (clashes _ _ refl e)

tell_why : {A : Type 0} {Fits : A → Type 0} {f : A → List ℕ} → TellsAll Anything Fits f → TellsAll Anything Fits (λ x. why_member (f x))
tell_why told = back (front (codes ",\"why\":\"") told) (codes "\"") (λ s. tt)

-- ---- what came to nothing

module _ (names : List (List ℕ)) (stored : AllByRecursion AreStoredBytes names) (differ : Differ names) where
  of_peer : (word : List ℕ) → TellsAll NoDigit IsStoredPeer (fallen_of word names)
  of_peer word = front (codes "{\"what\":\"" ++ word ++ codes "\"") (front (codes ",\"from\":") (tell_peer names stored differ))

  abbrev Refusing : Type 0
  Refusing = (PeerNo × Topic) × GraftRefusal

  abbrev IsStoredRefusing : Refusing → Type 0
  IsStoredRefusing x = IsStoredPeer x.0.0 × IsStoredTopic x.0.1

  graft : TellsAll Anything IsStoredRefusing (λ x. fallen_of (codes "graft") names x.0.0 ++ topic_member x.0.1 ++ why_member (refusal_word x.1))
  graft = and_then (and_next (of_part {Fits = IsStoredRefusing} (of_peer (codes "graft")) (λ (x : Refusing). x.0.0) (λ x h. h.0))
      (of_part tell_topic_member (λ (x : Refusing). x.0.1) (λ x h. h.1)) (λ x s. refl))
      (of_part (tell_why tell_refusal) (λ (x : Refusing). x.1) (λ x h. tt))

  abbrev Asking : Type 0
  Asking = (PeerNo × MsgId) × NoAnswer

  abbrev IsStoredAsking : Asking → Type 0
  IsStoredAsking x = IsStoredPeer x.0.0 × IsStoredId x.0.1

  request : TellsAll Anything IsStoredAsking (λ x. fallen_of (codes "iwant") names x.0.0 ++ codes ",\"id\":" ++ id_text x.0.1 ++ why_member (no_answer_word x.1))
  request = and_then (next (of_part {Fits = IsStoredAsking} (of_peer (codes "iwant")) (λ (x : Asking). x.0.0) (λ x h. h.0))
      (codes ",\"id\":") (λ s. refl) (of_part tell_id (λ (x : Asking). x.0.1) (λ x h. h.1)))
      (of_part (tell_why tell_no_answer) (λ (x : Asking). x.1) (λ x h. tt))

  promise : TellsAll NoDigit IsStoredPromise (λ (p : Promise). fallen_of (codes "promise") names p.from ++ codes ",\"id\":" ++ id_text p.id ++ codes ",\"until\":" ++ moment_text p.until)
  promise = made (next (next
      (of_part {Fits = IsStoredPromise} (of_peer (codes "promise")) (λ (p : Promise). p.from) (λ p h. h.peer))
      (codes ",\"id\":") (λ s. refl) (of_part tell_id (λ (p : Promise). p.id) (λ p h. h.id)))
      (codes ",\"until\":") (λ s. tt) (of_part tell_moment (λ (p : Promise). p.until) (λ p h. h.until)))
      (λ (p : (PeerNo × MsgId) × Millis). record { from = p.0.0; id = p.0.1; until = p.1 })

  tell_members : TellsAll NoDigit IsStoredFallen (fallen_members names)
  tell_members = record { tell = by }
    where
      by : (x y : Fallen) (s t : List ℕ) → NoDigit s → NoDigit t → IsStoredFallen x → IsStoredFallen y → fallen_members names x ++ s ≡ fallen_members names y ++ t → (x ≡ y) × (s ≡ t)
      by (Graylisted q) (Graylisted r) s t fs ft hx hy e =
          let both = (of_peer (codes "graylisted")).tell q r s t fs ft hx hy e in
          (ap Graylisted both.0, both.1)
      by (Graylisted q) y s t fs ft hx hy e = absurd (clashes _ _ refl e)
      by (Late q) (Late r) s t fs ft hx hy e =
          let both = (of_peer (codes "late")).tell q r s t fs ft hx hy e in
          (ap Late both.0, both.1)
      by (Late q) y s t fs ft hx hy e = absurd (clashes _ _ refl e)
      by (Graft q a v) (Graft r b w) s t fs ft hx hy e =
          let both = graft.tell ((q, a), v) ((r, b), w) s t tt tt hx hy e in
          (ap (λ (x : Refusing). Graft x.0.0 x.0.1 x.1) both.0, both.1)
      by (Graft q a v) y s t fs ft hx hy e = absurd (clashes _ _ refl e)
      by (Request q i v) (Request r j w) s t fs ft hx hy e =
          let both = request.tell ((q, i), v) ((r, j), w) s t tt tt hx hy e in
          (ap (λ (x : Asking). Request x.0.0 x.0.1 x.1) both.0, both.1)
      by (Request q i v) y s t fs ft hx hy e = absurd (clashes _ _ refl e)
      by (Broken p) (Broken q) s t fs ft hx hy e =
          let both = promise.tell p q s t fs ft hx hy e in
          (ap Broken both.0, both.1)
      by (Broken p) y s t fs ft hx hy e = absurd (clashes _ _ refl e)

  tell_object : TellsAll Anything IsStoredFallen (fallen_object names)
  tell_object = back tell_members (codes "}") (λ s. refl)

  object_no_bracket : (x : Fallen) (s t : List ℕ) → IsStoredFallen x → fallen_object names x ++ s ≡ 93 ∷ t → ⊥
  object_no_bracket (Graylisted q) s t h e = clashes _ _ refl e
  object_no_bracket x s t h e = clashes _ _ refl e

  pub tell_fell_away : TellsAll Anything (AllByRecursion IsStoredFallen) (fell_away_member names)
  tell_fell_away = front (codes ",\"fell_away\":") (tell_list (anywhere tell_object) object_no_bracket)
