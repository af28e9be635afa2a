-- The texts of marks, and of all that an entry says was done, tell them.
use Rattle.std.proofs.Common.{◌≡◌, ℕ, ◌<◌, ◌^◌, ℤ, List, ◌∷◌, ◌++◌, codes, decimal, drop, refl, ap, arith}
use Rattle.std.specs.List.{AllByRecursion}
use Rattle.gs_base.specs.declared.mark.Mark.{Mark}
use Rattle.gs_base.specs.declared.mark.Mark.TheVariants.{Seen, First, Near, Invalid, Deficit, Misbehaviour, Cached, Answered, Offered, Asked, Grafted, Pruned, Fanned, Unfanned, Backoff, Published}
use Rattle.gs_base.specs.declared.names.Millis.{Millis}
use Rattle.gs_base.specs.declared.names.MsgId.{MsgId}
use Rattle.gs_base.specs.declared.names.PeerNo.{PeerNo}
use Rattle.gs_base.specs.declared.names.Topic.{Topic}
use Rattle.gs_base.specs.declared.rpc.Rpc.{Rpc}
use Rattle.gs_base.specs.declared.verdict.Verdict.{Verdict}
use Rattle.gs_base.specs.declared.verdict.Verdict.TheVariants.{Accept, Reject, Ignore}
use Rattle.gs_rules.specs.declared.trace.Effects.{Effects}
use Rattle.gs_rules.specs.declared.trace.Promise.{Promise}
use Rattle.gs_trace.specs.Events.{delivery_text, effects_members, mark_members, mark_object, mark_of, mark_on, mark_text, promise_text, send_text, topic_member, verdict_word}
use Rattle.gs_trace.specs.Stored.{AreStoredBytes, IsStoredDelivery, IsStoredEffects, IsStoredId, IsStoredMark, IsStoredPeer, IsStoredPromise, IsStoredSend, IsStoredTopic}
use Rattle.gs_trace.specs.Texts.{id_text, peer_text}
use Rattle.gs_trace.proofs.EventTexts.{tell_payload, tell_topic_member}
use Rattle.gs_trace.proofs.Numbers.{tell_whole}
use Rattle.gs_trace.proofs.Prefixes.{Anything, NoDigit, TellsAll, and_next, and_then, anywhere, back, clashes, front, made, next, of_part}
use Rattle.gs_trace.proofs.RpcTexts.{tell_rpc}
use Rattle.gs_trace.proofs.Values.{Differ, tell_id, tell_list, tell_moment, tell_number, tell_optional, tell_peer, tell_topic}

-- ---- verdicts

abbrev AnyVerdict : Verdict → Type 0
AnyVerdict v = Unit {0}

tell_verdict : TellsAll Anything AnyVerdict verdict_word
tell_verdict = record { tell = by }
  where
    by : (x y : Verdict) (s t : List ℕ) → Anything s → Anything t → AnyVerdict x → AnyVerdict y → verdict_word x ++ s ≡ verdict_word y ++ t → (x ≡ y) × (s ≡ t)
    by Accept Accept s t fs ft hx hy e = (refl, ap (drop 6) e)
    by Accept y s t fs ft hx hy e = absurd (clashes _ _ refl e)
    by Reject Reject s t fs ft hx hy e = (refl, ap (drop 6) e)
    by Reject y s t fs ft hx hy e = absurd (clashes _ _ refl e)
    by Ignore Ignore s t fs ft hx hy e = (refl, ap (drop 6) e)
    by Ignore y s t fs ft hx hy e = absurd (clashes _ _ refl e)

-- ---- marks

module _ (names : List (List ℕ)) (stored : AllByRecursion AreStoredBytes names) (differ : Differ names) where
  peers : TellsAll NoDigit IsStoredPeer (peer_text names)
  peers = tell_peer names stored differ

  -- a neighbour, and a neighbour on a topic
  of_peer : (word : List ℕ) → TellsAll NoDigit IsStoredPeer (mark_of word names)
  of_peer word = front (mark_text word) (front (codes ",\"peer\":") peers)

  abbrev Place : Type 0
  Place = PeerNo × Topic

  abbrev IsStoredPlace : Place → Type 0
  IsStoredPlace x = IsStoredPeer x.0 × IsStoredTopic x.1

  on_topic : (word : List ℕ) → TellsAll Anything IsStoredPlace (λ x. mark_on word names x.0 x.1)
  on_topic word = and_next (of_part {Fits = IsStoredPlace} (of_peer word) (λ (x : Place). x.0) (λ x h. h.0))
      (of_part tell_topic_member (λ (x : Place). x.1) (λ x h. h.1)) (λ x s. refl)

  -- a neighbour on a topic, and something more
  on_topic_with : {V : Type 0} {After : List ℕ → Type 0} {Fits : V → Type 0} {f : V → List ℕ} (word k : List ℕ) → TellsAll After Fits f
      → TellsAll After (λ (x : Place × V). IsStoredPlace x.0 × Fits x.1) (λ x. mark_on word names x.0.0 x.0.1 ++ k ++ f x.1)
  on_topic_with {V = V} {Fits = Fits} word k told =
      next (of_part {Fits = λ (x : Place × V). IsStoredPlace x.0 × Fits x.1} (on_topic word) (λ (x : Place × V). x.0) (λ x h. h.0))
      k (λ s. tt) (of_part told (λ (x : Place × V). x.1) (λ x h. h.1))

  -- a neighbour, and something more
  of_peer_with : {V : Type 0} {After : List ℕ → Type 0} {Fits : V → Type 0} {f : V → List ℕ} (word k : List ℕ) → ((s : List ℕ) → NoDigit (k ++ s))
      → TellsAll After Fits f → TellsAll After (λ (x : PeerNo × V). IsStoredPeer x.0 × Fits x.1) (λ x. mark_of word names x.0 ++ k ++ f x.1)
  of_peer_with {V = V} {Fits = Fits} word k none told =
      next (of_part {Fits = λ (x : PeerNo × V). IsStoredPeer x.0 × Fits x.1} (of_peer word) (λ (x : PeerNo × V). x.0) (λ x h. h.0))
      k none (of_part told (λ (x : PeerNo × V). x.1) (λ x h. h.1))

  -- a message
  of_id : (word : List ℕ) → TellsAll Anything IsStoredId (λ id. mark_text word ++ codes ",\"id\":" ++ id_text id)
  of_id word = front (mark_text word ++ codes ",\"id\":") tell_id

  abbrev IsStoredSeen : MsgId × Verdict → Type 0
  IsStoredSeen x = IsStoredId x.0

  seen : TellsAll Anything IsStoredSeen (λ x. mark_text (codes "seen") ++ codes ",\"id\":" ++ id_text x.0 ++ codes ",\"verdict\":\"" ++ verdict_word x.1 ++ codes "\"")
  seen = back {After = Anything} (next (of_part {Fits = IsStoredSeen} (of_id (codes "seen")) (λ (x : MsgId × Verdict). x.0) (λ x h. h))
      (codes ",\"verdict\":\"") (λ s. tt) (of_part tell_verdict (λ (x : MsgId × Verdict). x.1) (λ x h. tt))) (codes "\"") (λ s. tt)

  abbrev IsStoredCached : MsgId × Topic → Type 0
  IsStoredCached x = IsStoredId x.0 × IsStoredTopic x.1

  cached : TellsAll Anything IsStoredCached (λ x. mark_text (codes "cached") ++ codes ",\"id\":" ++ id_text x.0 ++ topic_member x.1)
  cached = and_then (of_part {Fits = IsStoredCached} (of_id (codes "cached")) (λ (x : MsgId × Topic). x.0) (λ x h. h.0))
      (of_part tell_topic_member (λ (x : MsgId × Topic). x.1) (λ x h. h.1))

  abbrev IsCount : ℕ → Type 0
  IsCount n = n < 2 ^ 32

  tell_count : TellsAll NoDigit IsCount decimal
  tell_count = of_part {Fits = IsCount} tell_number (λ (n : ℕ). n) (λ n h. omega arith)

  pub tell_mark : TellsAll NoDigit IsStoredMark (mark_members names)
  tell_mark = record { tell = by }
    where
      by : (x y : Mark) (s t : List ℕ) → NoDigit s → NoDigit t → IsStoredMark x → IsStoredMark y → mark_members names x ++ s ≡ mark_members names y ++ t → (x ≡ y) × (s ≡ t)
      by (Seen i v) (Seen j w) s t fs ft hx hy e =
          let both = seen.tell (i, v) (j, w) s t tt tt hx hy e in
          (ap (λ (x : MsgId × Verdict). Seen x.0 x.1) both.0, both.1)
      by (Seen i v) y s t fs ft hx hy e = absurd (clashes _ _ refl e)
      by (First q a i) (First r b j) s t fs ft hx hy e =
          let both = (on_topic_with (codes "first") (codes ",\"id\":") tell_id).tell ((q, a), i) ((r, b), j) s t tt tt ((hx.0, hx.1), hx.2) ((hy.0, hy.1), hy.2) e in
          (ap (λ (x : Place × MsgId). First x.0.0 x.0.1 x.1) both.0, both.1)
      by (First q a i) y s t fs ft hx hy e = absurd (clashes _ _ refl e)
      by (Near q a i) (Near r b j) s t fs ft hx hy e =
          let both = (on_topic_with (codes "near") (codes ",\"id\":") tell_id).tell ((q, a), i) ((r, b), j) s t tt tt ((hx.0, hx.1), hx.2) ((hy.0, hy.1), hy.2) e in
          (ap (λ (x : Place × MsgId). Near x.0.0 x.0.1 x.1) both.0, both.1)
      by (Near q a i) y s t fs ft hx hy e = absurd (clashes _ _ refl e)
      by (Invalid q a) (Invalid r b) s t fs ft hx hy e =
          let both = (on_topic (codes "invalid")).tell (q, a) (r, b) s t tt tt hx hy e in
          (ap (λ (x : Place). Invalid x.0 x.1) both.0, both.1)
      by (Invalid q a) y s t fs ft hx hy e = absurd (clashes _ _ refl e)
      by (Deficit q a m) (Deficit r b n) s t fs ft hx hy e =
          let both = (on_topic_with (codes "deficit") (codes ",\"millionths\":") tell_whole).tell ((q, a), m) ((r, b), n) s t fs ft ((hx.0, hx.1), hx.2) ((hy.0, hy.1), hy.2) e in
          (ap (λ (x : Place × ℤ). Deficit x.0.0 x.0.1 x.1) both.0, both.1)
      by (Deficit q a m) y s t fs ft hx hy e = absurd (clashes _ _ refl e)
      by (Misbehaviour q) (Misbehaviour r) s t fs ft hx hy e =
          let both = (of_peer (codes "misbehaviour")).tell q r s t fs ft hx hy e in
          (ap Misbehaviour both.0, both.1)
      by (Misbehaviour q) y s t fs ft hx hy e = absurd (clashes _ _ refl e)
      by (Cached i a) (Cached j b) s t fs ft hx hy e =
          let both = cached.tell (i, a) (j, b) s t tt tt hx hy e in
          (ap (λ (x : MsgId × Topic). Cached x.0 x.1) both.0, both.1)
      by (Cached i a) y s t fs ft hx hy e = absurd (clashes _ _ refl e)
      by (Answered q i) (Answered r j) s t fs ft hx hy e =
          let both = (of_peer_with (codes "answered") (codes ",\"id\":") (λ u. refl) tell_id).tell (q, i) (r, j) s t tt tt hx hy e in
          (ap (λ (x : PeerNo × MsgId). Answered x.0 x.1) both.0, both.1)
      by (Answered q i) y s t fs ft hx hy e = absurd (clashes _ _ refl e)
      by (Offered q) (Offered r) s t fs ft hx hy e =
          let both = (of_peer (codes "offered")).tell q r s t fs ft hx hy e in
          (ap Offered both.0, both.1)
      by (Offered q) y s t fs ft hx hy e = absurd (clashes _ _ refl e)
      by (Asked q m) (Asked r n) s t fs ft hx hy e =
          let both = (of_peer_with (codes "asked") (codes ",\"count\":") (λ u. refl) tell_count).tell (q, m) (r, n) s t fs ft hx hy e in
          (ap (λ (x : PeerNo × ℕ). Asked x.0 x.1) both.0, both.1)
      by (Asked q m) y s t fs ft hx hy e = absurd (clashes _ _ refl e)
      by (Grafted q a) (Grafted r b) s t fs ft hx hy e =
          let both = (on_topic (codes "grafted")).tell (q, a) (r, b) s t tt tt hx hy e in
          (ap (λ (x : Place). Grafted x.0 x.1) both.0, both.1)
      by (Grafted q a) y s t fs ft hx hy e = absurd (clashes _ _ refl e)
      by (Pruned q a) (Pruned r b) s t fs ft hx hy e =
          let both = (on_topic (codes "pruned")).tell (q, a) (r, b) s t tt tt hx hy e in
          (ap (λ (x : Place). Pruned x.0 x.1) both.0, both.1)
      by (Pruned q a) y s t fs ft hx hy e = absurd (clashes _ _ refl e)
      by (Fanned q a) (Fanned r b) s t fs ft hx hy e =
          let both = (on_topic (codes "fanned")).tell (q, a) (r, b) s t tt tt hx hy e in
          (ap (λ (x : Place). Fanned x.0 x.1) both.0, both.1)
      by (Fanned q a) y s t fs ft hx hy e = absurd (clashes _ _ refl e)
      by (Unfanned q a) (Unfanned r b) s t fs ft hx hy e =
          let both = (on_topic (codes "unfanned")).tell (q, a) (r, b) s t tt tt hx hy e in
          (ap (λ (x : Place). Unfanned x.0 x.1) both.0, both.1)
      by (Unfanned q a) y s t fs ft hx hy e = absurd (clashes _ _ refl e)
      by (Backoff q a m) (Backoff r b n) s t fs ft hx hy e =
          let both = (on_topic_with (codes "backoff") (codes ",\"until\":") tell_moment).tell ((q, a), m) ((r, b), n) s t fs ft ((hx.0, hx.1), hx.2) ((hy.0, hy.1), hy.2) e in
          (ap (λ (x : Place × Millis). Backoff x.0.0 x.0.1 x.1) both.0, both.1)
      by (Backoff q a m) y s t fs ft hx hy e = absurd (clashes _ _ refl e)
      by (Published a) (Published b) s t fs ft hx hy e =
          let both = (front (mark_text (codes "published")) tell_topic_member).tell a b s t tt tt hx hy e in
          (ap Published both.0, both.1)
      by (Published a) y s t fs ft hx hy e = absurd (clashes _ _ refl e)

  tell_object : TellsAll Anything IsStoredMark (mark_object names)
  tell_object = back tell_mark (codes "}") (λ s. refl)

  object_no_bracket : (x : Mark) (s t : List ℕ) → IsStoredMark x → mark_object names x ++ s ≡ 93 ∷ t → ⊥
  object_no_bracket (Seen i v) s t h e = clashes _ _ refl e
  object_no_bracket x s t h e = clashes _ _ refl e

  -- ---- what was done

  tell_send : TellsAll Anything IsStoredSend (send_text names)
  tell_send = back {After = Anything} (and_next (front (codes "{\"to\":") (of_part {Fits = IsStoredSend} peers (λ (x : PeerNo × Rpc). x.0) (λ x h. h.0)))
      (front (codes ",\"rpc\":") (of_part tell_rpc (λ (x : PeerNo × Rpc). x.1) (λ x h. h.1))) (λ x s. refl)) (codes "}") (λ s. tt)

  tell_delivery : TellsAll Anything IsStoredDelivery delivery_text
  tell_delivery = back {After = Anything} (and_then (front (codes "{\"topic\":") (of_part {Fits = IsStoredDelivery} tell_topic (λ (x : Topic × List ℕ). x.0) (λ x h. h.0)))
      (of_part tell_payload (λ (x : Topic × List ℕ). x.1) (λ x h. h.1))) (codes "}") (λ s. tt)

  tell_promise : TellsAll Anything IsStoredPromise (promise_text names)
  tell_promise = made (back {After = NoDigit} (next (next
      (front (codes "{\"from\":") (of_part {Fits = IsStoredPromise} peers (λ (p : Promise). p.from) (λ p h. h.peer)))
      (codes ",\"id\":") (λ s. refl) (of_part tell_id (λ (p : Promise). p.id) (λ p h. h.id)))
      (codes ",\"until\":") (λ s. tt) (of_part tell_moment (λ (p : Promise). p.until) (λ p h. h.until)))
      (codes "}") (λ s. refl))
      (λ p. record { from = p.0.0; id = p.0.1; until = p.1 })

  pub tell_effects : TellsAll Anything IsStoredEffects (effects_members names)
  tell_effects = made (next (next (next
      (front (codes ",\"sent\":") (of_part {Fits = IsStoredEffects} (tell_list (anywhere tell_send) (λ x s t h e. clashes _ _ refl e)) (λ (f : Effects). f.sends) (λ f h. h.sends)))
      (codes ",\"delivered\":") (λ s. tt) (of_part (tell_list (anywhere tell_delivery) (λ x s t h e. clashes _ _ refl e)) (λ (f : Effects). f.delivered) (λ f h. h.delivered)))
      (codes ",\"promise\":") (λ s. tt) (of_part (tell_optional tell_promise (λ x s t h e. clashes _ _ refl e)) (λ (f : Effects). f.promise) (λ f h. h.promise)))
      (codes ",\"marks\":") (λ s. tt) (of_part (tell_list (anywhere tell_object) object_no_bracket) (λ (f : Effects). f.marks) (λ f h. h.marks)))
      (λ p. record { sends = p.0.0.0; delivered = p.0.0.1; promise = p.0.1; marks = p.1 })
