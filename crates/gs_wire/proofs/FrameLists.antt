-- Frames at the front of a stream, and streams that are cut.
use Rattle.std.proofs.Common.{rules, ◌≡◌, ℕ, Bool, false, Option, Some, None, ◌+◌, ◌-◌, ◌<◌, ◌≤◌, List, [], ◌∷◌, ◌++◌, length, take, drop, refl, sym, ap, subst, ◌∙◌, append_assoc, append-nil, take-append-drop, length-append, length-take, length-drop, arith, inl, inr, Result, Ok}
use Rattle.std.specs.List.{concat}
use Rattle.std.proofs.lemmas.List.{drop-drop, drop-append-le}
use Rattle.bytes.proofs.Ranges.{take-append_past}
use Rattle.gs_base.specs.declared.rpc.Rpc.{Rpc}
use Rattle.gs_wire.specs.declared.fault.WireFault.{WireFault}
use Rattle.gs_wire.specs.declared.frames.End.{End}
use Rattle.gs_wire.specs.declared.frames.End.TheVariants as ends
use Rattle.gs_wire.specs.declared.frames.Span.{Span}
use Rattle.gs_wire.specs.Varint.{IsVarint, varint}
use Rattle.gs_wire.specs.Messages.{SpellsRpc, IsInMemory, body, frame}
use Rattle.gs_wire.specs.Stream.{SpellsFrame, SpellFrames, HasLength, GoesOn, IsStream, IsSpan, AwaitsBody, Holding, Feeds, EndsFeed, FindsIn, FindsAfter}
use Rattle.gs_wire.proofs.Varints.{written_varint}
use Rattle.gs_wire.proofs.Rpcs.{one_rpc}
use Rattle.gs_wire.proofs.RpcRoundTrip.{body_spelled, same_fronts}
use Rattle.gs_wire.proofs.Lengths.{one_length, length_more, length_shorter, begins_no_length, begins_front, no_length_more}

-- ---- a frame at the front

-- the body that a length names
pub body_named : (bytes : List ℕ) (n : ℕ) (rest : List ℕ) → HasLength bytes n rest → n ≡ length (take n rest) → HasLength bytes (length (take n rest)) (take n rest ++ drop n rest)
body_named bytes n rest h whole = record {
  len = h.len;
  parts = h.parts ∙ ap (λ (t : List ℕ). h.len ++ t) (sym (take-append-drop n rest));
  spells = subst (λ (k : ℕ). IsVarint h.len k) whole h.spells;
}

pub frame_taken : (limit : ℕ) (bytes : List ℕ) (n start : ℕ) (v : Rpc) → HasLength bytes n (drop start bytes) → start ≤ length bytes → n ≤ length bytes - start → n ≤ limit → SpellsRpc (take n (drop start bytes)) v → SpellsFrame limit (take (start + n) bytes) v
frame_taken limit bytes n start v h within long low spells =
    let rest = drop start bytes in
    let few : length rest ≡ length bytes - start = length-drop start bytes in
    let whole : n ≡ length (take n rest) = omega (arith, long, few, length-take n rest) in
    let len : length h.len ≡ start = omega (arith, within, few, ap length h.parts, length-append h.len rest) in
    record {
      len = h.len;
      body = take n rest;
      parts = ap (take (start + n)) h.parts ∙ take-append_past h.len rest n (start + n) (omega (arith, len));
      spells_len = subst (λ (k : ℕ). IsVarint h.len k) whole h.spells;
      within = omega (arith, length-take n rest, low);
      spells_body = spells;
    }

-- ---- where the body at the front is

pub span_found : (limit : ℕ) (bytes : List ℕ) (n start : ℕ) → HasLength bytes n (drop start bytes) → start ≤ length bytes → n ≤ limit → IsSpan limit bytes start (start + n)
span_found limit bytes n start h begun low =
    let same : start + n - start ≡ n = omega arith in
    record { begun = begun; ordered = omega arith; within = omega (arith, low); says = subst (λ (k : ℕ). HasLength bytes k (drop start bytes)) (sym same) h }

-- more bytes come
pub span_more : (limit : ℕ) (bytes more : List ℕ) (start end : ℕ) → IsSpan limit bytes start end → IsSpan limit (bytes ++ more) start end
span_more limit bytes more start end s =
    let rest : drop start (bytes ++ more) ≡ drop start bytes ++ more = drop-append-le start bytes more s.begun in
    record {
      begun = omega (arith, s.begun, length-append bytes more);
      ordered = s.ordered;
      within = s.within;
      says = subst (λ (t : List ℕ). HasLength (bytes ++ more) (end - start) t) (sym rest) (length_more bytes (end - start) (drop start bytes) more s.says);
    }

-- the body isn't whole
pub span_waits : (limit : ℕ) (bytes : List ℕ) (start end : ℕ) → IsSpan limit bytes start end → length bytes < end → GoesOn limit bytes ends.Waits
span_waits limit bytes start end s few = inr (end - start, drop start bytes, s.says, s.within, omega (arith, few, s.begun, s.ordered, length-drop start bytes))

pub span_nonempty : (limit : ℕ) (bytes : List ℕ) (start end : ℕ) → IsSpan limit bytes start end → 0 < end
span_nonempty limit bytes start end s = omega (arith, s.begun, s.ordered, length_shorter bytes (end - start) (drop start bytes) s.says, length-drop start bytes)

-- the body is whole
pub span_taken : (limit : ℕ) (bytes : List ℕ) (start end : ℕ) (v : Rpc) → IsSpan limit bytes start end → end ≤ length bytes → SpellsRpc (take (end - start) (drop start bytes)) v → SpellsFrame limit (take end bytes) v
span_taken limit bytes start end v s long spells =
    let whole : start + (end - start) ≡ end = omega (arith, s.ordered) in
    subst (λ (k : ℕ). SpellsFrame limit (take k bytes) v) whole (frame_taken limit bytes (end - start) start v s.says s.begun (omega (arith, long)) s.within spells)

pub span_malformed : (limit : ℕ) (bytes : List ℕ) (start end : ℕ) → IsSpan limit bytes start end → end ≤ length bytes → ((v : Rpc) → ¬ (SpellsRpc (take (end - start) (drop start bytes)) v)) → GoesOn limit bytes ends.Malformed
span_malformed limit bytes start end s long none =
    let n = end - start in
    let rest = drop start bytes in
    let whole : n ≡ length (take n rest) = omega (arith, long, s.begun, s.ordered, length-take n rest, length-drop start bytes) in
    inr (take n rest, drop n rest, body_named bytes n rest s.says whole, omega (arith, whole, s.within), none)

-- a piece that doesn't end the body
pub span_stream : (limit : ℕ) (held piece : List ℕ) (start end : ℕ) → IsSpan limit held start end → length held + length piece < end → IsStream limit (held ++ piece) [] (held ++ piece) ends.Waits
span_stream limit held piece start end s few = record {
  front = [];
  parts = refl;
  frames = refl;
  goes_on = span_waits limit (held ++ piece) start end (span_more limit held piece start end s) (omega (arith, few, length-append held piece));
}

-- a piece that is shorter than what is missing doesn't end the body
pub missing_stream : (limit : ℕ) (held piece : List ℕ) (next : Option Span) (missing : ℕ) (failed : Bool) → AwaitsBody limit held next missing failed → length piece < missing → IsStream limit (held ++ piece) [] (held ++ piece) ends.Waits
missing_stream limit held piece None missing failed a few = absurd (omega (arith, few, a.counted))
missing_stream limit held piece (Some span) missing failed a few = span_stream limit held piece span.start span.end a.right (omega (arith, few, a.counted))

pub missing_sound : (limit : ℕ) (held : List ℕ) (next : Option Span) (missing : ℕ) (failed : Bool) → AwaitsBody limit held next missing failed → 0 < missing → failed ≡ false
missing_sound limit held None missing failed a some = absurd (omega (arith, some, a.counted))
missing_sound limit held (Some span) missing failed a some = a.sound (search rules)

-- a feed that only adds
pub only_adds : (old new : Holding) (piece : List ℕ) (before after : List Rpc) (result : Result (Unit {0}) WireFault) → result ≡ Ok tt → Feeds old piece new before after ends.Waits → EndsFeed old piece new before after result
only_adds old new piece before after result ok feeds = record {
  fed = rw ok feeds;
  malformed = λ h. absurd (cc);
  too_long = λ h. absurd (cc);
  failed = ((λ h. absurd (cc)), (λ h. let held = feeds.was_held in absurd (cc)));
  failed_reader = λ h. absurd (cc);
  failed_list = λ h. absurd (cc);
  no_memory_reader = λ h. absurd (cc);
  no_memory_list = λ h. absurd (cc);
}

-- ---- frames in order

frames_push : (limit : ℕ) (vs : List Rpc) (v : Rpc) (front one : List ℕ) → SpellFrames limit front vs → SpellsFrame limit one v → SpellFrames limit (front ++ one) (vs ++ v ∷ [])
frames_push limit [] v front one h p = (one, [], rw h (sym (append-nil one)), p, refl)
frames_push limit (w ∷ vs) v front one h p = (h.0, h.1 ++ one, ap (λ (t : List ℕ). t ++ one) h.2 ∙ append_assoc h.0 h.1 one, h.3, frames_push limit vs v h.1 one h.4 p)

frames_append : (limit : ℕ) (vs ws : List Rpc) (front more : List ℕ) → SpellFrames limit front vs → SpellFrames limit more ws → SpellFrames limit (front ++ more) (vs ++ ws)
frames_append limit [] ws front more h k = subst (λ (t : List ℕ). SpellFrames limit (t ++ more) ws) (sym h) k
frames_append limit (v ∷ vs) ws front more h k = (h.0, h.1 ++ more, ap (λ (t : List ℕ). t ++ more) h.2 ∙ append_assoc h.0 h.1 more, h.3, frames_append limit vs ws h.1 more h.4 k)

-- these frames were read, and what stands from a place on is left
pub record ReadFrames (limit : ℕ) (bytes : List ℕ) (taken : ℕ) (vs : List Rpc) : Type 0 where
  pub within : taken ≤ length bytes
  pub front : List ℕ
  pub parts : bytes ≡ front ++ drop taken bytes
  pub frames : SpellFrames limit front vs

pub frames_none : (limit : ℕ) (bytes : List ℕ) → ReadFrames limit bytes 0 []
frames_none limit bytes = record { within = omega arith; front = []; parts = refl; frames = refl }

pub frames_more : (limit : ℕ) (bytes : List ℕ) (taken count : ℕ) (vs : List Rpc) (v : Rpc) → ReadFrames limit bytes taken vs → count ≤ length (drop taken bytes) → SpellsFrame limit (take count (drop taken bytes)) v → ReadFrames limit bytes (taken + count) (vs ++ v ∷ [])
frames_more limit bytes taken count vs v r few p =
    let rest = drop taken bytes in
    record {
      within = omega (arith, r.within, few, length-drop taken bytes);
      front = r.front ++ take count rest;
      parts = r.parts ∙ ap (λ (t : List ℕ). r.front ++ t) (sym (take-append-drop count rest) ∙ ap (λ (t : List ℕ). take count rest ++ t) (drop-drop count taken bytes)) ∙ sym (append_assoc r.front (take count rest) (drop (taken + count) bytes));
      frames = frames_push limit vs v r.front (take count rest) r.frames p;
    }

pub frames_end : (limit : ℕ) (bytes : List ℕ) (taken : ℕ) (vs : List Rpc) (end : End) → ReadFrames limit bytes taken vs → GoesOn limit (drop taken bytes) end → IsStream limit bytes vs (drop taken bytes) end
frames_end limit bytes taken vs end r on = record { front = r.front; parts = r.parts; frames = r.frames; goes_on = on }

-- ---- a stream is one

-- a whole frame at the front
frame_length : (limit : ℕ) (one rest : List ℕ) (v : Rpc) → (p : SpellsFrame limit one v) → HasLength (one ++ rest) (length p.body) (p.body ++ rest)
frame_length limit one rest v p = record { len = p.len; parts = ap (λ (t : List ℕ). t ++ rest) p.parts ∙ append_assoc p.len p.body rest; spells = p.spells_len }

-- doesn't stand where a stream goes on
not_goes_on : (limit : ℕ) (one rest : List ℕ) (v : Rpc) (end : End) → SpellsFrame limit one v → GoesOn limit (one ++ rest) end → ⊥
not_goes_on limit one rest v ends.Waits p on = elim on [
  | inl begins ↦ begins_no_length (one ++ rest) begins (length p.body) (p.body ++ rest) (frame_length limit one rest v p)
  | inr waits ↦
      let same = one_length (one ++ rest) (length p.body) waits.0 (p.body ++ rest) waits.1 (frame_length limit one rest v p) waits.2 in
      omega (arith, same.0, waits.4, ap length same.1, length-append p.body rest)
]
not_goes_on limit one rest v ends.TooLong p on =
    let same = one_length (one ++ rest) (length p.body) on.0 (p.body ++ rest) on.1 (frame_length limit one rest v p) on.2 in
    omega (arith, same.0, on.3, p.within)
not_goes_on limit one rest v ends.Malformed p on = elim on [
  | inl none ↦ none.1 (length p.body) (p.body ++ rest) (frame_length limit one rest v p)
  | inr bad ↦
      let same = one_length (one ++ rest) (length p.body) (length bad.0) (p.body ++ rest) (bad.0 ++ bad.1) (frame_length limit one rest v p) bad.2 in
      let apart = same_fronts p.body bad.0 rest bad.1 same.0 same.1 in
      bad.4 v (subst (λ (t : List ℕ). SpellsRpc t v) apart.0 p.spells_body)
]

waits_long : (limit : ℕ) (rest : List ℕ) → GoesOn limit rest ends.Waits → GoesOn limit rest ends.TooLong → ⊥
waits_long limit rest p q = elim p [
  | inl begins ↦ begins_no_length rest begins q.0 q.1 q.2
  | inr waits ↦ omega (arith, (one_length rest waits.0 q.0 waits.1 q.1 waits.2 q.2).0, waits.3, q.3)
]

waits_bad : (limit : ℕ) (rest : List ℕ) → GoesOn limit rest ends.Waits → GoesOn limit rest ends.Malformed → ⊥
waits_bad limit rest p q = elim p [
  | inl begins ↦ elim q [
    | inl none ↦ none.0 begins
    | inr bad ↦ begins_no_length rest begins (length bad.0) (bad.0 ++ bad.1) bad.2
  ]
  | inr waits ↦ elim q [
    | inl none ↦ none.1 waits.0 waits.1 waits.2
    | inr bad ↦
        let same = one_length rest waits.0 (length bad.0) waits.1 (bad.0 ++ bad.1) waits.2 bad.2 in
        omega (arith, same.0, waits.4, ap length same.1, length-append bad.0 bad.1)
  ]
]

long_bad : (limit : ℕ) (rest : List ℕ) → GoesOn limit rest ends.TooLong → GoesOn limit rest ends.Malformed → ⊥
long_bad limit rest p q = elim q [
  | inl none ↦ none.1 p.0 p.1 p.2
  | inr bad ↦ omega (arith, (one_length rest p.0 (length bad.0) p.1 (bad.0 ++ bad.1) p.2 bad.2).0, p.3, bad.3)
]

one_end : (limit : ℕ) (rest : List ℕ) (e f : End) → GoesOn limit rest e → GoesOn limit rest f → e ≡ f
one_end limit rest ends.Waits ends.Waits p q = refl
one_end limit rest ends.TooLong ends.TooLong p q = refl
one_end limit rest ends.Malformed ends.Malformed p q = refl
one_end limit rest ends.Waits ends.TooLong p q = absurd (waits_long limit rest p q)
one_end limit rest ends.TooLong ends.Waits p q = absurd (waits_long limit rest q p)
one_end limit rest ends.Waits ends.Malformed p q = absurd (waits_bad limit rest p q)
one_end limit rest ends.Malformed ends.Waits p q = absurd (waits_bad limit rest q p)
one_end limit rest ends.TooLong ends.Malformed p q = absurd (long_bad limit rest p q)
one_end limit rest ends.Malformed ends.TooLong p q = absurd (long_bad limit rest q p)

-- the frames at the front are the same
one_front : (limit : ℕ) (a b x y : List ℕ) (v w : Rpc) → SpellsFrame limit a v → SpellsFrame limit b w → a ++ x ≡ b ++ y → (v ≡ w) × (x ≡ y)
one_front limit a b x y v w p q e =
    let same = one_length (a ++ x) (length p.body) (length q.body) (p.body ++ x) (q.body ++ y) (frame_length limit a x v p) (subst (λ (t : List ℕ). HasLength t (length q.body) (q.body ++ y)) (sym e) (frame_length limit b y w q)) in
    let apart = same_fronts p.body q.body x y same.0 same.1 in
    (one_rpc p.body v w p.spells_body (subst (λ (t : List ℕ). SpellsRpc t w) (sym apart.0) q.spells_body), apart.1)

one_stream_of : (limit : ℕ) (vs ws : List Rpc) (f g r s : List ℕ) (e d : End) → SpellFrames limit f vs → SpellFrames limit g ws → f ++ r ≡ g ++ s → GoesOn limit r e → GoesOn limit s d → (vs ≡ ws) × (r ≡ s) × (e ≡ d)
one_stream_of limit [] [] f g r s e d p q same on on' =
    let rests : r ≡ s = ap (λ (t : List ℕ). t ++ r) (sym p) ∙ same ∙ ap (λ (t : List ℕ). t ++ s) q in
    (refl, rests, one_end limit r e d on (subst (λ (t : List ℕ). GoesOn limit t d) (sym rests) on'))
one_stream_of limit [] (w ∷ ws) f g r s e d p q same on on' =
    let whole : r ≡ q.0 ++ (q.1 ++ s) = ap (λ (t : List ℕ). t ++ r) (sym p) ∙ same ∙ ap (λ (t : List ℕ). t ++ s) q.2 ∙ append_assoc q.0 q.1 s in
    absurd (not_goes_on limit q.0 (q.1 ++ s) w e q.3 (subst (λ (t : List ℕ). GoesOn limit t e) whole on))
one_stream_of limit (v ∷ vs) [] f g r s e d p q same on on' =
    let whole : s ≡ p.0 ++ (p.1 ++ r) = ap (λ (t : List ℕ). t ++ s) (sym q) ∙ sym same ∙ ap (λ (t : List ℕ). t ++ r) p.2 ∙ append_assoc p.0 p.1 r in
    absurd (not_goes_on limit p.0 (p.1 ++ r) v d p.3 (subst (λ (t : List ℕ). GoesOn limit t d) whole on'))
one_stream_of limit (v ∷ vs) (w ∷ ws) f g r s e d p q same on on' =
    let whole : p.0 ++ (p.1 ++ r) ≡ q.0 ++ (q.1 ++ s) = sym (append_assoc p.0 p.1 r) ∙ ap (λ (t : List ℕ). t ++ r) (sym p.2) ∙ same ∙ ap (λ (t : List ℕ). t ++ s) q.2 ∙ append_assoc q.0 q.1 s in
    let first = one_front limit p.0 q.0 (p.1 ++ r) (q.1 ++ s) v w p.3 q.3 whole in
    let more = one_stream_of limit vs ws p.1 q.1 r s e d p.4 q.4 first.1 on on' in
    (cc (first.0, more.0), more.1, more.2)

pub one_stream : (limit : ℕ) (bytes : List ℕ) (vs ws : List Rpc) (r s : List ℕ) (e d : End) → IsStream limit bytes vs r e → IsStream limit bytes ws s d → (vs ≡ ws) × (r ≡ s) × (e ≡ d)
one_stream limit bytes vs ws r s e d p q = one_stream_of limit vs ws p.front q.front r s e d p.frames q.frames (sym p.parts ∙ q.parts) p.goes_on q.goes_on

-- ---- a stream that is cut

pub streams_join : (limit : ℕ) (x y r s : List ℕ) (vs ws : List Rpc) (end : End) → IsStream limit x vs r ends.Waits → IsStream limit (r ++ y) ws s end → IsStream limit (x ++ y) (vs ++ ws) s end
streams_join limit x y r s vs ws end p q = record {
  front = p.front ++ q.front;
  parts = ap (λ (t : List ℕ). t ++ y) p.parts ∙ append_assoc p.front r y ∙ ap (λ (t : List ℕ). p.front ++ t) q.parts ∙ sym (append_assoc p.front q.front s);
  frames = frames_append limit vs ws p.front q.front p.frames q.frames;
  goes_on = q.goes_on;
}

pub too_long_stays : (limit : ℕ) (rest y : List ℕ) → GoesOn limit rest ends.TooLong → GoesOn limit (rest ++ y) ends.TooLong
too_long_stays limit rest y on = (on.0, on.1 ++ y, length_more rest on.0 on.1 y on.2, on.3)

pub malformed_stays : (limit : ℕ) (rest y : List ℕ) → GoesOn limit rest ends.Malformed → GoesOn limit (rest ++ y) ends.Malformed
malformed_stays limit rest y on = elim on [
  | inl none ↦ inl ((λ begins. none.0 (begins_front rest y begins)), no_length_more rest y none.0 none.1)
  | inr bad ↦ inr (bad.0, bad.1 ++ y, subst (λ (t : List ℕ). HasLength (rest ++ y) (length bad.0) t) (append_assoc bad.0 bad.1 y) (length_more rest (length bad.0) (bad.0 ++ bad.1) y bad.2), bad.3, bad.4)
]

pub fault_stays : (limit : ℕ) (x y r : List ℕ) (vs : List Rpc) (end : End) → (GoesOn limit r end → GoesOn limit (r ++ y) end) → IsStream limit x vs r end → IsStream limit (x ++ y) vs (r ++ y) end
fault_stays limit x y r vs end stays p = record {
  front = p.front;
  parts = ap (λ (t : List ℕ). t ++ y) p.parts ∙ append_assoc p.front r y;
  frames = p.frames;
  goes_on = stays p.goes_on;
}

-- one piece, and what is found in those after it
found_then : (limit : ℕ) (x tail : List ℕ) (found : List Rpc) (rest : List ℕ) (first : End) (more : List Rpc) (end : End) (Later : Type 0) → IsStream limit x found rest first → FindsAfter first Later more end → (GoesOn limit rest ends.Waits → Later → (r : List ℕ) × IsStream limit (rest ++ tail) more r end) → (r : List ℕ) × IsStream limit (x ++ tail) (found ++ more) r end
found_then limit x tail found rest ends.Waits more end Later s later go_on =
    let p = go_on s.goes_on later in
    (p.0, streams_join limit x tail rest p.0 found more end s p.1)
found_then limit x tail found rest ends.TooLong more end Later s later go_on =
    (rest ++ tail, rw (later.0, later.1, append-nil found) (fault_stays limit x tail rest found ends.TooLong (too_long_stays limit rest tail) s))
found_then limit x tail found rest ends.Malformed more end Later s later go_on =
    (rest ++ tail, rw (later.0, later.1, append-nil found) (fault_stays limit x tail rest found ends.Malformed (malformed_stays limit rest tail) s))

found_in : (limit : ℕ) (pieces : List (List ℕ)) (held : List ℕ) (vs : List Rpc) (end : End) → GoesOn limit held ends.Waits → FindsIn limit held pieces vs end → (rest : List ℕ) × IsStream limit (held ++ concat pieces) vs rest end
found_in limit [] held vs end on h = (held, rw (h.0, h.1, append-nil held) (record { front = []; parts = refl; frames = refl; goes_on = on }))
found_in limit (piece ∷ pieces) held vs end on h =
    let p = found_then limit (held ++ piece) (concat pieces) h.0 h.1 h.2 h.3 end (FindsIn limit h.1 pieces h.3 end) h.4 h.6 (λ waits later. found_in limit pieces h.1 h.3 end waits later) in
    (p.0, rw h.5 (subst (λ (t : List ℕ). IsStream limit t (h.0 ++ h.3) p.0 end) (append_assoc held piece (concat pieces)) p.1))

pub found_in_all : (limit : ℕ) (pieces : List (List ℕ)) (vs : List Rpc) (end : End) → FindsIn limit [] pieces vs end → (rest : List ℕ) × IsStream limit (concat pieces) vs rest end
found_in_all limit pieces vs end h = found_in limit pieces [] vs end (inl (omega arith, tt)) h

-- ---- what was written is read back

pub frame_read : (limit : ℕ) (v : Rpc) (more : List ℕ) (vs : List Rpc) (rest : List ℕ) (end : End) → IsInMemory v → length (body v) ≤ limit → IsStream limit more vs rest end → IsStream limit (frame v ++ more) (v ∷ vs) rest end
frame_read limit v more vs rest end fits low p = record {
  front = frame v ++ p.front;
  parts = ap (λ (t : List ℕ). frame v ++ t) p.parts ∙ sym (append_assoc (frame v) p.front rest);
  frames = (frame v, p.front, refl, record { len = varint (length (body v)); body = body v; parts = refl; spells_len = written_varint (length (body v)) fits.body; within = low; spells_body = body_spelled v fits }, p.frames);
  goes_on = p.goes_on;
}
