-- What is kept of a trace after one more entry.
use Rattle.std.proofs.Common.{◌≡◌, ◌≤◌, ◌+◌, ℕ, arith, Bool, true, false, List, [], ◌∷◌, ◌++◌, length, drop, reverse, refl, sym, ap, ◌∙◌, true≢false}
use Rattle.std.proofs.lemmas.List.{drop-append-le, length-reverse, reverse-append}
use Rattle.std.proofs.Math.Seq.{drop-append_seam}
use Rattle.gs_rules.specs.declared.event.Event.{Event}
use Rattle.gs_rules.specs.declared.event.Event.TheVariants.{Heard, Late, Part, BeatBegin, Step, Own, Lost, Decay, RoundEnd, Shut}
use Rattle.gs_rules.specs.declared.trace.Entry.{Entry}
use Rattle.gs_rules.specs.Events.{of_round_end}
use Rattle.gs_rules.specs.Tables.{Entries}
use Rattle.gs_router.specs.Log.{IsKept, ends_round, is_round_over, since_end, this_round}

-- ---- rounds

-- what a function of the end of a round gives where the event is none
pub not_end : {A : Type 0} (by : ℕ → A) (otherwise : A) (event : Event) → ends_round event ≡ false → of_round_end by otherwise event ≡ otherwise
not_end by otherwise (RoundEnd r) h = absurd (true≢false h)
not_end by otherwise (Heard q rpc) h = refl
not_end by otherwise (Late q rpc) h = refl
not_end by otherwise (Part q part) h = refl
not_end by otherwise BeatBegin h = refl
not_end by otherwise (Step step) h = refl
not_end by otherwise (Own act) h = refl
not_end by otherwise (Lost q loss) h = refl
not_end by otherwise Decay h = refl
not_end by otherwise Shut h = refl

-- after an end of a round nothing is left of it
pub after_end : (L : Entries) (event : Event) → ends_round event ≡ true → of_round_end (λ r. []) L event ≡ []
after_end L (RoundEnd r) h = refl
after_end L (Heard q rpc) h = absurd (true≢false (sym h))
after_end L (Late q rpc) h = absurd (true≢false (sym h))
after_end L (Part q part) h = absurd (true≢false (sym h))
after_end L BeatBegin h = absurd (true≢false (sym h))
after_end L (Step step) h = absurd (true≢false (sym h))
after_end L (Own act) h = absurd (true≢false (sym h))
after_end L (Lost q loss) h = absurd (true≢false (sym h))
after_end L Decay h = absurd (true≢false (sym h))
after_end L Shut h = absurd (true≢false (sym h))

-- an entry within a round comes to those that the round has so far
goes_on : (e : Entry) (L : Entries) → is_round_over L ≡ false → this_round (e ∷ L) ≡ e ∷ this_round L
goes_on e [] h = refl
goes_on e (x ∷ L) h = ap (λ (M : Entries). e ∷ M) (not_end (λ r. []) (x ∷ since_end L) x.event h)

-- after the end of a round an entry begins another
begins : (e : Entry) (L : Entries) → is_round_over L ≡ true → this_round (e ∷ L) ≡ e ∷ []
begins e [] h = absurd (true≢false (sym h))
begins e (x ∷ L) h = ap (λ (M : Entries). e ∷ M) (after_end (x ∷ since_end L) x.event h)

-- ---- what is kept

latest : (e : Entry) (L : Entries) → reverse (e ∷ L) ≡ reverse L ++ e ∷ []
latest e L = reverse-append (e ∷ []) L

-- within a round, an entry more is kept
pub one_more : (all : Bool) (kept : Entries) (start : ℕ) (was is : Bool) (L : Entries) (e : Entry) → was ≡ false → is ≡ ends_round e.event → IsKept all kept start was L → IsKept all (e ∷ kept) start is (e ∷ L)
one_more all kept start was is L e on ends h =
    let within : start ≤ length (reverse kept) = omega (arith, h.within, length-reverse kept) in
    let open_still : is_round_over L ≡ false = sym h.over ∙ on in
    record {
      round =
          ap (drop start) (latest e kept)
          ∙ drop-append-le start (reverse kept) (e ∷ []) within
          ∙ ap (λ (es : List Entry). es ++ e ∷ []) h.round
          ∙ sym (latest e (this_round L))
          ∙ ap reverse (sym (goes_on e L open_still));
      within = omega (arith, h.within);
      whole = λ is_all. ap (λ (M : Entries). e ∷ M) (h.whole is_all);
      last = refl;
      over = ends;
    }

-- a round begins where all is kept
pub begins_behind : (kept : Entries) (start : ℕ) (was is all : Bool) (L : Entries) (e : Entry) → is_round_over L ≡ true → is ≡ ends_round e.event → IsKept all kept start was L → IsKept all (e ∷ kept) (length (reverse kept)) is (e ∷ L)
begins_behind kept start was is all L e over ends h = record {
  round = ap (drop (length (reverse kept))) (latest e kept) ∙ drop-append_seam (reverse kept) (e ∷ []) ∙ ap reverse (sym (begins e L over));
  within = let same = length-reverse kept in omega (arith, same);
  whole = λ is_all. ap (λ (M : Entries). e ∷ M) (h.whole is_all);
  last = refl;
  over = ends;
}

-- a round begins where only rounds are kept
pub begins_anew : (is all : Bool) (L : Entries) (e : Entry) → all ≡ false → is_round_over L ≡ true → is ≡ ends_round e.event → IsKept all (e ∷ []) 0 is (e ∷ L)
begins_anew is all L e only over ends = record {
  round = ap reverse (sym (begins e L over));
  within = omega arith;
  whole = λ is_all. absurd (true≢false (sym is_all ∙ only));
  last = refl;
  over = ends;
}
