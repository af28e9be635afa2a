-- What an outlet hands over at the end of a round is what there is to hear of it.
use Rattle.std.proofs.Common.{◌≡◌, ◌≤◌, ◌⊎◌, ℕ, suc, Bool, true, false, not, nat_eq, ◌&&◌, ◌||◌, if◌then◌else◌, List, [], ◌∷◌, ◌++◌, length, map, reverse, Option, None, Some, is_none, unwrap_or, inl, inr, refl, sym, ap, ap₂, subst, subst₂, ◌∙◌, append-nil, arith, true≢false}
use Rattle.std.specs.Prelude.{IfSome, is_some}
use Rattle.std.specs.List.{AllByRecursion}
use Rattle.std.proofs.lemmas.Bool.{eqb-true, le-leb}
use Rattle.std.proofs.lemmas.List.{reverse-reverse}
use Rattle.gs_base.specs.declared.names.PeerNo.{PeerNo}
use Rattle.gs_base.specs.declared.rpc.Rpc.{Rpc}
use Rattle.gs_base.specs.Tokens.{Said, bytes_of}
use Rattle.gs_wire.specs.declared.frames.End.{End}
use Rattle.gs_wire.specs.declared.frames.End.TheVariants as wire_ends
use Rattle.gs_wire.specs.Codec.{codec}
use Rattle.gs_wire.specs.Messages.{body, longest_body}
use Rattle.gs_wire.specs.Stream.{HasRead, Holding, IsStream, held_after}
use Rattle.gs_wire.proofs.Shorter.{stream_fits}
use Rattle.gs_rules.specs.declared.trace.Entry.{Entry}
use Rattle.gs_rules.specs.Tables.{Entries, up}
use Rattle.gs_rules.specs.Saying.{Outgoing, gathered, out, outgoing}
use Rattle.gs_rules.specs.Hearing.{ComesIn, Inbound, bytes_before}
use Rattle.gs_rules.specs.Rounds.{Todo, Hear, HearFault, HearGone, ending, hears_of, is_fault}
use Rattle.gs_player.specs.Playing.{RpcsFit}
use Rattle.gs_player.specs.Words.{StandsAfter}
use Rattle.gs_player.proofs.Middle.{IsRoundOf}
use Rattle.gs_player.proofs.RoundWords.{StandsNext, bytes_are, says_round, stands_closed, stands_open}
use Rattle.gs_player.proofs.Since.{down_stays, out_no_more}
use Rattle.gs_player.proofs.Spoken.{told_more}
use Rattle.gs_player.proofs.Words.{bytes_stay}
use Rattle.gs_direct.specs.declared.letter.Ending.{Ending}
use Rattle.gs_direct.specs.declared.letter.Ending.TheVariants.{Fault, Gone}
use Rattle.gs_direct.specs.declared.outlet.Outlet.{Outlet}
use Rattle.gs_direct.specs.Letters.{LettersFit, all_heard, ending_heard}
use Rattle.gs_direct.specs.Outlets.{Carries, IsHandedOver, IsWritten, SaysAll, ending_of, letters_of, reader_of}
use Rattle.gs_direct.specs.Runs.{Delivers, HasEnded, IsReady}
use Rattle.gs_direct.proofs.Rounds.{ended_stays}

-- ---- how it ends

-- the reader and the close tell whether it ends
ending_by : (from : PeerNo) (end : End) (rest : List ℕ) (is_open : Bool)
    → ending_heard from (if is_none (held_after end rest) then Some Fault else if is_open then None else if nat_eq (length (unwrap_or (held_after end rest) [])) 0 then Some Gone else Some Fault)
    ≡ (if is_fault end || (not is_open && not (nat_eq (length rest) 0)) then HearFault from ∷ [] else if not is_open then HearGone from ∷ [] else [])
ending_by from wire_ends.Waits rest true = refl
ending_by from wire_ends.Waits rest false = by (nat_eq (length rest) 0)
  where
    by : (b : Bool) → ending_heard from (if b then Some Gone else Some Fault) ≡ (if not b then HearFault from ∷ [] else HearGone from ∷ [])
    by true = refl
    by false = refl
ending_by from wire_ends.Malformed rest is_open = refl
ending_by from wire_ends.TooLong rest is_open = refl

-- and then there is such an ending to hear
over_by : (end : End) (rest : List ℕ) (is_open : Bool)
    → is_some (if is_none (held_after end rest) then Some Fault else if is_open then None else if nat_eq (length (unwrap_or (held_after end rest) [])) 0 then Some Gone else Some Fault) ≡ true
    → ((is_fault end || (not is_open && not (nat_eq (length rest) 0))) ≡ true) ⊎ (not is_open ≡ true)
over_by wire_ends.Waits rest true told = absurd (true≢false (sym told))
over_by wire_ends.Waits rest false told = inr refl
over_by wire_ends.Malformed rest is_open told = inl refl
over_by wire_ends.TooLong rest is_open told = inl refl

-- ---- what a letter has one hear

empty_list : {A : Type 0} (xs : List A) → nat_eq (length xs) 0 ≡ true → xs ≡ []
empty_list [] h = refl
empty_list (x ∷ xs) h = let none = eqb-true (length (x ∷ xs)) 0 h in absurd (omega (arith, none))

no_ending : (from : PeerNo) (e : Option Ending) → is_none e ≡ true → ending_heard from e ≡ []
no_ending from None h = refl
no_ending from (Some e) h = absurd (true≢false (sym h))

both : (a b : Bool) → (a && b) ≡ true → (a ≡ true) × (b ≡ true)
both true b h = (refl, h)
both false b h = absurd (true≢false (sym h))

letter_heard : (from : PeerNo) (o : Outlet) → all_heard (letters_of from o) ≡ map (Hear from) o.rpcs.items ++ ending_heard from (ending_of o)
letter_heard from o = by (nat_eq (length o.rpcs.items) 0 && is_none (ending_of o)) refl
  where
    by : (b : Bool) → (nat_eq (length o.rpcs.items) 0 && is_none (ending_of o)) ≡ b
        → all_heard (if b then [] else record { from = from; rpcs = o.rpcs; ending = ending_of o } ∷ []) ≡ map (Hear from) o.rpcs.items ++ ending_heard from (ending_of o)
    by true is =
        let (none, quiet) = both (nat_eq (length o.rpcs.items) 0) (is_none (ending_of o)) is in
        sym (ap₂ (λ (rpcs : List Rpc) (todos : List Todo). map (Hear from) rpcs ++ todos) (empty_list o.rpcs.items none) (no_ending from (ending_of o) quiet))
    by false is = append-nil (map (Hear from) o.rpcs.items ++ ending_heard from (ending_of o))

letter_fits : (from : PeerNo) (o : Outlet) → RpcsFit o.rpcs.items → LettersFit (letters_of from o)
letter_fits from o fit = by (nat_eq (length o.rpcs.items) 0 && is_none (ending_of o))
  where
    by : (b : Bool) → LettersFit (if b then [] else record { from = from; rpcs = o.rpcs; ending = ending_of o } ∷ [])
    by true = tt
    by false = (fit, tt)

fit_behind : (xs ys : List Rpc) → AllByRecursion (λ rpc. length (body rpc) ≤ longest_body) (xs ++ ys) → RpcsFit ys
fit_behind [] [] h = tt
fit_behind [] (y ∷ ys) h = (le-leb (length (body y)) longest_body h.0, fit_behind [] ys h.1)
fit_behind (x ∷ xs) ys h = fit_behind xs ys h.1

-- ---- a round

-- An outlet through a round, of a peer whose trace was K before and is L after it.
pub record Passes (r : ℕ) (K L : Entries) (o played handed : Outlet) : Type 0 where
  pub round : IsRoundOf r K L
  pub ready : IsReady r K o
  pub none_before : gathered codec K o.to ≡ None
  pub none_after : gathered codec L o.to ≡ None
  pub says : (entries : List Entry) → L ≡ entries ++ K → SaysAll (reverse entries) o played
  pub goes_on : (entries : List Entry) × (L ≡ entries ++ K)
  pub handing : IsHandedOver played handed

module _ (r : ℕ) (K L : Entries) (o played handed : Outlet) (passes : Passes r K L o played handed) where
  all_says : SaysAll (reverse passes.goes_on.0) o played
  all_says = passes.says passes.goes_on.0 passes.goes_on.1

  back : reverse (reverse passes.goes_on.0) ++ K ≡ L
  back = ap (λ (es : List Entry). es ++ K) (reverse-reverse passes.goes_on.0) ∙ sym passes.goes_on.1

  carries_before : Carries o (outgoing codec K o.to) passes.ready.earlier
  carries_before = record {
    gathers = passes.ready.none_gathered ∙ sym passes.none_before;
    written = subst (λ (held : Option Rpc). IfSome held IsWritten) (sym passes.none_before) tt;
    read = subst (λ (vs : List Rpc). HasRead longest_body (bytes_of (out codec K o.to)) (reader_of o) vs)
        (sym (ap (λ (xs : List Rpc). passes.ready.earlier ++ xs) passes.ready.none_out ∙ append-nil passes.ready.earlier)) passes.ready.read;
  }

  abbrev carries_after : Carries played (outgoing codec L o.to) passes.ready.earlier
  carries_after =
      subst (λ (M : Entries). Carries played (outgoing codec M o.to) passes.ready.earlier) back
      (all_says.carries K passes.ready.earlier passes.ready.is_open carries_before)

  open_after : played.is_open ≡ up L o.to
  open_after = all_says.is_open K passes.ready.is_open ∙ ap (λ (M : Entries). up M o.to) back

  -- what is said
  said_next : StandsNext r (out codec L o.to) played.is_open
  said_next = by o.is_open refl passes.ready.stands
    where
      by : (is_open : Bool) → o.is_open ≡ is_open → StandsAfter r (out codec K o.to) is_open → StandsNext r (out codec L o.to) played.is_open
      by true is stands =
          let (bytes, says) = says_round r o.to K L passes.round (sym passes.ready.is_open ∙ is) in
          subst (StandsNext r (out codec L o.to)) (sym open_after) (stands_open r (out codec K o.to) (out codec L o.to) (up L o.to) bytes stands says)
      by false is stands =
          let down : up K o.to ≡ false = sym passes.ready.is_open ∙ is in
          let same : outgoing codec L o.to ≡ outgoing codec K o.to =
          ap (λ (M : Entries). outgoing codec M o.to) passes.goes_on.1 ∙ out_no_more K o.to passes.goes_on.0 down in
          let still_down : played.is_open ≡ false = open_after ∙ ap (λ (M : Entries). up M o.to) passes.goes_on.1 ∙ down_stays K o.to passes.goes_on.0 down in
          subst (StandsNext r (out codec L o.to)) (sym still_down) (stands_closed r (out codec K o.to) (out codec L o.to) stands (ap (λ (g : Outgoing). g.said) same))

  -- more is said
  said_more : (more : Said) × (out codec L o.to ≡ out codec K o.to ++ more)
  said_more =
      let (more, is) = told_more o.to K passes.goes_on.0 in
      (more, ap (λ (M : Entries). out codec M o.to) passes.goes_on.1 ∙ is)

  before_same : bytes_before r (out codec L o.to) ≡ bytes_of (out codec K o.to)
  before_same =
      ap (bytes_before r) said_more.1 ∙ bytes_stay r (out codec K o.to) said_more.0 passes.ready.stands.ended
      ∙ sym (bytes_are r (out codec K o.to) o.is_open passes.ready.stands)

  after_same : bytes_before (suc r) (out codec L o.to) ≡ bytes_of (out codec L o.to)
  after_same = sym (bytes_are (suc r) (out codec L o.to) played.is_open said_next.stands)

  abbrev inbound : Inbound
  inbound = record { rpcs = played.rpcs.items; rest = carries_after.read.rest; end = carries_after.read.end; closes = not played.is_open }

  comes : ComesIn (suc r) (out codec L o.to) inbound
  comes = (
    record {
      earlier = passes.ready.earlier;
      spell_before = (
        passes.ready.read.rest,
        passes.ready.read.end,
        subst (λ (bytes : List ℕ). IsStream longest_body bytes passes.ready.earlier passes.ready.read.rest passes.ready.read.end) (sym before_same) passes.ready.read.stream,
      );
      stream = subst (λ (bytes : List ℕ). IsStream longest_body bytes (passes.ready.earlier ++ played.rpcs.items) carries_after.read.rest carries_after.read.end) (sym after_same) carries_after.read.stream;
    },
    sym said_next.closes_so,
  )

  held : (reader_of played).held ≡ held_after carries_after.read.end carries_after.read.rest
  held = ap (λ (h : Holding). h.held) carries_after.read.holds

  -- how it ends, where it had not ended before
  abbrev first_ending : Option (List ℕ) → Bool → Option Ending
  first_ending h is_open = if is_none h then Some Fault else if is_open then None else if nat_eq (length (unwrap_or h [])) 0 then Some Gone else Some Fault

  ending_first : played.is_over ≡ false → ending_of played ≡ first_ending (held_after carries_after.read.end carries_after.read.rest) played.is_open
  ending_first new =
      ap (λ (b : Bool). if b then None else first_ending (reader_of played).held played.is_open) new
      ∙ ap (λ (h : Option (List ℕ)). first_ending h played.is_open) held

  ending_is : (from : PeerNo) → played.is_over ≡ false → ending_heard from (ending_of played) ≡ ending from inbound
  ending_is from new = ap (ending_heard from) (ending_first new) ∙ ending_by from carries_after.read.end carries_after.read.rest played.is_open

  ended_here : played.is_over ≡ false → is_some (ending_of played) ≡ true → HasEnded (suc r) (out codec L o.to)
  ended_here new told = record {
    round = suc r;
    early = omega arith;
    inbound = inbound;
    comes = comes;
    ends = over_by carries_after.read.end carries_after.read.rest played.is_open (ap is_some (sym (ending_first new)) ∙ told);
  }

  ended_before : played.is_over ≡ true → HasEnded r (out codec L o.to)
  ended_before over =
      let before : HasEnded r (out codec K o.to) = passes.ready.told (sym all_says.is_over ∙ over) in
      subst (HasEnded r) (sym said_more.1) (ended_stays r (out codec K o.to) said_more.0 passes.ready.stands.ended before)

  -- what is handed over says what there is to hear
  pub delivers : (from : PeerNo) → Delivers r (out codec L o.to) from (letters_of from played)
  delivers from = record {
    inbound = inbound;
    comes = comes;
    ended = said_next.stands.ended;
    heard = by played.is_over refl;
    fit = letter_fits from played (fit_behind passes.ready.earlier played.rpcs.items (stream_fits longest_body (bytes_of (out codec L o.to)) (passes.ready.earlier ++ played.rpcs.items) carries_after.read.rest carries_after.read.end carries_after.read.stream));
  }
    where
      by : (b : Bool) → played.is_over ≡ b → (all_heard (letters_of from played) ≡ hears_of from inbound) ⊎ ((all_heard (letters_of from played) ≡ map (Hear from) played.rpcs.items) × HasEnded r (out codec L o.to))
      by false new = inl (letter_heard from played ∙ ap (λ (todos : List Todo). map (Hear from) played.rpcs.items ++ todos) (ending_is from new))
      by true over = inr (
        letter_heard from played
            ∙ ap (λ (b : Bool). map (Hear from) played.rpcs.items ++ ending_heard from (if b then None else first_ending (reader_of played).held played.is_open)) over
            ∙ append-nil (map (Hear from) played.rpcs.items),
        ended_before over,
      )

  -- and the outlet is ready for the next round
  pub ready_next : IsReady (suc r) L handed
  ready_next =
      let there : handed.to ≡ o.to = passes.handing.to ∙ all_says.to in
      record {
        is_open = passes.handing.is_open ∙ open_after ∙ ap (up L) (sym there);
        none_gathered = passes.handing.gathered ∙ carries_after.gathers ∙ passes.none_after;
        none_out = passes.handing.rpcs;
        stands = subst₂ (λ (q : PeerNo) (b : Bool). StandsAfter (suc r) (out codec L q) b) (sym there) (sym passes.handing.is_open) said_next.stands;
        earlier = passes.ready.earlier ++ played.rpcs.items;
        read = subst₂ (λ (q : PeerNo) (h : Holding). HasRead longest_body (bytes_of (out codec L q)) h (passes.ready.earlier ++ played.rpcs.items)) (sym there) (sym passes.handing.reader) carries_after.read;
        told = λ over. subst (λ (q : PeerNo). HasEnded (suc r) (out codec L q)) (sym there) (by played.is_over refl (sym passes.handing.is_over ∙ over));
      }
    where
      later : HasEnded r (out codec L o.to) → HasEnded (suc r) (out codec L o.to)
      later h = record { round = h.round; early = omega (arith, h.early); inbound = h.inbound; comes = h.comes; ends = h.ends }

      by : (b : Bool) → played.is_over ≡ b → (played.is_over || is_some (ending_of played)) ≡ true → HasEnded (suc r) (out codec L o.to)
      by true over told = later (ended_before over)
      by false new told = ended_here new (sym (ap (λ (b : Bool). b || is_some (ending_of played)) new) ∙ told)
