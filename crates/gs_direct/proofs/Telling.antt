-- What an outlet says, entry by entry and outlet by outlet.
use Rattle.std.proofs.Common.{◌≡◌, ℕ, Bool, true, false, if◌then◌else◌, List, [], ◌∷◌, ◌++◌, length, map, reverse, Option, None, Some, Result, Ok, Err, refl, sym, ap, ap₂, subst, subst₂, ◌∙◌, append_assoc, append-nil}
use Rattle.std.specs.Prelude.{◌≢◌, OnOk, Vec}
use Rattle.std.specs.declared.alloc.Global.{Global}
use Rattle.std.proofs.lemmas.Bool.{eqb-true, eqb-false}
use Rattle.std.proofs.lemmas.Grind.{flat_map-append}
use Rattle.std.proofs.lemmas.List.{reverse-append}
use Rattle.gs_base.specs.declared.names.PeerNo.{PeerNo}
use Rattle.gs_base.specs.declared.rpc.Rpc.{Rpc}
use Rattle.gs_base.specs.Names.{same_peer}
use Rattle.gs_base.specs.Tokens.{Byte, Said}
use Rattle.gs_wire.specs.Codec.{codec}
use Rattle.gs_wire.specs.Messages.{longest_body}
use Rattle.gs_wire.specs.Stream.{Holding}
use Rattle.gs_rules.specs.declared.event.Event.{Event}
use Rattle.gs_rules.specs.declared.event.Event.TheVariants.{RoundEnd, Own}
use Rattle.gs_plan.specs.declared.plan.Act.TheVariants.{Raw}
use Rattle.gs_rules.specs.declared.trace.Entry.{Entry}
use Rattle.gs_rules.specs.Modes.{sent_to}
use Rattle.gs_rules.specs.Tables.{Entries, cuts_off, up, up_after}
use Rattle.gs_rules.specs.Saying.{Outgoing, behind_entry, behind_event, cut_out, is_cut, outgoing, raw_to, saying, sending, sending_all, sign}
use Rattle.gs_rules.specs.Legal.{Legal}
use Rattle.gs_rules.specs.Peers.{Peer}
use Rattle.gs_rules.proofs.Fitting.{fits_drop, fits_reverse, legal_written}
use Rattle.gs_rules.proofs.Gathered.{uncut_raw, uncut_sign}
use Rattle.gs_seats.specs.ListsByPeer.{list_at}
use Rattle.gs_router.specs.Log.{ends_round, since_end, this_round}
use Rattle.gs_router.proofs.Logging.{after_end, not_end}
use Rattle.gs_player.proofs.Since.{newest}
use Rattle.gs_direct.specs.declared.letter.Letter.{Letter}
use Rattle.gs_direct.specs.declared.outlet.Outlet.{Outlet}
use Rattle.gs_direct.specs.Outlets.{AllWritten, Carries, Follows, IsSilent, Says, SaysAll, Tells, given, letters_of}
use Rattle.gs_direct.proofs.Carrying.{follows_as, follows_then}

-- what follows where a call succeeds
pub on_ok : {T E : Type 0} (r : Result T E) (P Q : Type 0) → (P → Q) → OnOk r P → OnOk r Q
on_ok (Ok x) P Q so h = so h
on_ok (Err e) P Q so h = tt

abbrev pub fresh : Holding
fresh = record { limit = longest_body; held = Some [] }

-- ---- an event

pub raw_put : (to : PeerNo) (slice bytes : List ℕ) (old mid new : Outlet) → same_peer to old.to ≡ true → slice ≡ bytes
    → Follows (cut_out codec) old mid
    → Follows (λ goes. saying goes (map Byte slice)) mid new
    → Follows (λ goes. if same_peer to old.to then saying (cut_out codec goes) (map Byte bytes) else goes) old new
raw_put to slice bytes old mid new mine is cut says =
    follows_as (λ (goes : Outgoing). saying (cut_out codec goes) (map Byte slice)) (λ (goes : Outgoing). if same_peer to old.to then saying (cut_out codec goes) (map Byte bytes) else goes) old new
    (λ goes. ap (λ (xs : List ℕ). saying (cut_out codec goes) (map Byte xs)) is ∙ sym (ap (λ (b : Bool). if b then saying (cut_out codec goes) (map Byte bytes) else goes) mine))
    (follows_then (cut_out codec) (λ (goes : Outgoing). saying goes (map Byte slice)) old mid new cut says)

-- what cuts nothing cuts nobody off
uncut_off : (q : PeerNo) (event : Event) → is_cut q event ≡ false → cuts_off q event ≡ false
uncut_off q (RoundEnd r) none = refl
uncut_off q (Own (Raw p bytes)) none = refl
uncut_off q other none = none

-- and says nothing
uncut_says : (q : PeerNo) (event : Event) (goes : Outgoing) → is_cut q event ≡ false → behind_event codec q goes event ≡ goes
uncut_says q event goes none =
    ap (λ (b : Bool). saying (if b then cut_out codec goes else goes) (map Byte (raw_to q event) ++ sign q event)) none
    ∙ ap₂ (λ (bytes : List ℕ) (w : Said). saying goes (map Byte bytes ++ w)) (uncut_raw q event none) (uncut_sign q event none)
    ∙ ap (λ (w : Said). record { said = w; gathered = goes.gathered }) (append-nil goes.said)

pub uncut_told : (event : Event) (old : Outlet) → old.is_open ≡ true → is_cut old.to event ≡ false → Tells event old old
uncut_told event old opens none = record {
  to = refl;
  is_over = refl;
  is_open = opens ∙ sym (ap (λ (b : Bool). if b then false else true) (uncut_off old.to event none));
  carries = λ goes earlier c. subst (λ (x : Outgoing). Carries old x earlier) (sym (uncut_says old.to event goes none)) c;
}

-- ---- what is sent

sending_more : (goes : Outgoing) (vs : List Rpc) (v : Rpc) → sending_all codec goes (vs ++ v ∷ []) ≡ sending codec (sending_all codec goes vs) v
sending_more goes [] v = refl
sending_more goes (u ∷ vs) v = sending_more (sending codec goes u) vs v

sent_mine : (q : PeerNo) (xs : List (PeerNo × Rpc)) (x : PeerNo × Rpc) → same_peer x.0 q ≡ true → sent_to q (xs ++ x ∷ []) ≡ sent_to q xs ++ x.1 ∷ []
sent_mine q [] x mine = ap (λ (b : Bool). if b then x.1 ∷ [] else []) mine
sent_mine q (y ∷ xs) x mine = ap (λ (vs : List Rpc). if same_peer y.0 q then y.1 ∷ vs else vs) (sent_mine q xs x mine) ∙ in_front (same_peer y.0 q)
  where
    in_front : (b : Bool) → (if b then y.1 ∷ (sent_to q xs ++ x.1 ∷ []) else (sent_to q xs ++ x.1 ∷ [])) ≡ (if b then y.1 ∷ sent_to q xs else sent_to q xs) ++ x.1 ∷ []
    in_front true = refl
    in_front false = refl

sent_other : (q : PeerNo) (xs : List (PeerNo × Rpc)) (x : PeerNo × Rpc) → same_peer x.0 q ≡ false → sent_to q (xs ++ x ∷ []) ≡ sent_to q xs
sent_other q [] x other = ap (λ (b : Bool). if b then x.1 ∷ [] else []) other
sent_other q (y ∷ xs) x other = ap (λ (vs : List Rpc). if same_peer y.0 q then y.1 ∷ vs else vs) (sent_other q xs x other)

-- one send more is for the neighbour
pub sends_mine : (xs : List (PeerNo × Rpc)) (x : PeerNo × Rpc) (old mid new : Outlet) → same_peer x.0 old.to ≡ true
    → Follows (λ goes. sending_all codec goes (sent_to old.to xs)) old mid
    → Follows (λ goes. sending codec goes x.1) mid new
    → Follows (λ goes. sending_all codec goes (sent_to old.to (xs ++ x ∷ []))) old new
sends_mine xs x old mid new mine before one =
    follows_as (λ (goes : Outgoing). sending codec (sending_all codec goes (sent_to old.to xs)) x.1) (λ (goes : Outgoing). sending_all codec goes (sent_to old.to (xs ++ x ∷ []))) old new
    (λ goes. sym (ap (sending_all codec goes) (sent_mine old.to xs x mine) ∙ sending_more goes (sent_to old.to xs) x.1))
    (follows_then (λ (goes : Outgoing). sending_all codec goes (sent_to old.to xs)) (λ (goes : Outgoing). sending codec goes x.1) old mid new before one)

-- it is for another
pub sends_other : (xs : List (PeerNo × Rpc)) (x : PeerNo × Rpc) (old new : Outlet) → same_peer x.0 old.to ≡ false
    → Follows (λ goes. sending_all codec goes (sent_to old.to xs)) old new
    → Follows (λ goes. sending_all codec goes (sent_to old.to (xs ++ x ∷ []))) old new
sends_other xs x old new other before =
    follows_as (λ (goes : Outgoing). sending_all codec goes (sent_to old.to xs)) (λ (goes : Outgoing). sending_all codec goes (sent_to old.to (xs ++ x ∷ []))) old new
    (λ goes. sym (ap (sending_all codec goes) (sent_other old.to xs x other))) before

-- ---- entries

-- an entry that says nothing to anybody
pub silent_says : (e : Entry) → IsSilent e → (o : Outlet) → Says e o o
silent_says e silent o = record {
  to = refl;
  is_over = refl;
  is_open = sym (ap (λ (b : Bool). if b then false else o.is_open) (uncut_off o.to e.event (silent.cuts o.to)));
  carries = λ goes earlier c. subst (λ (x : Outgoing). Carries o x earlier) (sym (as_it_was o.is_open goes)) c;
}
  where
    whole : (goes : Outgoing) → behind_entry codec o.to goes e ≡ goes
    whole goes =
        ap (λ (sends : List (PeerNo × Rpc)). behind_event codec o.to (sending_all codec goes (sent_to o.to sends)) e.event) silent.sends
        ∙ uncut_says o.to e.event goes (silent.cuts o.to)

    as_it_was : (b : Bool) (goes : Outgoing) → (if b then behind_entry codec o.to goes e else goes) ≡ goes
    as_it_was true goes = whole goes
    as_it_was false goes = refl

pub says_none : (o : Outlet) → SaysAll [] o o
says_none o = record { to = refl; is_over = refl; is_open = λ K is. is; carries = λ K earlier is c. c }

-- one entry more
pub says_more : (es : List Entry) (e : Entry) (old mid new : Outlet) → SaysAll es old mid → Says e mid new → SaysAll (es ++ e ∷ []) old new
says_more es e old mid new h k = record {
  to = k.to ∙ h.to;
  is_over = k.is_over ∙ h.is_over;
  is_open = λ K is. k.is_open ∙ ap₂ (λ (q : PeerNo) (b : Bool). up_after q e.event b) h.to (h.is_open K is) ∙ ap (λ (M : Entries). up M old.to) (sym (newest K));
  carries = λ K earlier is c.
      subst (λ (M : Entries). Carries new (outgoing codec M old.to) earlier) (sym (newest K))
      (subst₂ (λ (q : PeerNo) (b : Bool). Carries new (if b then behind_entry codec q (outgoing codec (reverse es ++ K) old.to) e else outgoing codec (reverse es ++ K) old.to) earlier) h.to (h.is_open K is)
      (k.carries (outgoing codec (reverse es ++ K) old.to) earlier (h.carries K earlier is c)));
}
  where
    newest : (K : Entries) → reverse (es ++ e ∷ []) ++ K ≡ e ∷ (reverse es ++ K)
    newest K = ap (λ (xs : List Entry). xs ++ K) (reverse-append es (e ∷ []))

-- a trace is the round in which it is, after what came before
abbrev HasSince : Entries → Type 0
HasSince L = (rest : Entries) × (L ≡ since_end L ++ rest)

since_part_of : (e : Entry) (L : Entries) → HasSince L → (ends : Bool) → ends_round e.event ≡ ends → HasSince (e ∷ L)
since_part_of e L before true is = (e ∷ L, sym (ap (λ (M : Entries). M ++ e ∷ L) (after_end (e ∷ since_end L) e.event is)))
since_part_of e L (rest, whole) false is =
    (rest, ap (λ (M : Entries). e ∷ M) whole ∙ sym (ap (λ (M : Entries). M ++ rest) (not_end (λ r. []) (e ∷ since_end L) e.event is)))

since_part : (L : Entries) → HasSince L
since_part [] = ([], refl)
since_part (e ∷ L) = since_part_of e L (since_part L) (ends_round e.event) refl

round_part : (L : Entries) → (rest : Entries) × (L ≡ this_round L ++ rest)
round_part [] = ([], refl)
round_part (e ∷ L) = let (rest, whole) = since_part L in (rest, ap (λ (M : Entries). e ∷ M) whole)

-- what a legal trace says in a round is written
pub written_round : (p : Peer) (L : Entries) → Legal p L → AllWritten (reverse (this_round L))
written_round p L legal =
    let (rest, whole) = round_part L in
    subst AllWritten (newest rest L (this_round L) whole) (fits_drop (length rest) (reverse L) (fits_reverse L (legal_written p L legal)))

-- ---- letters

given_more : (from : PeerNo) (xs : List Outlet) (x : Outlet) (p : PeerNo) → given from (xs ++ x ∷ []) p ≡ given from xs p ++ (if same_peer x.to p then letters_of from x else [])
given_more from xs x p =
    flat_map-append (λ (o : Outlet). if same_peer o.to p then letters_of from o else []) xs (x ∷ [])
    ∙ ap (λ (letters : List Letter). given from xs p ++ letters) (append-nil (if same_peer x.to p then letters_of from x else []))

module _ (from : PeerNo) (xs : List Outlet) (x : Outlet) (before mail : List (Vec Letter Global)) (so_far : (p : PeerNo) → list_at mail p.0 ≡ list_at before p.0 ++ given from xs p) where
  after_all : (p : PeerNo) (letters : List Letter) → (if same_peer x.to p then letters_of from x else []) ≡ letters → list_at mail p.0 ++ letters ≡ list_at before p.0 ++ given from (xs ++ x ∷ []) p
  after_all p letters is =
      ap (λ (ls : List Letter). ls ++ letters) (so_far p)
      ∙ append_assoc (list_at before p.0) (given from xs p) letters
      ∙ ap (λ (ls : List Letter). list_at before p.0 ++ ls) (sym (given_more from xs x p ∙ ap (λ (ls : List Letter). given from xs p ++ ls) is))

  none_behind : (p : PeerNo) → (if same_peer x.to p then letters_of from x else []) ≡ [] → list_at mail p.0 ≡ list_at before p.0 ++ given from (xs ++ x ∷ []) p
  none_behind p is = sym (append-nil (list_at mail p.0)) ∙ after_all p [] is

  -- a letter is put after the others of its neighbour
  pub letter_given : (letter : Letter) (new : List (Vec Letter Global)) → letters_of from x ≡ letter ∷ []
      → list_at new x.to.0 ≡ list_at mail x.to.0 ++ letter ∷ []
      → ((n : ℕ) → n ≢ x.to.0 → list_at new n ≡ list_at mail n)
      → (p : PeerNo) → list_at new p.0 ≡ list_at before p.0 ++ given from (xs ++ x ∷ []) p
  letter_given letter new is put others p = by (same_peer x.to p) refl
    where
      by : (mine : Bool) → same_peer x.to p ≡ mine → list_at new p.0 ≡ list_at before p.0 ++ given from (xs ++ x ∷ []) p
      by true mine =
          subst (λ (n : ℕ). list_at new n ≡ list_at mail n ++ letter ∷ []) (eqb-true x.to.0 p.0 mine) put
          ∙ after_all p (letter ∷ []) (ap (λ (b : Bool). if b then letters_of from x else []) mine ∙ is)
      by false other =
          others p.0 (λ same. eqb-false x.to.0 p.0 other (sym same))
          ∙ none_behind p (ap (λ (b : Bool). if b then letters_of from x else []) other)

  -- there is none
  pub nothing_given : letters_of from x ≡ [] → (p : PeerNo) → list_at mail p.0 ≡ list_at before p.0 ++ given from (xs ++ x ∷ []) p
  nothing_given none p = none_behind p (by (same_peer x.to p))
    where
      by : (mine : Bool) → (if mine then letters_of from x else []) ≡ []
      by true = none
      by false = refl

pub no_letter : (found : Option Letter) → ((letter : Letter) → found ≡ Some letter → ⊥) → found ≡ None
no_letter None none = refl
no_letter (Some letter) none = absurd (none letter refl)
