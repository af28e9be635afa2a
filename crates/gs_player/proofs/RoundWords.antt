-- What a peer says to a neighbour in a round.
use Rattle.std.proofs.Common.{◌≡◌, ℕ, suc, Bool, true, false, not, ◌&&◌, if◌then◌else◌, List, [], ◌∷◌, ◌++◌, map, refl, sym, ap, ap₂, subst, ◌∙◌, append_assoc, append-nil, eq-eqb}
use Rattle.std.proofs.lemmas.List.{map-append}
use Rattle.gs_base.specs.declared.names.PeerNo.{PeerNo}
use Rattle.gs_base.specs.Tokens.{Token, Byte, EndOf, Close, Said, bytes_of}
use Rattle.gs_wire.specs.Codec.{codec}
use Rattle.gs_rules.specs.declared.event.Event.{Event}
use Rattle.gs_rules.specs.declared.event.Event.TheVariants.{RoundEnd, Shut}
use Rattle.gs_rules.specs.declared.trace.Entry.{Entry}
use Rattle.gs_rules.specs.Tables.{Entries, is_lost, lost, up, up_after}
use Rattle.gs_rules.specs.Saying.{Outgoing, behind_entry, out, outgoing, sign}
use Rattle.gs_rules.specs.Hearing.{after, behind, bytes_before, closes, front, said_in}
use Rattle.gs_rules.proofs.InOrder.{entry_says}
use Rattle.gs_player.specs.Ended.{close_if, ends, whole}
use Rattle.gs_player.specs.Words.{StandsAfter}
use Rattle.gs_player.proofs.Middle.{AllWithin, IsRoundOf, IsWithin}
use Rattle.gs_player.proofs.Since.{down_stays, out_no_more}
use Rattle.gs_player.proofs.Words.{after_stays, bytes_split, whole_stays}

-- ---- within a round

-- nothing more is said to whoever is lost, and no end to anybody else
sign_closes : (q : PeerNo) (event : Event) → IsWithin event → sign q event ≡ close_if (not (up_after q event true))
sign_closes q (RoundEnd r) within = absurd within
sign_closes q Shut within = refl
sign_closes q other within = by (is_lost q (lost other))
  where
    by : (is : Bool) → (if is then Close ∷ [] else []) ≡ close_if (not (if is then false else true))
    by true = refl
    by false = refl

-- Bytes are said, and the close where the neighbour is lost.
abbrev SaysBytes : PeerNo → Entries → Entries → Type 0
SaysBytes q K L = (bytes : List ℕ) × (out codec L q ≡ out codec K q ++ (map Byte bytes ++ close_if (not (up L q))))

says_within : (q : PeerNo) (K : Entries) (entries : List Entry) → up K q ≡ true → AllWithin entries → SaysBytes q K (entries ++ K)
says_within q K [] is_up within = ([], sym (ap (λ (b : Bool). out codec K q ++ close_if (not b)) is_up ∙ append-nil (out codec K q)))
says_within q K (e ∷ entries) is_up within = by (up (entries ++ K) q) refl (says_within q K entries is_up within.1)
  where
    by : (b : Bool) → up (entries ++ K) q ≡ b → SaysBytes q K (entries ++ K) → SaysBytes q K (e ∷ (entries ++ K))
    by false down (bytes, is) = (
      bytes,
      ap (λ (b : Bool). (if b then behind_entry codec q (outgoing codec (entries ++ K) q) e else outgoing codec (entries ++ K) q).said) down
          ∙ is
          ∙ ap (λ (b : Bool). out codec K q ++ (map Byte bytes ++ close_if (not b))) (down ∙ sym (down_stays (entries ++ K) q (e ∷ []) down)),
    )
    by true still (bytes, is) =
        let o : Outgoing = outgoing codec (entries ++ K) q in
        let (more, says) = entry_says codec q o e in
        let so_far : o.said ≡ out codec K q ++ map Byte bytes =
        is ∙ ap (λ (b : Bool). out codec K q ++ (map Byte bytes ++ close_if (not b))) still ∙ ap (λ (w : Said). out codec K q ++ w) (append-nil (map Byte bytes)) in
        let ends_so : sign q e.event ≡ close_if (not (up (e ∷ (entries ++ K)) q)) =
        sign_closes q e.event within.0 ∙ ap (λ (b : Bool). close_if (not (up_after q e.event b))) (sym still) in (
          bytes ++ more,
          ap (λ (b : Bool). (if b then behind_entry codec q o e else o).said) still
              ∙ says
              ∙ ap₂ (λ (v w : Said). v ++ (map Byte more ++ w)) so_far ends_so
              ∙ append_assoc (out codec K q) (map Byte bytes) (map Byte more ++ close_if (not (up (e ∷ (entries ++ K)) q)))
              ∙ ap (λ (w : Said). out codec K q ++ w) (sym (append_assoc (map Byte bytes) (map Byte more) (close_if (not (up (e ∷ (entries ++ K)) q)))) ∙ ap (λ (w : Said). w ++ close_if (not (up (e ∷ (entries ++ K)) q))) (sym (map-append Byte bytes more))),
        )

-- ---- a whole round

-- the last that is said in a round: its end, or the close
abbrev pub last_token : ℕ → Bool → Token
last_token r is_up = if is_up then EndOf r else Close

-- What is said in it to a neighbour that was up: bytes, and then its end or the close.
abbrev pub SaysRound : ℕ → PeerNo → Entries → Entries → Type 0
SaysRound r q K L = (bytes : List ℕ) × (out codec L q ≡ out codec K q ++ (map Byte bytes ++ last_token r (up L q) ∷ []))

pub says_round : (r : ℕ) (q : PeerNo) (K L : Entries) → IsRoundOf r K L → up K q ≡ true → SaysRound r q K L
says_round r q K L round is_up =
    let (entries, is, within) = round.within in
    let middle : SaysBytes q K round.before = subst (SaysBytes q K) (sym is) (says_within q K entries is_up within) in
    subst (SaysRound r q K) (sym round.are) (by (up round.before q) refl middle)
  where
    by : (b : Bool) → up round.before q ≡ b → SaysBytes q K round.before → SaysRound r q K (round.end ∷ round.before)
    by false down (bytes, is) = (
      bytes,
      ap (λ (o : Outgoing). o.said) (out_no_more round.before q (round.end ∷ []) down)
          ∙ is
          ∙ ap₂ (λ (a b : Bool). out codec K q ++ (map Byte bytes ++ close_if (not a))) down down
          ∙ ap (λ (b : Bool). out codec K q ++ (map Byte bytes ++ last_token r b ∷ [])) (sym (down_stays round.before q (round.end ∷ []) down)),
    )
    by true still (bytes, is) =
        let (more, says) = end_said_bytes round.before round.end still in
        let ends_up : up (round.end ∷ round.before) q ≡ true = ap (λ (event : Event). up_after q event (up round.before q)) round.is_end ∙ still in
        let so_far : out codec round.before q ≡ out codec K q ++ map Byte bytes =
        is ∙ ap (λ (b : Bool). out codec K q ++ (map Byte bytes ++ close_if (not b))) still ∙ ap (λ (w : Said). out codec K q ++ w) (append-nil (map Byte bytes)) in (
          bytes ++ more,
          says
              ∙ ap (λ (v : Said). v ++ (map Byte more ++ EndOf r ∷ [])) so_far
              ∙ append_assoc (out codec K q) (map Byte bytes) (map Byte more ++ EndOf r ∷ [])
              ∙ ap (λ (w : Said). out codec K q ++ w) (sym (append_assoc (map Byte bytes) (map Byte more) (EndOf r ∷ [])) ∙ ap (λ (w : Said). w ++ EndOf r ∷ []) (sym (map-append Byte bytes more)))
              ∙ ap (λ (b : Bool). out codec K q ++ (map Byte (bytes ++ more) ++ last_token r b ∷ [])) (sym ends_up),
        )
      where
        end_said_bytes : (M : Entries) (e : Entry) → up M q ≡ true → (more : List ℕ) × (out codec (round.end ∷ round.before) q ≡ out codec round.before q ++ (map Byte more ++ EndOf r ∷ []))
        end_said_bytes M e h =
            let o : Outgoing = outgoing codec round.before q in
            let (more, says) = entry_says codec q o round.end in (
              more,
              ap (λ (b : Bool). (if b then behind_entry codec q o round.end else o).said) still
                  ∙ says
                  ∙ ap (λ (event : Event). o.said ++ (map Byte more ++ sign q event)) round.is_end,
            )

-- ---- how a word stands after a round

pub nothing_said : StandsAfter 0 [] true
nothing_said = record { ended = refl; rest = refl }

no_bytes_behind : (b : Bool) → bytes_of (close_if b) ≡ []
no_bytes_behind true = refl
no_bytes_behind false = refl

-- all its bytes are of these rounds
pub bytes_are : (r : ℕ) (w : Said) (is_open : Bool) → StandsAfter r w is_open → bytes_of w ≡ bytes_before r w
bytes_are r w is_open stands =
    bytes_split r w ∙ ap (λ (bytes : List ℕ). bytes_before r w ++ bytes) (ap bytes_of stands.rest ∙ no_bytes_behind (not is_open)) ∙ append-nil (bytes_before r w)

-- Another round has come, and it ends with a close where that was said.
pub record StandsNext (r : ℕ) (w : Said) (is_open : Bool) : Type 0 where
  pub stands : StandsAfter (suc r) w is_open
  pub closes_so : closes (said_in r w) ≡ not is_open

ends_last : (r : ℕ) (bytes : List ℕ) (is_open : Bool) → ends r (map Byte bytes ++ last_token r is_open ∷ []) ≡ true
ends_last r [] true = ap (λ (b : Bool). if b then true else false) (eq-eqb r r refl)
ends_last r [] false = refl
ends_last r (b ∷ bytes) is_open = ends_last r bytes is_open

after_last : (r : ℕ) (bytes : List ℕ) (is_open : Bool) → behind r (map Byte bytes ++ last_token r is_open ∷ []) ≡ close_if (not is_open)
after_last r [] true = ap (λ (b : Bool). if b then [] else behind r []) (eq-eqb r r refl)
after_last r [] false = refl
after_last r (b ∷ bytes) is_open = after_last r bytes is_open

closes_last : (r : ℕ) (bytes : List ℕ) (is_open : Bool) → closes (front r (map Byte bytes ++ last_token r is_open ∷ [])) ≡ not is_open
closes_last r [] true = ap (λ (b : Bool). closes (if b then [] else front r [])) (eq-eqb r r refl)
closes_last r [] false = refl
closes_last r (b ∷ bytes) is_open = closes_last r bytes is_open

-- where the word was open, a round is said
pub stands_open : (r : ℕ) (w w' : Said) (is_open : Bool) (bytes : List ℕ) → StandsAfter r w true → w' ≡ w ++ (map Byte bytes ++ last_token r is_open ∷ []) → StandsNext r w' is_open
stands_open r w w' is_open bytes stands is =
    let tail : Said = map Byte bytes ++ last_token r is_open ∷ [] in
    let there : after r w' ≡ tail = ap (after r) is ∙ after_stays r w tail stands.ended ∙ ap (λ (v : Said). v ++ tail) stands.rest in
    let still : whole r w' ≡ true = ap (whole r) is ∙ whole_stays r w tail stands.ended in
    record {
      stands = record {
        ended = ap₂ (λ (a b : Bool). a && b) still (ap (ends r) there ∙ ends_last r bytes is_open);
        rest = ap (behind r) there ∙ after_last r bytes is_open;
      };
      closes_so = ap (λ (v : Said). closes (front r v)) there ∙ closes_last r bytes is_open;
    }

-- where it was closed, nothing is
pub stands_closed : (r : ℕ) (w w' : Said) → StandsAfter r w false → w' ≡ w → StandsNext r w' false
stands_closed r w w' stands is =
    let there : after r w' ≡ Close ∷ [] = ap (after r) is ∙ stands.rest in
    record {
      stands = record {
        ended = ap₂ (λ (a b : Bool). a && b) (ap (whole r) is ∙ stands.ended) (ap (ends r) there);
        rest = ap (behind r) there;
      };
      closes_so = ap (λ (v : Said). closes (front r v)) there;
    }
