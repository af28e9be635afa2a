-- What arrives in a round is what there is to hear in it.
use Rattle.std.proofs.Common.{◌≡◌, ◌≤◌, append_assoc, ◌<◌, ◌+◌, ℕ, zero, suc, Bool, true, false, cond, List, [], ◌∷◌, ◌++◌, map, filter, inl, inr, refl, sym, ap, subst, ◌∙◌, append-nil, arith, zero-add}
use Rattle.std.specs.List.{range_with_len, AllZip}
use Rattle.std.proofs.lemmas.Grind.{flat_map-append}
use Rattle.std.proofs.lemmas.List.{map-append}
use Rattle.std.proofs.lemmas.List.Elements.{filter-append}
use Rattle.gs_base.specs.declared.names.PeerNo.{PeerNo}
use Rattle.gs_base.specs.Tokens.{Said}
use Rattle.gs_plan.specs.declared.plan.Dial.{Dial}
use Rattle.gs_plan.specs.Plans.{are_joined}
use Rattle.gs_rules.specs.Tables.{Entries, up}
use Rattle.gs_rules.specs.Hearing.{ComesIn, Inbound, silence}
use Rattle.gs_rules.specs.Rounds.{Todo, Hear, ending, hears, hears_of}
use Rattle.gs_seats.specs.Rounds.{peer_no}
use Rattle.gs_seats.proofs.EachPeer.{range_more, zip_more}
use Rattle.gs_player.proofs.Words.{comes_stays}
use Rattle.gs_direct.specs.declared.letter.Letter.{Letter}
use Rattle.gs_direct.specs.declared.peer.Peer.{Peer}
use Rattle.gs_direct.specs.Letters.{LettersFit, all_heard, heard_of}
use Rattle.gs_direct.specs.Runs.{ArriveFrom, Delivers, DeliversIf, HasEnded, said_so_far}
use Rattle.gs_direct.proofs.Rounds.{Alike, Empty, alike_append, alike_same, more_ending}

-- the numbers of peers that are joined to p, of the first n
abbrev pub joined_of : List Dial → PeerNo → ℕ → List PeerNo
joined_of dials p n = filter (are_joined dials p) (map peer_no (range_with_len 0 n))

-- one number more
pub joined_more : (dials : List Dial) (p : PeerNo) (n : ℕ) → joined_of dials p (suc n) ≡ joined_of dials p n ++ cond (are_joined dials p (peer_no n)) (peer_no n ∷ []) []
joined_more dials p n =
    ap (λ (ns : List ℕ). filter (are_joined dials p) (map peer_no ns)) (range_more 0 n)
    ∙ ap (filter (are_joined dials p)) (map-append peer_no (range_with_len 0 n) ((0 + n) ∷ []))
    ∙ filter-append (are_joined dials p) (map peer_no (range_with_len 0 n)) (peer_no (0 + n) ∷ [])
    ∙ ap (λ (k : ℕ). joined_of dials p n ++ cond (are_joined dials p (peer_no k)) (peer_no k ∷ []) []) (zero-add n)

-- one neighbour more is heard
pub hears_more : (R : PeerNo → Inbound → Type 0) (qs : List PeerNo) (xs : List Inbound) (q : PeerNo) (x : Inbound) → AllZip R qs xs → hears (qs ++ q ∷ []) (xs ++ x ∷ []) ≡ hears qs xs ++ hears_of q x
hears_more R [] [] q x h = append-nil (hears_of q x)
hears_more R [] (y ∷ xs) q x h = absurd h
hears_more R (s ∷ qs) [] q x h = absurd h
hears_more R (s ∷ qs) (y ∷ xs) q x h =
    ap (λ (todos : List Todo). hears_of s y ++ todos) (hears_more R qs xs q x h.1) ∙ sym (append_assoc (hears_of s y) (hears qs xs) (hears_of q x))

-- What these neighbours say, where the letters say as much.
pub record AreHeard (R : PeerNo → Inbound → Type 0) (K : Entries) (qs : List PeerNo) (letters : List Letter) : Type 0 where
  pub inbound : List Inbound
  pub was_said : AllZip R qs inbound
  pub alike : Alike K (all_heard letters) (hears qs inbound)
  pub fit : LettersFit letters

-- what there is to hear of one neighbour, and as much of it as the letters say
pub record IsHeard (R : PeerNo → Inbound → Type 0) (K : Entries) (q : PeerNo) (letters : List Letter) : Type 0 where
  pub inbound : Inbound
  pub was_said : R q inbound
  pub alike : Alike K (all_heard letters) (hears_of q inbound)
  pub fit : LettersFit letters

fit_both : (xs ys : List Letter) → LettersFit xs → LettersFit ys → LettersFit (xs ++ ys)
fit_both [] ys h k = k
fit_both (x ∷ xs) ys h k = (h.0, fit_both xs ys h.1 k)

-- each by each
pub all_arrive : {T : Type 0} → (dials : List Dial) (r : ℕ) (peers : List (Peer T)) (p : PeerNo) (R : PeerNo → Inbound → Type 0) (K : Entries) (most n : ℕ) (letters : List Letter)
    → n ≤ most
    → ((q : PeerNo) (last : List Letter) → q.0 < most → are_joined dials p q ≡ true → Delivers r (said_so_far peers p q) q last → IsHeard R K q last)
    → ArriveFrom dials r peers p n letters
    → AreHeard R K (joined_of dials p n) letters
all_arrive dials r peers p R K most zero letters few one none = record {
  inbound = [];
  was_said = tt;
  alike = subst (λ (xs : List Letter). Alike K (all_heard xs) []) (sym none) Empty;
  fit = subst LettersFit (sym none) tt;
}
all_arrive dials r peers p R K most (suc n) letters few one (before, last, earlier, is, mine) =
    let so_far : AreHeard R K (joined_of dials p n) before = all_arrive dials r peers p R K most n before (omega (arith, few)) one earlier in
    subst (AreHeard R K (joined_of dials p (suc n))) (sym is)
    (subst (λ (qs : List PeerNo). AreHeard R K qs (before ++ last)) (sym (joined_more dials p n))
    (by so_far (are_joined dials p (peer_no n)) refl mine))
  where
    by : AreHeard R K (joined_of dials p n) before → (b : Bool) → are_joined dials p (peer_no n) ≡ b → DeliversIf b r (said_so_far peers p (peer_no n)) (peer_no n) last
        → AreHeard R K (joined_of dials p n ++ cond b (peer_no n ∷ []) []) (before ++ last)
    by so_far true joined delivers =
        let heard = one (peer_no n) last (omega (arith, few)) joined delivers in
        record {
          inbound = so_far.inbound ++ heard.inbound ∷ [];
          was_said = zip_more R (joined_of dials p n) so_far.inbound (peer_no n) heard.inbound so_far.was_said heard.was_said;
          alike = subst (Alike K (all_heard (before ++ last))) (sym (hears_more R (joined_of dials p n) so_far.inbound (peer_no n) heard.inbound so_far.was_said))
              (subst (λ (todos : List Todo). Alike K todos (hears (joined_of dials p n) so_far.inbound ++ hears_of (peer_no n) heard.inbound)) (sym (flat_map-append heard_of before last))
              (alike_append K (all_heard before) (hears (joined_of dials p n) so_far.inbound) (all_heard last) (hears_of (peer_no n) heard.inbound) so_far.alike heard.alike));
          fit = fit_both before last so_far.fit heard.fit;
        }
    by so_far false apart none =
        let same : before ≡ before ++ last = sym (ap (λ (xs : List Letter). before ++ xs) none ∙ append-nil before) in
        record {
          inbound = so_far.inbound;
          was_said = subst (λ (qs : List PeerNo). AllZip R qs so_far.inbound) (sym (append-nil (joined_of dials p n))) so_far.was_said;
          alike = subst (λ (qs : List PeerNo). Alike K (all_heard (before ++ last)) (hears qs so_far.inbound)) (sym (append-nil (joined_of dials p n)))
              (subst (λ (xs : List Letter). Alike K (all_heard xs) (hears (joined_of dials p n) so_far.inbound)) same so_far.alike);
          fit = subst LettersFit same so_far.fit;
        }

-- ---- in a round

-- what a neighbour said in the round before, where more is said since
pub one_arrives : (r : ℕ) (said : PeerNo → Said) (K : Entries) (q : PeerNo) (w more : Said) (letters : List Letter)
    → said q ≡ w ++ more
    → (HasEnded r w → up K q ≡ false)
    → Delivers r w q letters
    → IsHeard (λ s x. ComesIn (suc r) (said s) x) K q letters
one_arrives r said K q w more letters is down d = record {
  inbound = d.inbound;
  was_said = subst (λ (v : Said). ComesIn (suc r) v d.inbound) (sym is) (comes_stays (suc r) w more d.inbound d.ended d.comes);
  alike = elim d.heard [
    | inl all ↦ subst (λ (todos : List Todo). Alike K todos (hears_of q d.inbound)) (sym all) (alike_same K (hears_of q d.inbound))
    | inr (rpcs, ended) ↦
        subst (λ (todos : List Todo). Alike K todos (hears_of q d.inbound)) (sym (rpcs ∙ sym (append-nil (map (Hear q) d.inbound.rpcs))))
        (alike_append K (map (Hear q) d.inbound.rpcs) (map (Hear q) d.inbound.rpcs) [] (ending q d.inbound) (alike_same K (map (Hear q) d.inbound.rpcs)) (more_ending K q d.inbound (down ended)))
  ];
  fit = d.fit;
}

-- in the first round there is nothing to hear
silent_all : (qs : List PeerNo) → hears qs (map (λ (q : PeerNo). silence) qs) ≡ []
silent_all [] = refl
silent_all (q ∷ qs) = silent_all qs

all_silent : (said : PeerNo → Said) (qs : List PeerNo) → AllZip (λ q x. ComesIn 0 (said q) x) qs (map (λ (q : PeerNo). silence) qs)
all_silent said [] = tt
all_silent said (q ∷ qs) = (refl, all_silent said qs)

pub nothing_arrives : (said : PeerNo → Said) (K : Entries) (qs : List PeerNo) (letters : List Letter) → letters ≡ [] → AreHeard (λ q x. ComesIn 0 (said q) x) K qs letters
nothing_arrives said K qs letters none = record {
  inbound = map (λ (q : PeerNo). silence) qs;
  was_said = all_silent said qs;
  alike = subst (λ (xs : List Letter). Alike K (all_heard xs) (hears qs (map (λ (q : PeerNo). silence) qs))) (sym none) (subst (Alike K []) (sym (silent_all qs)) Empty);
  fit = subst LettersFit (sym none) tt;
}
