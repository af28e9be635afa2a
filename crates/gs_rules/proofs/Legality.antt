-- Entries that may come after others, under one way to choose and under another.
use Rattle.std.proofs.Common.{◌≡◌, ◌<◌, ◌%◌, ℕ, Bool, true, false, nat_eq, if◌then◌else◌, List, [], ◌∷◌, ◌++◌, refl, sym, ap, ap₂, subst, subst₂, ◌∙◌}
use Rattle.std.proofs.lemmas.List.{append_assoc, append-nil}
use Rattle.std.proofs.lemmas.Nat.{mod_below}
use Rattle.std.proofs.lemmas.List.Sorted.{IsPermutation-refl}
use Rattle.gs_base.specs.declared.names.PeerNo.{PeerNo}
use Rattle.gs_base.specs.declared.names.Millis.{Millis}
use Rattle.gs_rules.specs.declared.event.Event.{Event}
use Rattle.gs_rules.specs.declared.trace.Effects.{Effects}
use Rattle.gs_rules.specs.declared.trace.Entry.{Entry}
use Rattle.gs_params.specs.Picks.{IsSample, picked_one}
use Rattle.gs_rules.specs.Tables.{Entries}
use Rattle.gs_rules.specs.Peers.{Peer}
use Rattle.gs_rules.specs.Rules.{Rule, Gives, AnyOf, CutOf, OneOf, rule_of}
use Rattle.gs_rules.specs.Modes.{Mode, Follows, SaysTheSame, free, choiceless, exact}
use Rattle.gs_rules.specs.Legal.{IsAllowed, LegalOn, Legal}
use Rattle.gs_params.specs.declared.params.Degrees.{Degrees}
use Rattle.gs_mesh.specs.declared.members.Member.{Member}
use Rattle.gs_params.proofs.Picking.{picked_is_sample}
use Rattle.gs_mesh.proofs.Cutting.{exact_cut_is_cut, exact_cut_is_one}

pub says_itself : (x : Effects) → SaysTheSame x x
says_itself x = record { sends = λ q. refl; delivered = refl; promise = refl; marks = IsPermutation-refl x.marks }

-- ---- more entries

-- entries after entries
pub legal_then : (m : Mode) (p : Peer) (s u t : m.State) (K L M : Entries) → LegalOn m p s K L u → LegalOn m p u (L ++ K) M t → LegalOn m p s K (M ++ L) t
legal_then m p s u t K L [] legal more = subst (LegalOn m p s K L) (sym more) legal
legal_then m p s u t K L (e ∷ M) legal more =
    (more.0, legal_then m p s u more.0 K L M legal more.1, subst (λ (N : Entries). IsAllowed m p N more.0 e t) (sym (append_assoc M L K)) more.2)

-- legal entries fall into two parts anywhere, the one legal after the other
pub legal_parts : (m : Mode) (p : Peer) (s t : m.State) (K L M : Entries) → LegalOn m p s K (M ++ L) t → (u : m.State) × LegalOn m p s K L u × LegalOn m p u (L ++ K) M t
legal_parts m p s t K L [] legal = (t, legal, refl)
legal_parts m p s t K L (e ∷ M) legal =
    let before = legal_parts m p s legal.0 K L M legal.1 in
    (before.0, before.1, (legal.0, before.2, subst (λ (N : Entries). IsAllowed m p N legal.0 e t) (append_assoc M L K) legal.2))

-- a whole trace, and entries after it
pub legal_on : (p : Peer) (K M : Entries) → Legal p K → LegalOn free p tt K M tt → Legal p (M ++ K)
legal_on p K M legal more = legal_then free p tt tt tt [] K M legal (subst (λ (N : Entries). LegalOn free p tt N M tt) (sym (append-nil K)) more)

-- the newest entry of a whole trace
pub legal_newest : (p : Peer) (e : Entry) (L : Entries) → Legal p (e ∷ L) → IsAllowed free p L tt e tt
legal_newest p e L legal = subst (λ (N : Entries). IsAllowed free p N tt e tt) (append-nil L) legal.2

-- one entry
pub legal_one : (m : Mode) (p : Peer) (s t : m.State) (K : Entries) (e : Entry) → IsAllowed m p K s e t → LegalOn m p s K (e ∷ []) t
legal_one m p s t K e allowed = (s, refl, allowed)

-- ---- from mode to mode

-- what the one way allows the other does, in the states that this says
pub record Weakens (m n : Mode) (to : m.State → n.State) : Type 0 where
  pub picks : (k : ℕ) (candidates : List PeerNo) (s : m.State) (chosen : List PeerNo) (t : m.State) → m.Picks k candidates s chosen t → n.Picks k candidates (to s) chosen (to t)
  pub cuts : (degrees : Degrees) (members : List Member) (s : m.State) (kept : List PeerNo) (t : m.State) → m.Cuts degrees members s kept t → n.Cuts degrees members (to s) kept (to t)
  pub one : (k : ℕ) (s : m.State) (place : ℕ) (t : m.State) → m.PicksOne k s place t → n.PicksOne k (to s) place (to t)
  pub meets : (e x : Effects) → m.Meets e x → n.Meets e x

module _ (m n : Mode) (to : m.State → n.State) (weakens : Weakens m n to) where
  pub follows_weakly : (r : Rule) (s : m.State) (e : Effects) (t : m.State) → Follows m r s e t → Follows n r (to s) e (to t)
  follows_weakly (Gives x) s e t h = (weakens.meets e x h.0, ap to h.1)
  follows_weakly (AnyOf k candidates rule) s e t h = (h.0, to h.1, weakens.picks k candidates s h.0 h.1 h.2, follows_weakly (rule h.0) h.1 e t h.3)
  follows_weakly (CutOf degrees members rule) s e t h = (h.0, to h.1, weakens.cuts degrees members s h.0 h.1 h.2, follows_weakly (rule h.0) h.1 e t h.3)
  follows_weakly (OneOf k rule) s e t h = (h.0, to h.1, weakens.one k s h.0 h.1 h.2, follows_weakly (rule h.0) h.1 e t h.3)

  pub legal_weakly : (p : Peer) (s t : m.State) (K L : Entries) → LegalOn m p s K L t → LegalOn n p (to s) K L (to t)
  legal_weakly p s t K [] h = ap to h
  legal_weakly p s t K (e ∷ L) h =
      (to h.0, legal_weakly p s h.0 K L h.1, record { time = h.2.time; next = h.2.next; effects = follows_weakly (rule_of p (L ++ K) e.at e.event) h.0 e.effects t h.2.effects })

-- equal effects say the same
same_by : (e x : Effects) → e ≡ x → SaysTheSame e x
same_by e x is = subst (SaysTheSame e) is (says_itself e)

-- where nothing is chosen, no word is drawn
pub choiceless_is_exact : {S : Type 0} (word : S → ℕ) (after : S → S) (s : S) → Weakens choiceless (exact word after) (λ u. s)
choiceless_is_exact word after s = record { picks = λ k candidates u chosen v h. absurd h; cuts = λ degrees members u kept v h. absurd h; one = λ k u place v h. absurd h; meets = λ e x h. h }

-- ---- words

below : (is_one : Bool) (n w : ℕ) → 0 < n → (if is_one then 0 else w % n) < n
below true n w some = some
below false n w some = mod_below w n some

module _ {S : Type 0} (word : S → ℕ) (after : S → S) where
  picked_below : (n : ℕ) (s : S) → 0 < n → picked_one word after n s < n
  unfolding picked_one
  picked_below n s some = below (nat_eq n 1) n (word s) some

  -- what words choose is a choice
  pub exact_is_free : Weakens (exact word after) free (λ u. tt)
  exact_is_free = record {
    picks = λ k candidates s chosen t h. subst (IsSample k candidates) (sym h.chosen_are) (picked_is_sample word after k candidates s h.ascending);
    cuts = λ degrees members s kept t h. exact_cut_is_cut word after degrees members s kept t h;
    one = λ k s place t h. subst (λ (j : ℕ). j < k) (sym h.place_is) (picked_below k s h.some);
    meets = same_by;
  }

  -- ---- one entry by itself

  -- a rule and a state fix the effects and the state after them
  pub follows_alone : (r : Rule) (s : S) (e f : Effects) (t u : S) → Follows (exact word after) r s e t → Follows (exact word after) r s f u → (e ≡ f) × (t ≡ u)
  follows_alone (Gives x) s e f t u h k = (h.0 ∙ sym k.0, h.1 ∙ sym k.1)
  follows_alone (AnyOf n candidates rule) s e f t u h k =
      follows_alone (rule h.0) h.1 e f t u h.3 (subst₂ (λ (chosen : List PeerNo) (v : S). Follows (exact word after) (rule chosen) v f u) (k.2.chosen_are ∙ sym h.2.chosen_are) (k.2.words ∙ sym h.2.words) k.3)
  follows_alone (CutOf degrees members rule) s e f t u h k =
      let same = exact_cut_is_one word after degrees members s k.0 h.0 k.1 h.1 k.2 h.2 in
      follows_alone (rule h.0) h.1 e f t u h.3 (subst₂ (λ (kept : List PeerNo) (v : S). Follows (exact word after) (rule kept) v f u) same.0 same.1 k.3)
  follows_alone (OneOf n rule) s e f t u h k =
      follows_alone (rule h.0) h.1 e f t u h.3 (subst₂ (λ (place : ℕ) (v : S). Follows (exact word after) (rule place) v f u) (k.2.place_is ∙ sym h.2.place_is) (k.2.words ∙ sym h.2.words) k.3)

  -- an entry is its moment, its event and its effects
  one_entry : (e f : Entry) → e.at ≡ f.at → e.event ≡ f.event → e.effects ≡ f.effects → e ≡ f
  one_entry e f at event effects =
      ap₂ (λ (now : Millis) (ev : Event). record { at = now; event = ev; effects = e.effects }) at event
      ∙ ap (λ (x : Effects). record { at = f.at; event = f.event; effects = x }) effects

  allowed_alone : (p : Peer) (L : Entries) (s : S) (e f : Entry) (t u : S) → IsAllowed (exact word after) p L s e t → IsAllowed (exact word after) p L s f u → e.at ≡ f.at → e.event ≡ f.event → (e ≡ f) × (t ≡ u)
  allowed_alone p L s e f t u h k at event =
      let same = follows_alone (rule_of p L e.at e.event) s e.effects f.effects t u h.effects (subst₂ (λ (now : Millis) (ev : Event). Follows (exact word after) (rule_of p L now ev) s f.effects u) (sym at) (sym event) k.effects) in
      (one_entry e f at event same.0, same.1)

  -- the entries fix the state after them
  state_alone : (p : Peer) (s : S) (K L : Entries) (t u : S) → LegalOn (exact word after) p s K L t → LegalOn (exact word after) p s K L u → t ≡ u
  state_alone p s K [] t u h k = h ∙ sym k
  state_alone p s K (e ∷ L) t u h k =
      let before : h.0 ≡ k.0 = state_alone p s K L h.0 k.0 h.1 k.1 in
      (allowed_alone p (L ++ K) h.0 e e t u h.2 (subst (λ (v : S). IsAllowed (exact word after) p (L ++ K) v e u) (sym before) k.2) refl refl).1

  -- and with an event and its moment the next entry, and the state after it
  pub next_alone : (p : Peer) (s : S) (K L : Entries) (e f : Entry) (t u : S) → LegalOn (exact word after) p s K (e ∷ L) t → LegalOn (exact word after) p s K (f ∷ L) u → e.at ≡ f.at → e.event ≡ f.event → (e ≡ f) × (t ≡ u)
  next_alone p s K L e f t u h k at event =
      let before : h.0 ≡ k.0 = state_alone p s K L h.0 k.0 h.1 k.1 in
      allowed_alone p (L ++ K) h.0 e f t u h.2 (subst (λ (v : S). IsAllowed (exact word after) p (L ++ K) v f u) (sym before) k.2) at event

  -- no word is drawn for an entry that its rule gives
  pub given_quietly : (p : Peer) (s t : S) (K : Entries) (e : Entry) (x : Effects) → LegalOn (exact word after) p s K (e ∷ []) t → rule_of p K e.at e.event ≡ Gives x → t ≡ s
  given_quietly p s t K e x h given = (subst (λ (r : Rule). Follows (exact word after) r h.0 e.effects t) given h.2.effects).1 ∙ h.1
