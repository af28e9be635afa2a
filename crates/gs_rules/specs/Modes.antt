-- How what a rule leaves open is chosen: freely, or by random words.
use Rattle.std.specs.Prelude.{◌≡◌, ℕ, ◌<◌, List, [], ◌∷◌, if◌then◌else◌, IsPermutation}
use Rattle.gs_base.specs.declared.names.PeerNo.{PeerNo}
use Rattle.gs_base.specs.declared.rpc.Rpc.{Rpc}
use Rattle.gs_base.specs.Names.{same_peer}
use Rattle.gs_params.specs.declared.params.Degrees.{Degrees}
use Rattle.gs_mesh.specs.declared.members.Member.{Member}
use Rattle.gs_mesh.specs.Cuts.{IsCut, IsExactCut}
use Rattle.gs_params.specs.Picks.{IsAscending, IsSample, picked, picked_words, picked_one, picked_one_words}
use Rattle.gs_rules.specs.declared.trace.Effects.{Effects}
use Rattle.gs_rules.specs.Rules.{Rule, Gives, AnyOf, CutOf, OneOf}

-- How choices are made: by what, which ones, what is left after them, and how near effects must come to what a rule gives.
pub record Mode : Type 1 where
  pub State : Type 0
  pub Picks : ℕ → List PeerNo → State → List PeerNo → State → Type 0
  pub Cuts : Degrees → List Member → State → List PeerNo → State → Type 0
  pub PicksOne : ℕ → State → ℕ → State → Type 0
  pub Meets : Effects → Effects → Type 0

-- from s to t, the effects are some that the rule gives
abbrev pub Follows : (m : Mode) → Rule → m.State → Effects → m.State → Type 0
Follows m (Gives x) s e t = m.Meets e x × (t ≡ s)
Follows m (AnyOf k candidates rule) s e t =
    (chosen : List PeerNo) × (u : m.State) × m.Picks k candidates s chosen u × Follows m (rule chosen) u e t
Follows m (CutOf degrees members rule) s e t =
    (kept : List PeerNo) × (u : m.State) × m.Cuts degrees members s kept u × Follows m (rule kept) u e t
Follows m (OneOf n rule) s e t =
    (place : ℕ) × (u : m.State) × m.PicksOne n s place u × Follows m (rule place) u e t

-- ---- freely

-- the RPCs among these sends that go to q
abbrev pub sent_to : PeerNo → List (PeerNo × Rpc) → List Rpc
sent_to q [] = []
sent_to q (x ∷ xs) = if same_peer x.0 q then x.1 ∷ sent_to q xs else sent_to q xs

-- They say the same: each neighbour is sent the same list, and marks are in any order.
pub record SaysTheSame (e x : Effects) : Type 0 where
  pub sends : (q : PeerNo) → sent_to q e.sends ≡ sent_to q x.sends
  pub delivered : e.delivered ≡ x.delivered
  pub promise : e.promise ≡ x.promise
  pub marks : IsPermutation x.marks e.marks

-- any choice will do, and so does any order that nobody sees
abbrev pub free : Mode
free = record {
  State = Unit {0};
  Picks = λ k candidates s chosen t. IsSample k candidates chosen;
  Cuts = λ degrees members s kept t. IsCut degrees members kept;
  PicksOne = λ n s place t. place < n;
  Meets = SaysTheSame;
}

-- nothing is left to choose
abbrev pub choiceless : Mode
choiceless = record {
  State = Unit {0};
  Picks = λ k candidates s chosen t. ⊥;
  Cuts = λ degrees members s kept t. ⊥;
  PicksOne = λ n s place t. ⊥;
  Meets = λ e x. e ≡ x;
}

-- ---- by random words

module _ {S : Type 0} (word : S → ℕ) (after : S → S) where
  -- k of the candidates by the next words, which are then drawn
  pub record IsPick (k : ℕ) (candidates : List PeerNo) (s : S) (chosen : List PeerNo) (t : S) : Type 0 where
    pub ascending : IsAscending candidates
    pub chosen_are : chosen ≡ picked word after k candidates s
    pub words : t ≡ picked_words word after k candidates s

  -- one of n places by the next word, which is then drawn
  pub record IsPickOfOne (n : ℕ) (s : S) (place : ℕ) (t : S) : Type 0 where
    pub some : 0 < n
    pub place_is : place ≡ picked_one word after n s
    pub words : t ≡ picked_one_words word after n s

  -- each choice is the one by the next words, and effects are as the rules give them
  abbrev pub exact : Mode
  exact = record {
    State = S;
    Picks = IsPick;
    Cuts = IsExactCut word after;
    PicksOne = IsPickOfOne;
    Meets = λ e x. e ≡ x;
  }
