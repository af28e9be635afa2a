-- A step by words, of what its two choices are.
use Rattle.std.proofs.Common.{◌≡◌, ◌++◌, ◌∙◌, ℕ, Bool, true, false, List, ap}
use Rattle.gs_base.specs.declared.names.PeerNo.{PeerNo}
use Rattle.gs_mesh.specs.declared.members.Member.{Member}
use Rattle.gs_params.specs.declared.params.Degrees.{Degrees}
use Rattle.gs_params.specs.declared.params.Params.{Params}
use Rattle.gs_mesh.specs.declared.condition.Condition.{Condition}
use Rattle.gs_mesh.specs.declared.condition.Condition.TheVariants.{Few, Many, FewOutbound, Balanced}
use Rattle.gs_mesh.specs.MeshSteps.{any_by_words, condition_of, cut_by_words, is_poor, mended, mended_by_words, mended_members, mesh_change, not_negative, opportunistic_grafts, opportunistic_grafts_by_words, step_by_words}

module _ {S : Type 0} (word : S → ℕ) (after : S → S) where
  -- what it chooses, and the state after that
  abbrev pub mended_as : Condition → Degrees → List Member → List Member → S → List PeerNo × List PeerNo × S
  mended_as condition degrees members candidates s =
      mended (any_by_words word after) (cut_by_words word after) condition degrees members candidates (λ kept grafted t. (kept, grafted, t)) s

  abbrev pub opportunistic_grafts_as : Bool → ℕ → List Member → List Member → S → List PeerNo × S
  opportunistic_grafts_as poor most members candidates s = opportunistic_grafts (any_by_words word after) poor most members candidates (λ more t. (more, t)) s

  -- whatever follows, it goes on with that
  mended_goes_on : {A : Type 0} (condition : Condition) (degrees : Degrees) (members candidates : List Member) (next : List PeerNo → List PeerNo → S → A) (s t : S) (kept grafted : List PeerNo)
      → mended_as condition degrees members candidates s ≡ (kept, grafted, t)
      → mended (any_by_words word after) (cut_by_words word after) condition degrees members candidates next s ≡ next kept grafted t
  mended_goes_on Few degrees members candidates next s t kept grafted is = ap (λ (x : List PeerNo × List PeerNo × S). next x.0 x.1 x.2) is
  mended_goes_on Many degrees members candidates next s t kept grafted is = ap (λ (x : List PeerNo × List PeerNo × S). next x.0 x.1 x.2) is
  mended_goes_on FewOutbound degrees members candidates next s t kept grafted is = ap (λ (x : List PeerNo × List PeerNo × S). next x.0 x.1 x.2) is
  mended_goes_on Balanced degrees members candidates next s t kept grafted is = ap (λ (x : List PeerNo × List PeerNo × S). next x.0 x.1 x.2) is

  opportunistic_grafts_go_on : {A : Type 0} (poor : Bool) (most : ℕ) (members candidates : List Member) (next : List PeerNo → S → A) (s t : S) (more : List PeerNo)
      → opportunistic_grafts_as poor most members candidates s ≡ (more, t)
      → opportunistic_grafts (any_by_words word after) poor most members candidates next s ≡ next more t
  opportunistic_grafts_go_on true most members candidates next s t more is = ap (λ (x : List PeerNo × S). next x.0 x.1) is
  opportunistic_grafts_go_on false most members candidates next s t more is = ap (λ (x : List PeerNo × S). next x.0 x.1) is

  pub put_together : (params : Params) (number : ℕ) (mesh candidates : List Member) (s t u : S) (kept grafted more : List PeerNo)
      → mended_by_words word after params.degrees (not_negative mesh) candidates s ≡ (kept, grafted, t)
      → opportunistic_grafts_by_words word after params number (mended_members (not_negative mesh) candidates kept grafted) candidates grafted t ≡ (more, u)
      → step_by_words word after params number mesh candidates s ≡ (mesh_change mesh candidates kept (grafted ++ more), u)
  unfolding step_by_words
  put_together params number mesh candidates s t u kept grafted more first second =
      mended_goes_on (condition_of params.degrees (not_negative mesh)) params.degrees (not_negative mesh) candidates _ s t kept grafted first
      ∙ opportunistic_grafts_go_on (is_poor params number (mended_members (not_negative mesh) candidates kept grafted)) params.timing.opportunistic_peers _ _ _ t u more second
