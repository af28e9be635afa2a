-- Heartbeats of a mesh that were worked out by hand.
use Rattle.std.proofs.Common.{◌≡◌, ℕ, ◌+◌, Bool, true, false, List, [], ◌∷◌, refl}
use Rattle.std.specs.Prelude.{ℤ, pos, negsuc}
use Rattle.gs_base.specs.declared.names.PeerNo.{PeerNo}
use Rattle.gs_mesh.specs.declared.members.Member.{Member}
use Rattle.gs_params.specs.Params.{default_degrees, default_params}
use Rattle.gs_params.specs.Picks.{after_words, next_words, picked, picked_words, shuffled}
use Rattle.gs_mesh.specs.Cuts.{best_by_score, cut, cut_words, first_kept, first_words, others_picked, others_picked_words, outbound_lacking, outbound_picked, outbound_picked_words}
use Rattle.gs_mesh.specs.declared.condition.Condition.TheVariants.{Balanced, Few, FewOutbound}
use Rattle.gs_mesh.specs.MeshSteps.{condition_of, median_is_below, step_by_words}

abbrev peer : ℕ → PeerNo
peer n = record { 0 = n }

abbrev member : ℕ → ℤ → Bool → Member
member n score outbound = record { peer = peer n; score = score; outbound = outbound }

-- words that count up: a state is its next word
abbrev here : ℕ → ℕ
here s = s

abbrev next : ℕ → ℕ
next s = s + 1

abbrev plain : ℕ → Member
plain n = member n (pos 0) false

-- ---- how meshes stand

abbrev four : List Member
four = plain 1 ∷ plain 2 ∷ plain 3 ∷ plain 4 ∷ []

pub three_are_few : condition_of default_degrees (plain 1 ∷ plain 2 ∷ plain 3 ∷ []) ≡ Few
three_are_few = refl

pub four_lack_outbound_ones : condition_of default_degrees four ≡ FewOutbound
four_lack_outbound_ones = refl

pub two_of_four_outbound_are_enough : condition_of default_degrees (member 1 (pos 0) true ∷ plain 2 ∷ plain 3 ∷ member 4 (pos 0) true ∷ []) ≡ Balanced
two_of_four_outbound_are_enough = refl

-- ---- medians

abbrev rising : List Member
rising = member 1 (pos 30) false ∷ member 2 (pos 10) false ∷ member 3 (pos 40) false ∷ member 4 (pos 20) false ∷ []

-- of 10, 20, 30, 40 it is the third
pub the_median_is_not_below_itself : median_is_below rising (pos 30) ≡ false
the_median_is_not_below_itself = refl

pub the_median_is_below_what_is_higher : median_is_below rising (pos 31) ≡ true
the_median_is_below_what_is_higher = refl

pub nobody_has_no_median : median_is_below [] (pos 5) ≡ false
nobody_has_no_median = refl

-- ---- steps

-- five scores above a poor mesh's median, and 6 does not; it is the sixtieth heartbeat
pub one_above_the_median_comes_in : step_by_words here next default_params 60 four (member 5 (pos 3_000_000) false ∷ plain 6 ∷ []) 100 ≡ (record { pruned = []; grafted = peer 5 ∷ [] }, 100)
unfolding next_words after_words shuffled picked picked_words best_by_score outbound_lacking outbound_picked outbound_picked_words others_picked others_picked_words first_kept first_words cut cut_words step_by_words
one_above_the_median_comes_in = refl

pub nobody_comes_in_between : step_by_words here next default_params 59 four (member 5 (pos 3_000_000) false ∷ plain 6 ∷ []) 100 ≡ (record { pruned = []; grafted = [] }, 100)
unfolding next_words after_words shuffled picked picked_words best_by_score outbound_lacking outbound_picked outbound_picked_words others_picked others_picked_words first_kept first_words cut cut_words step_by_words
nobody_comes_in_between = refl

-- who scores below 0 goes, and of three outbound candidates the word 7 takes the second
pub an_outbound_one_comes_in
    : step_by_words here next default_params 1 (member 1 (pos 0) true ∷ plain 2 ∷ plain 3 ∷ member 4 (negsuc 0) true ∷ plain 5 ∷ []) (member 6 (pos 0) true ∷ member 7 (pos 0) true ∷ plain 8 ∷ member 9 (pos 0) true ∷ []) 7
    ≡ (record { pruned = peer 4 ∷ []; grafted = peer 7 ∷ [] }, 8)
unfolding next_words after_words shuffled picked picked_words best_by_score outbound_lacking outbound_picked outbound_picked_words others_picked others_picked_words first_kept first_words cut cut_words step_by_words
an_outbound_one_comes_in = refl
