-- Cuts that were worked out by hand.
use Rattle.std.proofs.Common.{◌≡◌, ℕ, ◌+◌, Bool, true, false, List, [], ◌∷◌, refl, arith}
use Rattle.std.specs.Prelude.{ℤ, pos, negsuc, ◌≤ℤ◌, ◌<◌, ◌≤◌, Contains, All}
use Rattle.std.proofs.lemmas.Int.{ints}
use Rattle.std.proofs.lemmas.List.Elements.{All-from_recursion}
use Rattle.std.proofs.lemmas.List.Kept.{AllPairs-cons}
use Rattle.gs_params.proofs.Picking.{distinct_from_ascending}
use Rattle.gs_mesh.specs.declared.members.Member.{Member}
use Rattle.gs_base.specs.declared.names.PeerNo.{PeerNo}
use Rattle.gs_params.specs.declared.params.Degrees.{Degrees}
use Rattle.gs_params.specs.Picks.{next_words, IsAscending, after_words, shuffled, picked, picked_words}
use Rattle.gs_mesh.specs.Cuts.{IsCut, peers_of, among, outside, best_by_score, outbound_lacking, outbound_picked, outbound_picked_words, others_picked, others_picked_words, first_kept, first_words, cut, cut_words}

abbrev peer : ℕ → PeerNo
peer n = record { 0 = n }

abbrev member : ℕ → ℤ → Bool → Member
member n score outbound = record { peer = peer n; score = score; outbound = outbound }

-- words that count up: a state is its next word
abbrev here : ℕ → ℕ
here s = s

abbrev next : ℕ → ℕ
next s = s + 1

-- the defaults of gossipsub
abbrev usual : Degrees
usual = record { d = 6; d_low = 4; d_high = 12; d_score = 4; d_out = 2; d_lazy = 6 }

-- thirteen members: 12 and 13 are outbound, and 1 to 3 have delivered
abbrev thirteen : List Member
thirteen =
    member 1 (pos 3_000_000) false ∷ member 2 (pos 3_000_000) false ∷ member 3 (pos 3_000_000) false ∷ member 4 (pos 0) false ∷
    member 5 (pos 0) false ∷ member 6 (pos 0) false ∷ member 7 (pos 0) false ∷ member 8 (pos 0) false ∷ member 9 (pos 0) false ∷
    member 10 (pos 0) false ∷ member 11 (pos 0) false ∷ member 12 (pos 0) true ∷ member 13 (pos 0) true ∷ []

-- four best, both outbound ones, and no other: no word is drawn
pub both_outbound_are_kept : cut here next usual thirteen 100 ≡ peer 1 ∷ peer 2 ∷ peer 3 ∷ peer 4 ∷ peer 12 ∷ peer 13 ∷ []
unfolding next_words shuffled picked picked_words best_by_score outbound_lacking outbound_picked outbound_picked_words others_picked first_kept first_words cut
both_outbound_are_kept = refl

pub no_word_is_drawn : cut_words here next usual thirteen 100 ≡ 100
unfolding next_words after_words shuffled picked picked_words best_by_score outbound_lacking outbound_picked outbound_picked_words others_picked_words first_kept first_words cut_words
no_word_is_drawn = refl

-- Eight of one score: 1 is best, and no one is outbound. Of 2 to 8 two are picked: the word 4 exchanges the first place with that
-- of 6, and the word 5 the second with that of 8.
abbrev eight : List Member
eight =
    member 1 (pos 0) false ∷ member 2 (pos 0) false ∷ member 3 (pos 0) false ∷ member 4 (pos 0) false ∷
    member 5 (pos 0) false ∷ member 6 (pos 0) false ∷ member 7 (pos 0) false ∷ member 8 (pos 0) false ∷ []

abbrev small : Degrees
small = record { d = 3; d_low = 2; d_high = 5; d_score = 1; d_out = 1; d_lazy = 3 }

pub others_are_picked_by_words : cut here next small eight 4 ≡ peer 1 ∷ peer 6 ∷ peer 8 ∷ []
unfolding next_words after_words shuffled picked picked_words best_by_score outbound_lacking outbound_picked outbound_picked_words others_picked others_picked_words first_kept first_words cut
others_are_picked_by_words = refl

pub a_word_for_each_that_is_picked : cut_words here next small eight 4 ≡ 6
unfolding next_words after_words shuffled picked picked_words best_by_score outbound_lacking outbound_picked outbound_picked_words others_picked others_picked_words first_kept first_words cut_words
a_word_for_each_that_is_picked = refl

-- seven members: 4 to 7 are outbound
abbrev seven : List Member
seven =
    member 1 (negsuc 4) false ∷ member 2 (pos 7) false ∷ member 3 (pos 9) false ∷ member 4 (pos 1) true ∷
    member 5 (negsuc 0) true ∷ member 6 (pos 9) true ∷ member 7 (pos 2) true ∷ []

-- four: two are best and two outbound
abbrev four : Degrees
four = record { d = 4; d_low = 3; d_high = 6; d_score = 2; d_out = 2; d_lazy = 4 }

-- 3 and 6 are best, so one outbound one is lacking, of 4, 5 and 7: by the word 5 the third, 7. One more is kept, of 1, 2, 4 and 5:
-- by the word 6 the third, 4.
pub best_outbound_ones_count : cut here next four seven 5 ≡ peer 3 ∷ peer 4 ∷ peer 6 ∷ peer 7 ∷ []
unfolding next_words after_words shuffled picked picked_words best_by_score outbound_lacking outbound_picked outbound_picked_words others_picked others_picked_words first_kept first_words cut
best_outbound_ones_count = refl

pub one_word_for_each_pick : cut_words here next four seven 5 ≡ 7
unfolding next_words after_words shuffled picked picked_words best_by_score outbound_lacking outbound_picked outbound_picked_words others_picked others_picked_words first_kept first_words cut_words
one_word_for_each_pick = refl

-- ---- any cut

-- 1 and 2 score alike, and 3 is outbound
abbrev three : List Member
three = member 1 (pos 5) false ∷ member 2 (pos 5) false ∷ member 3 (pos 1) true ∷ []

-- two: one is best and one outbound
abbrev pair : Degrees
pair = record { d = 2; d_low = 2; d_high = 2; d_score = 1; d_out = 1; d_lazy = 2 }

ascending_pair : (p q : PeerNo) → p.0 < q.0 → IsAscending (p ∷ q ∷ [])
ascending_pair p q h = AllPairs-cons (λ (a b : PeerNo). a.0 < b.0) p (q ∷ []) (All-from_recursion (λ (b : PeerNo). p.0 < b.0) (q ∷ []) (h, tt)) (λ i j d before within. absurd (omega arith))

-- either of 1 and 2 may count as best
pub either_may_be_best : IsCut pair three (peer 2 ∷ peer 3 ∷ [])
either_may_be_best =
    let up : IsAscending (peer 2 ∷ peer 3 ∷ []) = ascending_pair (peer 2) (peer 3) (omega arith) in
    let alone : IsAscending (peer 2 ∷ []) = λ i j d before within. absurd (omega arith) in
    record {
      some = record {
        count = refl;
        members = All-from_recursion (Contains (peers_of three)) (peer 2 ∷ peer 3 ∷ []) ((1, omega arith, refl), ((2, omega arith, refl), tt));
        ascending = up;
        distinct = distinct_from_ascending (peer 2 ∷ peer 3 ∷ []) up;
      };
      best = peer 2 ∷ [];
      best_are = record {
        count = refl;
        members = All-from_recursion (Contains (peer 2 ∷ peer 3 ∷ [])) (peer 2 ∷ []) ((0, omega arith, refl), tt);
        ascending = alone;
        distinct = distinct_from_ascending (peer 2 ∷ []) alone;
      };
      highest = All-from_recursion (λ (m : Member). All (λ (n : Member). n.score ≤ℤ m.score) (outside (peer 2 ∷ []) three)) (among (peer 2 ∷ []) three)
          (All-from_recursion (λ (n : Member). n.score ≤ℤ pos 5) (outside (peer 2 ∷ []) three) (omega (arith, ints), (omega (arith, ints), tt)), tt);
      outbound = omega arith;
    }

-- but the outbound one must be there
pub an_outbound_one_is_kept : ¬ IsCut pair three (peer 1 ∷ peer 2 ∷ [])
an_outbound_one_is_kept h = let few : 1 ≤ 0 = h.outbound in absurd (omega arith)
