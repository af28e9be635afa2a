-- A cut by random words is a cut: so is one with any choice in place of either pick.
use Rattle.std.proofs.Common.{◌≡◌, ℕ, ◌+◌, ◌-◌, ◌≤◌, Bool, true, false, not, List, ◌++◌, length, min, filter, refl, sym, ◌∙◌, arith, length-append}
use Rattle.std.specs.Prelude.{◌||◌, ◌≤ℤ◌, Contains, All}
use Rattle.std.specs.List.{IsDistinct}
use Rattle.std.specs.Set.{is_member}
use Rattle.std.proofs.lemmas.List.{length-map}
use Rattle.std.proofs.lemmas.List.Elements.{All-append, All-contains, All-contains_itself, All-filter, All-weaker}
use Rattle.std.proofs.lemmas.List.Filters.{length-filter_both}
use Rattle.gs_mesh.specs.declared.members.Member.{Member}
use Rattle.gs_base.specs.declared.names.PeerNo.{PeerNo}
use Rattle.gs_params.specs.declared.params.Degrees.{Degrees}
use Rattle.gs_base.specs.Names.{same_peer}
use Rattle.gs_params.specs.Picks.{IsAscending, IsSample, picked}
use Rattle.gs_mesh.specs.Cuts.{peers_of, outbound_of, among, outside, IsCut, best_by_score, outbound_lacking, outbound_picked, others_picked, first_kept, first_words, cut, EachIsACut, IsDetermined}
use Rattle.gs_params.proofs.Picking.{distinct_from_ascending, ascending_filter, picked_is_sample}
use Rattle.gs_mesh.proofs.PeerLists.{is_there, found, of_whole, false_from_not, is_outside, in_either, in_filter, distinct_joined, length_part, Apart, at_least_both}
use Rattle.gs_mesh.proofs.BestMembers.{peers_of_kept, length_of_kept, who_passes, its_peer, kept_inside, ascending_kept, length_best, best_inside, best_ascending, best_are_highest}

or_first : (a b : Bool) → a ≡ true → (a || b) ≡ true
or_first a b h = rw h refl

or_second : (a b : Bool) → b ≡ true → (a || b) ≡ true
or_second true b h = refl
or_second false b h = h

not_both : (a b : Bool) → (b ≡ true → a ≡ false) → a ≡ true → b ≡ false
not_both a false h k = refl
not_both a true h k = let e : a ≡ false = h refl in cc

-- ---- one choice more

-- a choice of members that are not there yet
module _ (first : List PeerNo) (k : ℕ) (members : List Member) (up : IsAscending (peers_of members)) (more : List PeerNo) (are : IsSample k (peers_of (outside first members)) more) where
  abbrev from_peers : All (Contains (filter (λ p. not (is_member same_peer first p)) (peers_of members))) more
  from_peers = rw (peers_of_kept (λ p. not (is_member same_peer first p)) members) at are.members

  more_inside : All (Contains (peers_of members)) more
  more_inside = All-weaker (Contains (filter (λ p. not (is_member same_peer first p)) (peers_of members))) (Contains (peers_of members)) (λ p h. of_whole (λ q. not (is_member same_peer first q)) (peers_of members) p h) more from_peers

  more_outside : All (λ p. is_member same_peer first p ≡ false) more
  more_outside = All-weaker (Contains (filter (λ p. not (is_member same_peer first p)) (peers_of members))) (λ p. is_member same_peer first p ≡ false) (λ p h. is_outside first (peers_of members) p h) more from_peers

  -- those that are there and those that are not are all
  length_more : length more ≡ min k (length members - length (among first members))
  length_more =
      let parts : length (among first members) + length (outside first members) ≡ length members = length-filter_both (λ (m : Member). is_member same_peer first m.peer) (λ m. not (is_member same_peer first m.peer)) (λ m. refl) members in
      let peers = length-map (outside first members) (λ (m : Member). m.peer) in
      let count = are.count in
      omega arith

-- ---- any choices

module _ (degrees : Degrees) (members : List Member) (up : IsAscending (peers_of members)) (room : degrees.d_score + degrees.d_out ≤ degrees.d) (picks others : List PeerNo)
    (picks_are : IsSample (outbound_lacking degrees members (best_by_score degrees.d_score members)) (peers_of (outside (best_by_score degrees.d_score members) (outbound_of members))) picks)
    (others_are : IsSample (degrees.d - length (best_by_score degrees.d_score members ++ picks)) (peers_of (outside (best_by_score degrees.d_score members ++ picks) members)) others) where
  abbrev top : List PeerNo
  top = best_by_score degrees.d_score members

  abbrev outbound_ones : List Member
  outbound_ones = outbound_of members

  abbrev first : List PeerNo
  first = top ++ picks

  abbrev whole : List PeerNo
  whole = first ++ others

  abbrev those_kept : List PeerNo
  those_kept = filter (is_member same_peer whole) (peers_of members)

  outbound_up : IsAscending (peers_of outbound_ones)
  outbound_up = ascending_kept (λ (m : Member). m.outbound) members up

  picks_outbound : All (Contains (peers_of outbound_ones)) picks
  picks_outbound = more_inside top _ outbound_ones outbound_up picks picks_are

  picks_outside : All (λ p. is_member same_peer top p ≡ false) picks
  picks_outside = more_outside top _ outbound_ones outbound_up picks picks_are

  picks_inside : All (Contains (peers_of members)) picks
  picks_inside = All-weaker (Contains (peers_of outbound_ones)) (Contains (peers_of members)) (λ p h. All-contains (Contains (peers_of members)) (peers_of outbound_ones) p (kept_inside (λ (m : Member). m.outbound) members) h) picks picks_outbound

  first_distinct : IsDistinct same_peer first
  first_distinct = distinct_joined top picks (distinct_from_ascending top (best_ascending degrees.d_score members up)) picks_are.distinct picks_outside

  first_inside : All (Contains (peers_of members)) first
  first_inside = All-append (Contains (peers_of members)) top picks (best_inside degrees.d_score members) picks_inside

  whole_distinct : IsDistinct same_peer whole
  whole_distinct = distinct_joined first others first_distinct others_are.distinct (more_outside first _ members up others others_are)

  whole_inside : All (Contains (peers_of members)) whole
  whole_inside = All-append (Contains (peers_of members)) first others first_inside (more_inside first _ members up others others_are)

  length_picks : length picks ≡ min (outbound_lacking degrees members top) (length outbound_ones - length (among top outbound_ones))
  length_picks = length_more top _ outbound_ones outbound_up picks picks_are

  few_picks : length picks ≤ degrees.d_out
  unfolding outbound_lacking
  few_picks = let h = length_picks in omega arith

  enough_picks : min degrees.d_out (length outbound_ones) ≤ length (among top outbound_ones) + length picks
  unfolding outbound_lacking
  enough_picks = let h = length_picks in omega arith

  length_kept : length those_kept ≡ min degrees.d (length members)
  length_kept =
      let all : length those_kept ≡ length whole = length_part whole (peers_of members) whole_distinct up whole_inside in
      let best = length_best degrees.d_score members up in
      let few = few_picks in
      let rest = length_more first _ members up others others_are in
      let there : length (among first members) ≡ length first = length_of_kept (is_member same_peer first) members ∙ length_part first (peers_of members) first_distinct up first_inside in
      let parts : length (among first members) + length (outside first members) ≡ length members = length-filter_both (λ (m : Member). is_member same_peer first m.peer) (λ m. not (is_member same_peer first m.peer)) (λ m. refl) members in
      let sum = length-append top picks in
      let sum_of_all = length-append first others in
      omega arith

  still_kept : (p : PeerNo) → Contains (peers_of members) p → (is_member same_peer top p || is_member same_peer picks p) ≡ true → is_member same_peer those_kept p ≡ true
  still_kept p here h = in_filter (is_member same_peer whole) (peers_of members) p here (in_either first others p ∙ or_first (is_member same_peer first p) (is_member same_peer others p) (in_either top picks p ∙ h))

  best_kept : All (Contains those_kept) top
  best_kept = All-weaker (Contains top) (Contains those_kept) (λ p h. found those_kept p (still_kept p (All-contains (Contains (peers_of members)) top p (best_inside degrees.d_score members) h) (or_first (is_member same_peer top p) (is_member same_peer picks p) (is_there top p h)))) top (All-contains_itself top)

  apart_outbound : (m : Member) → Contains outbound_ones m → Apart (λ (x : Member). is_member same_peer top x.peer) (λ x. is_member same_peer picks x.peer) (λ x. is_member same_peer those_kept x.peer) m
  apart_outbound m here =
      let there : Contains (peers_of members) m.peer = All-contains (Contains (peers_of members)) (peers_of outbound_ones) m.peer (kept_inside (λ (x : Member). x.outbound) members) (its_peer outbound_ones m here) in
      record {
        first = λ h. still_kept m.peer there (or_first _ _ h);
        second = λ h. still_kept m.peer there (or_second _ _ h);
        apart = not_both (is_member same_peer top m.peer) (is_member same_peer picks m.peer) (λ h. All-contains (λ p. is_member same_peer top p ≡ false) picks m.peer picks_outside (found picks m.peer h));
      }

  enough_outbound : min degrees.d_out (length outbound_ones) ≤ length (among those_kept outbound_ones)
  enough_outbound =
      let both = at_least_both (λ (x : Member). is_member same_peer top x.peer) (λ x. is_member same_peer picks x.peer) (λ x. is_member same_peer those_kept x.peer) outbound_ones apart_outbound in
      let there : length (among picks outbound_ones) ≡ length picks = length_of_kept (is_member same_peer picks) outbound_ones ∙ length_part picks (peers_of outbound_ones) picks_are.distinct outbound_up picks_outbound in
      let enough = enough_picks in
      omega arith

  highest_kept : All (λ m. All (λ n. n.score ≤ℤ m.score) (outside top members)) (among top members)
  highest_kept =
      All-weaker (λ (m : Member). Contains members m × (is_member same_peer top m.peer ≡ true)) (λ m. All (λ n. n.score ≤ℤ m.score) (outside top members))
      (λ m h. All-weaker (λ (n : Member). Contains members n × (not (is_member same_peer top n.peer) ≡ true)) (λ n. n.score ≤ℤ m.score)
      (λ n k. best_are_highest degrees.d_score members up m n h.0 k.0 h.1 (false_from_not (is_member same_peer top n.peer) k.1))
      (outside top members) (who_passes (λ n. not (is_member same_peer top n.peer)) members))
      (among top members) (who_passes (λ m. is_member same_peer top m.peer) members)

  pub cut_by_choices : IsCut degrees members those_kept
  cut_by_choices =
      let count = length_kept in
      let best = length_best degrees.d_score members up in
      let peers = length-map members (λ (m : Member). m.peer) in
      let kept_up : IsAscending those_kept = ascending_filter (is_member same_peer whole) (peers_of members) up in
      let top_up : IsAscending top = best_ascending degrees.d_score members up in
      record {
        some = record {
          count = omega arith;
          members = All-filter (is_member same_peer whole) (Contains (peers_of members)) (peers_of members) (All-contains_itself (peers_of members));
          ascending = kept_up;
          distinct = distinct_from_ascending those_kept kept_up;
        };
        best = top;
        best_are = record {
          count = omega arith;
          members = best_kept;
          ascending = top_up;
          distinct = distinct_from_ascending top top_up;
        };
        highest = highest_kept;
        outbound = enough_outbound;
      }

pub exact_cut_is_cut : {S : Type 0} (word : S → ℕ) (after : S → S) → EachIsACut word after
unfolding cut first_kept outbound_picked others_picked
exact_cut_is_cut word after degrees members s kept t exact =
    let best = best_by_score degrees.d_score members in
    let lacking = outbound_lacking degrees members best in
    let candidates = peers_of (outside best (outbound_of members)) in
    let picks = picked word after lacking candidates s in
    let left = degrees.d - length (best ++ picks) in
    let others_up = ascending_kept (λ (m : Member). not (is_member same_peer (best ++ picks) m.peer)) members exact.ascending in
    let outbound_up = ascending_kept (λ (m : Member). not (is_member same_peer best m.peer)) (outbound_of members) (ascending_kept (λ (m : Member). m.outbound) members exact.ascending) in
    rw exact.kept_are (cut_by_choices degrees members exact.ascending exact.room picks (others_picked word after degrees members (best ++ picks) (first_words word after degrees members s))
    (picked_is_sample word after lacking candidates s outbound_up)
    (picked_is_sample word after left (peers_of (outside (best ++ picks) members)) (first_words word after degrees members s) others_up))

pub exact_cut_is_one : {S : Type 0} (word : S → ℕ) (after : S → S) → IsDetermined word after
exact_cut_is_one word after degrees members s kept other t u one two = (one.kept_are ∙ sym two.kept_are, one.words ∙ sym two.words)
