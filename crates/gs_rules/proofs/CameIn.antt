-- Who is in a mesh came into it by an entry, and stayed.
use Rattle.std.proofs.Common.{◌≡◌, ◌⊎◌, arith, zero, suc, Bool, true, false, if◌then◌else◌, List, [], ◌∷◌, refl, sym, ap, ap₂, subst, inl, inr}
use Rattle.std.specs.Prelude.{◌||◌, ◌&&◌}
use Rattle.std.specs.List.{IsAmong, list_any}
use Rattle.std.proofs.lemmas.Bool.{and_from, or_from, or_left}
use Rattle.std.proofs.lemmas.Cmp.{nat_eq_equiv}
use Rattle.std.proofs.lemmas.Slice.Eq.{bytes_eq-Decides}
use Rattle.gs_base.specs.declared.names.PeerNo.{PeerNo}
use Rattle.gs_base.specs.declared.names.Topic.{Topic}
use Rattle.gs_base.specs.declared.mark.Mark.{Mark}
use Rattle.gs_base.specs.declared.mark.Mark.TheVariants.{Grafted, Pruned}
use Rattle.gs_base.specs.Names.{same_peer, same_topic}
use Rattle.gs_mesh.specs.Peers.{is_among, put_in, without}
use Rattle.gs_rules.specs.Peers.{Peer}
use Rattle.gs_rules.specs.Tables.{Entries, after_marks}
use Rattle.gs_rules.specs.Arrivals.{CameIn}
use Rattle.gs_rules.specs.Meshes.{mesh, mesh_after}
use Rattle.gs_rules.specs.Legal.{Legal}
use Rattle.gs_rules.proofs.Each.{each_weaker}
use Rattle.gs_rules.proofs.Marks.{each_among}
use Rattle.gs_rules.proofs.Members.{among_without, neither, never, nor, of_member, one_peer, prunes, put_are}
use Rattle.gs_rules.proofs.Topics.{same_are_one}
use Rattle.gs_rules.proofs.UpMembers.{was_rested}

-- ---- one of a list

behind : {X : Type 0} (x v : X) (xs : List X) → IsAmong xs v → IsAmong (x ∷ xs) v
behind x v xs (i, (below, is)) = (suc i, (omega (arith, below), is))

second : (a b : Bool) → (a || b) ≡ false → b ≡ false
second true b is = absurd cc
second false b is = is

-- where no mark prunes, none is that prune
none_among : (t : Topic) (q : PeerNo) (marks : List Mark) → list_any (prunes t q) marks ≡ false → ¬ (IsAmong marks (Pruned q t))
none_among t q [] none (i, (below, is)) = absurd (omega (arith, below))
none_among t q (mark ∷ marks) none (zero, (below, is)) =
    let itself : prunes t q (Pruned q t) ≡ true = and_from (same_peer q q) (same_topic t t) (nat_eq_equiv.refl q.0) ((bytes_eq-Decides t.0 t.0).1 refl) in
    let here : prunes t q mark ≡ true = subst (λ (m : Mark). prunes t q m ≡ true) is itself in
    never (prunes t q mark || list_any (prunes t q) marks) (or_left (prunes t q mark) (list_any (prunes t q) marks) here) none
none_among t q (mark ∷ marks) none (suc i, (below, is)) =
    none_among t q marks (second (prunes t q mark) (list_any (prunes t q) marks) none) (i, (omega (arith, below), is))

-- ---- by the marks of one entry

-- who is among those into which one is put is that one, or was among them
put_or_was : (r q : PeerNo) (before : List PeerNo) → is_among (put_in r before) q ≡ true → (same_peer q r ≡ true) ⊎ (is_among before q ≡ true)
put_or_was r q before is =
    of_member (λ (s : PeerNo). (same_peer s r ≡ true) ⊎ (is_among before s ≡ true)) (put_in r before) q
    (put_are (λ (s : PeerNo). (same_peer s r ≡ true) ⊎ (is_among before s ≡ true)) r before (inl (nat_eq_equiv.refl r.0))
    (each_weaker (λ (s : PeerNo). is_among before s ≡ true) (λ (s : PeerNo). (same_peer s r ≡ true) ⊎ (is_among before s ≡ true)) (λ s was. inr was) before (each_among before)))
    is

abbrev Came : Topic → PeerNo → List Mark → List PeerNo → Type 0
Came t q marks before = IsAmong marks (Grafted q t) ⊎ ((is_among before q ≡ true) × (list_any (prunes t q) marks ≡ false))

came_or_stayed : (t : Topic) (q : PeerNo) (marks : List Mark) (before : List PeerNo) → is_among (after_marks (mesh_after t) marks before) q ≡ true → Came t q marks before
came_or_stayed t q [] before is = inr (is, refl)
came_or_stayed t q (Grafted r u ∷ marks) before is = by (same_topic u t) refl (came_or_stayed t q marks (mesh_after t (Grafted r u) before) is)
  where
    put : same_topic u t ≡ true → (same_peer q r ≡ true) ⊎ (is_among before q ≡ true) → list_any (prunes t q) marks ≡ false → Came t q (Grafted r u ∷ marks) before
    put same (inl is) none =
        inl (zero, (omega arith, ap₂ (λ (s : PeerNo) (v : Topic). Grafted s v) (one_peer q r is) (sym (same_are_one u t same))))
    put same (inr was) none = inr (was, none)

    by : (same : Bool) → same_topic u t ≡ same → Came t q marks (if same then put_in r before else before) → Came t q (Grafted r u ∷ marks) before
    by same e (inl among) = inl (behind (Grafted r u) (Grafted q t) marks among)
    by true e (inr stays) = put e (put_or_was r q before stays.0) stays.1
    by false e (inr stays) = inr stays
came_or_stayed t q (Pruned r u ∷ marks) before is = by (same_topic u t) refl (came_or_stayed t q marks (mesh_after t (Pruned r u) before) is)
  where
    by : (same : Bool) → same_topic u t ≡ same → Came t q marks (if same then without r before else before) → Came t q (Pruned r u ∷ marks) before
    by same e (inl among) = inl (behind (Pruned r u) (Grafted q t) marks among)
    by true e (inr stays) =
        let left = of_member (λ (s : PeerNo). (is_among before s ≡ true) × (same_peer r s ≡ false)) (without r before) q (among_without r before) stays.0 in
        inr (left.0, or_from (same_peer r q && same_topic u t) (list_any (prunes t q) marks) (neither (same_peer r q) (same_topic u t) left.1) stays.1)
    by false e (inr stays) = inr (stays.0, or_from (same_peer r q && same_topic u t) (list_any (prunes t q) marks) (nor (same_peer r q) (same_topic u t) e) stays.1)
came_or_stayed t q (other ∷ marks) before is = by (came_or_stayed t q marks before is)
  where
    by : Came t q marks before → IsAmong (other ∷ marks) (Grafted q t) ⊎ ((is_among before q ≡ true) × (list_any (prunes t q) marks ≡ false))
    by (inl among) = inl (behind other (Grafted q t) marks among)
    by (inr stays) = inr stays

-- ---- by the entries of a trace

pub came_in : (p : Peer) (L : Entries) (q : PeerNo) (t : Topic) → Legal p L → is_among (mesh L t) q ≡ true → CameIn q t L
came_in p [] q t legal is = absurd cc
came_in p (e ∷ L) q t legal is = by (came_or_stayed t q e.effects.marks (mesh L t) is) (came_in p L q t legal.1)
  where
    more : CameIn q t L → list_any (prunes t q) e.effects.marks ≡ false → CameIn q t (e ∷ L)
    more c none = record {
      later = e ∷ c.later;
      entry = c.entry;
      earlier = c.earlier;
      are = ap (λ (M : Entries). e ∷ M) c.are;
      came = c.came;
      rested = c.rested;
      stayed = (none_among t q e.effects.marks none, c.stayed);
    }

    by : Came t q e.effects.marks (mesh L t) → (is_among (mesh L t) q ≡ true → CameIn q t L) → CameIn q t (e ∷ L)
    by (inl among) before = record {
      later = [];
      entry = e;
      earlier = L;
      are = refl;
      came = among;
      rested = was_rested p [] L e q t legal among;
      stayed = tt;
    }
    by (inr stays) before = more (before stays.0) stays.1
