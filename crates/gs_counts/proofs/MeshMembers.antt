-- The members that are kept of each topic are those of its mesh.
use Rattle.std.proofs.Common.{◌≡◌, ℕ, suc, Bool, true, false, not, if◌then◌else◌, List, [], ◌∷◌, length, refl, sym, ap, ◌∙◌}
use Rattle.std.specs.Prelude.{◌&&◌, filter}
use Rattle.std.specs.declared.cmp.Ordering.{Ordering}
use Rattle.std.specs.declared.cmp.Ordering.TheVariants.{Less, Equal, Greater}
use Rattle.std.specs.Ordering.{nat_cmp}
use Rattle.std.specs.FinMap.Entries.{by_order}
use Rattle.std.proofs.lemmas.Slice.Eq.{bytes_eq-Decides}
use Rattle.gs_base.specs.declared.names.PeerNo.{PeerNo}
use Rattle.gs_base.specs.declared.names.Topic.{Topic}
use Rattle.gs_base.specs.declared.mark.Mark.{Mark}
use Rattle.gs_base.specs.declared.mark.Mark.TheVariants.{Grafted, Pruned}
use Rattle.gs_base.specs.Names.{same_peer, same_topic}
use Rattle.gs_mesh.specs.Peers.{put_in, without}
use Rattle.gs_rules.specs.Tables.{Entries, after_marks}
use Rattle.gs_rules.specs.Meshes.{mesh, mesh_after}
use Rattle.gs_counts.specs.Meshes.{members_in}
use Rattle.gs_counts.specs.Meshes.{members, members_after, put_member, without_member}

-- one more where it holds
abbrev more_if : Bool → PeerNo → List PeerNo → List PeerNo
more_if is p ps = if is then p ∷ ps else ps

-- who of these members is one of a topic
abbrev of_topic : Topic → List (Topic × PeerNo) → List PeerNo
of_topic t [] = []
of_topic t (x ∷ xs) = more_if (same_topic x.0 t) x.1 (of_topic t xs)

-- ---- topics

-- topics of the same bytes are one
same_are_one : (t u : Topic) → same_topic t u ≡ true → t ≡ u
same_are_one t u is = ap (λ (bytes : List ℕ). record { 0 = bytes }) ((bytes_eq-Decides t.0 u.0).0 is)

-- a member of one topic is of another where the topics are one
of_one : (v u t : Topic) → same_topic v u ≡ true → same_topic v t ≡ same_topic u t
of_one v u t is = ap (λ (w : Topic). same_topic w t) (same_are_one v u is)

-- and one of another topic is not
of_another : (v u t : Topic) → same_topic v u ≡ false → same_topic u t ≡ true → same_topic v t ≡ false
of_another v u t other is = ap (λ (w : Topic). same_topic v w) (sym (same_are_one u t is)) ∙ other

-- ---- one more

of_order : (t : Topic) (o : Ordering) (xs ys zs : List (Topic × PeerNo)) → of_topic t (by_order o xs ys zs) ≡ by_order o (of_topic t xs) (of_topic t ys) (of_topic t zs)
of_order t Less xs ys zs = refl
of_order t Equal xs ys zs = refl
of_order t Greater xs ys zs = refl

-- after one of the same topic, by their order
beside : (b c : Bool) (o : Ordering) (p q : PeerNo) (zs ps : List PeerNo)
    → b ≡ c
    → nat_cmp p.0 q.0 ≡ o
    → zs ≡ (if c then put_in q ps else ps)
    → by_order o (more_if b p zs) (more_if b p ps) (more_if c q (more_if b p ps)) ≡ (if c then put_in q (more_if b p ps) else more_if b p ps)
beside true true o p q zs ps one is rest =
    ap (λ (xs : List PeerNo). by_order o (p ∷ xs) (p ∷ ps) (q ∷ p ∷ ps)) rest
    ∙ ap (λ (r : Ordering). by_order r (p ∷ put_in q ps) (p ∷ ps) (q ∷ p ∷ ps)) (sym is)
beside true false o p q zs ps one is rest = let wrong : true ≡ false = one in cc
beside false true o p q zs ps one is rest = let wrong : false ≡ true = one in cc
beside false false Less p q zs ps one is rest = rest
beside false false Equal p q zs ps one is rest = refl
beside false false Greater p q zs ps one is rest = refl

-- after one of another topic
past : (b c : Bool) (p q : PeerNo) (zs ps : List PeerNo)
    → (c ≡ true → b ≡ false)
    → zs ≡ (if c then put_in q ps else ps)
    → more_if b p zs ≡ (if c then put_in q (more_if b p ps) else more_if b p ps)
past true true p q zs ps apart rest = let wrong : true ≡ false = apart refl in cc
past true false p q zs ps apart rest = ap (λ (xs : List PeerNo). p ∷ xs) rest
past false true p q zs ps apart rest = rest
past false false p q zs ps apart rest = rest

put_is : (t u : Topic) (q : PeerNo) (xs : List (Topic × PeerNo)) → of_topic t (put_member u q xs) ≡ (if same_topic u t then put_in q (of_topic t xs) else of_topic t xs)
put_is t u q [] = alone (same_topic u t)
  where
    alone : (c : Bool) → more_if c q [] ≡ (if c then put_in q [] else [])
    alone true = refl
    alone false = refl
put_is t u q (x ∷ xs) = by (same_topic x.0 u) refl (put_is t u q xs)
  where
    by : (a : Bool) → same_topic x.0 u ≡ a → of_topic t (put_member u q xs) ≡ (if same_topic u t then put_in q (of_topic t xs) else of_topic t xs) → of_topic t (if a then by_order (nat_cmp x.1.0 q.0) (x ∷ put_member u q xs) (x ∷ xs) ((u, q) ∷ x ∷ xs) else x ∷ put_member u q xs) ≡ (if same_topic u t then put_in q (of_topic t (x ∷ xs)) else of_topic t (x ∷ xs))
    by true is rest =
        of_order t (nat_cmp x.1.0 q.0) (x ∷ put_member u q xs) (x ∷ xs) ((u, q) ∷ x ∷ xs)
        ∙ beside (same_topic x.0 t) (same_topic u t) (nat_cmp x.1.0 q.0) x.1 q (of_topic t (put_member u q xs)) (of_topic t xs) (of_one x.0 u t is) refl rest
    by false is rest =
        past (same_topic x.0 t) (same_topic u t) x.1 q (of_topic t (put_member u q xs)) (of_topic t xs) (of_another x.0 u t is) rest

-- ---- one less

of_kept : (t : Topic) (b : Bool) (x : Topic × PeerNo) (xs : List (Topic × PeerNo)) → of_topic t (if b then x ∷ xs else xs) ≡ (if b then more_if (same_topic x.0 t) x.1 (of_topic t xs) else of_topic t xs)
of_kept t true x xs = refl
of_kept t false x xs = refl

-- whether one stays: a is whether it is of the topic that is left, and e whether it is who leaves
stays : (a b c e : Bool) (p q : PeerNo) (zs ps : List PeerNo)
    → same_peer q p ≡ e
    → (a ≡ true → b ≡ c)
    → (a ≡ false → c ≡ true → b ≡ false)
    → zs ≡ (if c then without q ps else ps)
    → (if not (a && e) then more_if b p zs else zs) ≡ (if c then without q (more_if b p ps) else more_if b p ps)
stays true true true true p q zs ps is one apart rest =
    rest ∙ ap (λ (e : Bool). if not e then p ∷ without q ps else without q ps) (sym is)
stays true true true false p q zs ps is one apart rest =
    ap (λ (xs : List PeerNo). p ∷ xs) rest ∙ ap (λ (e : Bool). if not e then p ∷ without q ps else without q ps) (sym is)
stays true true false e p q zs ps is one apart rest = let wrong : true ≡ false = one refl in cc
stays true false true e p q zs ps is one apart rest = let wrong : false ≡ true = one refl in cc
stays true false false true p q zs ps is one apart rest = rest
stays true false false false p q zs ps is one apart rest = rest
stays false true true e p q zs ps is one apart rest = let wrong : true ≡ false = apart refl refl in cc
stays false true false e p q zs ps is one apart rest = ap (λ (xs : List PeerNo). p ∷ xs) rest
stays false false true e p q zs ps is one apart rest = rest
stays false false false e p q zs ps is one apart rest = rest

drop_is : (t u : Topic) (q : PeerNo) (xs : List (Topic × PeerNo)) → of_topic t (without_member u q xs) ≡ (if same_topic u t then without q (of_topic t xs) else of_topic t xs)
drop_is t u q [] = nobody (same_topic u t)
  where
    nobody : (c : Bool) → [] ≡ (if c then without q [] else [])
    nobody true = refl
    nobody false = refl
drop_is t u q (x ∷ xs) =
    of_kept t (not (same_topic x.0 u && same_peer q x.1)) x (without_member u q xs)
    ∙ stays (same_topic x.0 u) (same_topic x.0 t) (same_topic u t) (same_peer q x.1) x.1 q (of_topic t (without_member u q xs)) (of_topic t xs) refl (of_one x.0 u t) (of_another x.0 u t) (drop_is t u q xs)

-- ---- a trace

mark_is : (t : Topic) (mark : Mark) (xs : List (Topic × PeerNo)) → of_topic t (members_after mark xs) ≡ mesh_after t mark (of_topic t xs)
mark_is t (Grafted q u) xs = put_is t u q xs
mark_is t (Pruned q u) xs = drop_is t u q xs
mark_is t other xs = refl

marks_are : (t : Topic) (marks : List Mark) (xs : List (Topic × PeerNo)) → of_topic t (after_marks members_after marks xs) ≡ after_marks (mesh_after t) marks (of_topic t xs)
marks_are t [] xs = refl
marks_are t (mark ∷ marks) xs =
    marks_are t marks (members_after mark xs) ∙ ap (λ (ps : List PeerNo). after_marks (mesh_after t) marks ps) (mark_is t mark xs)

trace_is : (t : Topic) (L : Entries) → of_topic t (members L) ≡ mesh L t
trace_is t [] = refl
trace_is t (e ∷ L) = marks_are t e.effects.marks (members L) ∙ ap (λ (ps : List PeerNo). after_marks (mesh_after t) e.effects.marks ps) (trace_is t L)

counted : (t : Topic) (xs : List (Topic × PeerNo)) → members_in xs t ≡ length (of_topic t xs)
counted t [] = refl
counted t (x ∷ xs) = by (same_topic x.0 t) (counted t xs)
  where
    by : (b : Bool) → members_in xs t ≡ length (of_topic t xs) → length (if b then x ∷ filter (λ y. same_topic y.0 t) xs else filter (λ y. same_topic y.0 t) xs) ≡ length (more_if b x.1 (of_topic t xs))
    by true rest = ap suc rest
    by false rest = rest

pub as_many : (t : Topic) (L : Entries) → members_in (members L) t ≡ length (mesh L t)
as_many t L = counted t (members L) ∙ ap (λ (ps : List PeerNo). length ps) (trace_is t L)
