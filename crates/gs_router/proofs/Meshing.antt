-- The table of who is in which mesh and fanout, after marks.
use Rattle.std.proofs.Common.{◌≡◌, ◌<◌, ◌+◌, arith, ℕ, Bool, true, false, if◌then◌else◌, List, [], ◌∷◌, ◌++◌, Option, option_map, length, take, get_or, refl, sym, ap, ap₂, subst, ◌∙◌}
use Rattle.std.specs.Prelude.{◌&&◌, max}
use Rattle.std.proofs.lemmas.Bool.Decides.{nat_tests}
use Rattle.std.proofs.lemmas.List.{take_more}
use Rattle.gs_base.specs.declared.names.PeerNo.{PeerNo}
use Rattle.gs_base.specs.declared.names.Topic.{Topic}
use Rattle.gs_base.specs.declared.names.Millis.{Millis}
use Rattle.gs_base.specs.declared.mark.Mark.{Mark}
use Rattle.gs_base.specs.declared.mark.Mark.TheVariants.{Backoff}
use Rattle.gs_base.specs.Names.{same_peer, same_topic}
use Rattle.gs_mesh.specs.declared.topic_mesh.TopicMesh.{TopicMesh}
use Rattle.gs_mesh.specs.Backoffs.{later, until}
use Rattle.gs_mesh.specs.Meshes.{ChangesBackoffs, backoff_until, kept}
use Rattle.gs_rules.specs.Tables.{after_marks}
use Rattle.gs_rules.specs.Meshes.{backoff_after, fanout_after, mesh_after, published_after}
use Rattle.gs_router.specs.declared.tables.memberships.Memberships.{Memberships}
use Rattle.gs_router.specs.Tables.{HasMeshes}
use Rattle.gs_router.proofs.Ascending.{one_topic}
use Rattle.gs_router.proofs.Keeping.{marks_more}

-- peers with the same number are one
pub one_peer : (p q : PeerNo) → same_peer p q ≡ true → p ≡ q
one_peer p q is =
    let number : p.0 ≡ q.0 = grind (arith, nat_tests, is) in
    ap (λ (n : ℕ). record { 0 = n }) number

-- ---- a backoff

-- a neighbour is not to be grafted before this moment
pub barred : (old new : Memberships) (members fans : Topic → List PeerNo) (publishes : Topic → Option ℕ) (bars : PeerNo → Topic → ℕ) (p : PeerNo) (t : Topic) (end : Millis)
    → ((q : PeerNo) → backoff_until new.meshes q t ≡ (if same_peer p q then later end (backoff_until old.meshes p t) else backoff_until old.meshes q t))
    → ChangesBackoffs old.meshes new.meshes t
    → HasMeshes old members fans publishes bars
    → HasMeshes new members fans publishes (λ q u. backoff_after q u (Backoff p t end) (bars q u))
barred old new members fans publishes bars p t end notes rest has = record {
  members = λ u. ap (λ (m : TopicMesh). m.members) (rest u) ∙ same_members u (same_topic t u) refl ∙ has.members u;
  fans = λ u. ap (λ (m : TopicMesh). m.fanout) (rest u) ∙ same_fans u (same_topic t u) refl ∙ has.fans u;
  publishes = λ u. ap said (ap (λ (m : TopicMesh). m.last_published) (rest u) ∙ same_moment u (same_topic t u) refl) ∙ has.publishes u;
  bars = λ q u. by q u (same_topic t u) refl (same_peer p q) refl;
}
  where
    said : Option Millis → Option ℕ
    said o = option_map (λ (at : Millis). at.0) o

    changed : TopicMesh
    changed = record (kept old.meshes t) { backoffs = (kept new.meshes t).backoffs }

    same_members : (u : Topic) (same : Bool) → same_topic t u ≡ same → (if same then changed else kept old.meshes u).members ≡ (kept old.meshes u).members
    same_members u true is = ap (λ (v : Topic). (kept old.meshes v).members) (one_topic t u is)
    same_members u false is = refl

    same_fans : (u : Topic) (same : Bool) → same_topic t u ≡ same → (if same then changed else kept old.meshes u).fanout ≡ (kept old.meshes u).fanout
    same_fans u true is = ap (λ (v : Topic). (kept old.meshes v).fanout) (one_topic t u is)
    same_fans u false is = refl

    same_moment : (u : Topic) (same : Bool) → same_topic t u ≡ same → (if same then changed else kept old.meshes u).last_published ≡ (kept old.meshes u).last_published
    same_moment u true is = ap (λ (v : Topic). (kept old.meshes v).last_published) (one_topic t u is)
    same_moment u false is = refl

    elsewhere : (q : PeerNo) (u : Topic) → same_topic t u ≡ false → (backoff_until new.meshes q u).0 ≡ bars q u
    elsewhere q u is = ap (λ (m : TopicMesh). (until m.backoffs q).0) (rest u ∙ ap (λ (same : Bool). if same then changed else kept old.meshes u) is) ∙ has.bars q u

    by : (q : PeerNo) (u : Topic) (same : Bool) → same_topic t u ≡ same → (mine : Bool) → same_peer p q ≡ mine → (backoff_until new.meshes q u).0 ≡ (if mine && same then max end.0 (bars q u) else bars q u)
    by q u true is true mine =
        ap (λ (v : Topic). (backoff_until new.meshes q v).0) (sym (one_topic t u is))
        ∙ ap (λ (moment : Millis). moment.0) (notes q ∙ ap (λ (m : Bool). if m then later end (backoff_until old.meshes p t) else backoff_until old.meshes q t) mine)
        ∙ ap₂ (λ (r : PeerNo) (v : Topic). max end.0 (backoff_until old.meshes r v).0) (one_peer p q mine) (one_topic t u is)
        ∙ ap (max end.0) (has.bars q u)
    by q u true is false mine =
        ap (λ (v : Topic). (backoff_until new.meshes q v).0) (sym (one_topic t u is))
        ∙ ap (λ (moment : Millis). moment.0) (notes q ∙ ap (λ (m : Bool). if m then later end (backoff_until old.meshes p t) else backoff_until old.meshes q t) mine)
        ∙ ap (λ (v : Topic). (backoff_until old.meshes q v).0) (one_topic t u is)
        ∙ has.bars q u
    by q u false is true mine = elsewhere q u is
    by q u false is false mine = elsewhere q u is

-- ---- marks one by one

-- with these marks noted, the table has what they leave of what it had
abbrev pub Meshing : ℕ → List Mark → Memberships → Memberships → Type 0
Meshing at marks old new =
    (members fans : Topic → List PeerNo) (publishes : Topic → Option ℕ) (bars : PeerNo → Topic → ℕ)
    → HasMeshes old members fans publishes bars
    → HasMeshes new
    (λ t. after_marks (mesh_after t) marks (members t))
    (λ t. after_marks (fanout_after t) marks (fans t))
    (λ t. after_marks (published_after t at) marks (publishes t))
    (λ q t. after_marks (backoff_after q t) marks (bars q t))

-- who is where may be said in other words
has_alike : (table : Memberships) (members members' fans fans' : Topic → List PeerNo) (publishes publishes' : Topic → Option ℕ) (bars bars' : PeerNo → Topic → ℕ)
    → ((t : Topic) → members' t ≡ members t) → ((t : Topic) → fans' t ≡ fans t) → ((t : Topic) → publishes' t ≡ publishes t) → ((q : PeerNo) (t : Topic) → bars' q t ≡ bars q t)
    → HasMeshes table members fans publishes bars → HasMeshes table members' fans' publishes' bars'
has_alike table members members' fans fans' publishes publishes' bars bars' same_members same_fans same_moments same_bars has = record {
  members = λ t. has.members t ∙ sym (same_members t);
  fans = λ t. has.fans t ∙ sym (same_fans t);
  publishes = λ t. has.publishes t ∙ sym (same_moments t);
  bars = λ q t. has.bars q t ∙ sym (same_bars q t);
}

-- one more was noted
pub meshed_more : (at : ℕ) (marks : List Mark) (i : ℕ) (mark : Mark) (old now new : Memberships) → i < length marks → mark ≡ get_or marks i mark
    → ((members fans : Topic → List PeerNo) (publishes : Topic → Option ℕ) (bars : PeerNo → Topic → ℕ)
    → HasMeshes now members fans publishes bars
    → HasMeshes new (λ t. mesh_after t mark (members t)) (λ t. fanout_after t mark (fans t)) (λ t. published_after t at mark (publishes t)) (λ q t. backoff_after q t mark (bars q t)))
    → Meshing at (take i marks) old now → Meshing at (take (i + 1) marks) old new
meshed_more at marks i mark old now new below is one meshing =
    subst (λ (ms : List Mark). Meshing at ms old new) (sym (take_more marks i mark below ∙ ap (λ (x : Mark). take i marks ++ x ∷ []) (sym is)))
    (λ members fans publishes bars has.
    let front : List Mark = take i marks in
    has_alike new _ _ _ _ _ _ _ _
    (λ t. marks_more (mesh_after t) front mark (members t))
    (λ t. marks_more (fanout_after t) front mark (fans t))
    (λ t. marks_more (published_after t at) front mark (publishes t))
    (λ q t. marks_more (backoff_after q t) front mark (bars q t))
    (one _ _ _ _ (meshing members fans publishes bars has)))
