-- What is known of the ends of links that a plan's dials were wired with, before a run and after it.
use Rattle.std.proofs.Common.{◌≡◌, ◌<◌, ℕ, Bool, true, false, ◌||◌, if◌then◌else◌, List, [], ◌∷◌, ◌++◌, length, map, Option, None, Some, refl, sym, ap, ap₂, subst, subst₂, ◌∙◌, Vec}
use Rattle.std.specs.Prelude.{option_map, unwrap_or, slice_get}
use Rattle.std.specs.List.{list_any, All, AllPairs, AllZip, AllByRecursion, IsDistinct}
use Rattle.std.specs.declared.alloc.Global.{Global}
use Rattle.std.proofs.lemmas.List.{map-append}
use Rattle.std.proofs.lemmas.List.FromFn.{length-map-range_with_len}
use Rattle.std.proofs.lemmas.Option.{slice_get_within}
use Rattle.std.proofs.lemmas.Slice.Zip.{AllZip-long}
use Rattle.gs_base.specs.declared.names.PeerNo.{PeerNo}
use Rattle.gs_base.specs.Names.{same_peer}
use Rattle.gs_plan.specs.declared.plan.Dial.{Dial}
use Rattle.gs_plan.specs.declared.plan.Plan.{Plan}
use Rattle.gs_plan.specs.Plans.{IsInRange, join_the_same}
use Rattle.gs_link.specs.Runs.{closes}
use Rattle.gs_ends.specs.Ends.{Joint, has, linked}
use Rattle.gs_ends.specs.Pairs.{Pair, accepted_for, joints_of, peers_in, taken_from}
use Rattle.gs_seats.specs.ListsByPeer.{list_at}
use Rattle.gs_net.specs.Dials.{AreWired, AtEach, Dialled, HasCapacity, HasReached, IsClosed, IsExchanged, IsFresh, JoinsTwoOf, assigned, gives}
use Rattle.gs_net.specs.Given.{Exchanged, Given, GivenLife, Reaches, ends_at}
use Rattle.gs_seats.specs.Rounds.{neighbours, numbers, peer_no}
use Rattle.gs_net.specs.Tasks.{AreUsable}
use Rattle.gs_seats.proofs.ByNumber.{at_number}
use Rattle.gs_rules.proofs.Each.{each_weaker}
use Rattle.gs_seats.proofs.Joined.{IsJoined, of_joined}
use Rattle.gs_net.proofs.Partners.{neighbours_are_partners, partners, partners_apart, partners_joined, partners_of}
use Rattle.gs_net.proofs.Seats.{each_closed}
use Rattle.gs_net.proofs.Standing.{closed_by_neighbour}

-- each dial of a plan in range joins two of its peers
pub dials_join : (plan : Plan) → IsInRange plan → All (JoinsTwoOf (length plan.peers)) plan.dials
dials_join plan range = λ k d within. (range.dials_from k d within, range.dials_to k d within, range.dials_to_others k d within)

-- ---- whose ends there are

gives_partner : (d : Dialled) (p : PeerNo) → map (λ (joint : Joint). joint.peer) (gives d p) ≡ partners_of p d.dial
gives_partner d p = by (same_peer d.dial.from p) (same_peer d.dial.to p)
  where
    by : (a b : Bool) → map (λ (joint : Joint). joint.peer) (if a then linked d.dial.to d.there d.back ∷ [] else (if b then linked d.dial.from d.back d.there ∷ [] else [])) ≡ (if a then d.dial.to ∷ [] else (if b then d.dial.from ∷ [] else []))
    by true b = refl
    by false true = refl
    by false false = refl

assigned_partners : (dialled : List Dialled) (p : PeerNo) → map (λ (joint : Joint). joint.peer) (assigned dialled p) ≡ partners (map (λ (d : Dialled). d.dial) dialled) p
assigned_partners [] p = refl
assigned_partners (d ∷ dialled) p =
    map-append (λ (joint : Joint). joint.peer) (gives d p) (assigned dialled p)
    ∙ ap₂ (λ (qs rs : List PeerNo). qs ++ rs) (gives_partner d p) (assigned_partners dialled p)

peers_of_joints : (pairs : List Pair) → map (λ (joint : Joint). joint.peer) (joints_of pairs) ≡ peers_in pairs
peers_of_joints [] = refl
peers_of_joints (pair ∷ pairs) = ap (λ (qs : List PeerNo). pair.0 ∷ qs) (peers_of_joints pairs)

joints_partners : (dials : List Dial) (lists : List (Vec Pair Global)) (p : PeerNo) → AreWired dials lists → map (λ (joint : Joint). joint.peer) (joints_of (list_at lists p.0)) ≡ partners dials p
joints_partners dials lists p wired =
    ap (map (λ (joint : Joint). joint.peer)) (wired.joints p) ∙ assigned_partners wired.dialled p ∙ ap (λ (ds : List Dial). partners ds p) wired.of_dials

-- a peer has ends to and from those that its dials join it to, in their order
pub ends_partners : (dials : List Dial) (lists : List (Vec Pair Global)) (p : PeerNo) → AreWired dials lists → peers_in (list_at lists p.0) ≡ partners dials p
ends_partners dials lists p wired = sym (peers_of_joints (list_at lists p.0)) ∙ joints_partners dials lists p wired

has_as_any : (joints : List Joint) (q : PeerNo) → has joints q ≡ list_any (λ (r : PeerNo). same_peer r q) (map (λ (joint : Joint). joint.peer) joints)
has_as_any [] q = refl
has_as_any (joint ∷ joints) q = ap (λ (b : Bool). same_peer joint.peer q || b) (has_as_any joints q)

-- where no two dials join the same peers, no peer has ends of one neighbour twice
pub none_twice : (dials : List Dial) (lists : List (Vec Pair Global)) → AreWired dials lists → AllPairs (λ x y. join_the_same y x ≡ false) dials → (p : PeerNo) → IsDistinct same_peer (peers_in (list_at lists p.0))
none_twice dials lists wired differ p = subst (IsDistinct same_peer) (sym (ends_partners dials lists p wired)) (partners_apart dials p differ)

-- so it is where a plan in range was wired
pub ends_apart : (plan : Plan) (lists : List (Vec Pair Global)) (p : PeerNo) → IsInRange plan → AreWired plan.dials lists → IsDistinct same_peer (peers_in (list_at lists p.0))
ends_apart plan lists p range wired = none_twice plan.dials lists wired range.dials_differ p

-- the ends that a plan's dials give a peer serve its task
pub usable : (plan : Plan) (lists : List (Vec Pair Global)) (p : PeerNo) → IsInRange plan → AreWired plan.dials lists → AtEach (HasCapacity plan.capacity) lists → AtEach IsFresh lists → AreUsable plan p (list_at lists p.0)
usable plan lists p range wired sized fresh =
    let joints : List Joint = joints_of (list_at lists p.0) in
    record {
      known = each_weaker (λ q. list_any (λ (r : PeerNo). same_peer r q) (partners plan.dials p) ≡ true) (λ q. has joints q ≡ true) (λ q is. has_as_any joints q ∙ ap (list_any (λ (r : PeerNo). same_peer r q)) (joints_partners plan.dials lists p wired) ∙ is) (neighbours plan p) (neighbours_are_partners plan p);
      apart = ends_apart plan lists p range wired;
      sized = sized p;
      fresh = fresh p;
    }

-- ---- after a run

closed_at : (plan : Plan) (p : PeerNo) (f : Given) → IsInRange plan → GivenLife plan p f → peers_in f.ends ≡ partners plan.dials p → AllByRecursion IsClosed f.ends
closed_at plan p f range life are =
    let by_neighbour : AllByRecursion (λ q. closes (taken_from f.ends q) ≡ true) (partners plan.dials p) = each_weaker (IsJoined plan p) (λ q. closes (taken_from f.ends q) ≡ true) (λ q joined. of_joined (λ (r : PeerNo). closes (taken_from f.ends r) ≡ true) plan p q joined (each_closed plan p f life)) (partners plan.dials p) (partners_joined plan p range) in
    closed_by_neighbour f.ends (subst (IsDistinct same_peer) (sym are) (partners_apart plan.dials p range.dials_differ)) (subst (AllByRecursion (λ q. closes (taken_from f.ends q) ≡ true)) (sym are) by_neighbour)

abbrev held : Option Given → List Pair
held o = unwrap_or (option_map (λ (f : Given). f.ends) o) []

-- each end that takes has taken the close
pub ends_closed : (plan : Plan) (givens : List Given) (lists : List (Vec Pair Global)) → IsInRange plan → AllZip (GivenLife plan) (numbers plan) givens → ((n : ℕ) → list_at lists n ≡ ends_at givens n) → AreWired plan.dials lists → AtEach IsClosed lists
ends_closed plan givens lists range lives are wired p = by (slice_get givens p.0) refl
  where
    by : (o : Option Given) → slice_get givens p.0 ≡ o → AllByRecursion IsClosed (list_at lists p.0)
    by None is = subst (AllByRecursion IsClosed) (sym (are p.0 ∙ ap held is)) tt
    by (Some f) is =
        let count : length givens ≡ length plan.peers = AllZip-long (GivenLife plan) (numbers plan) givens lives ∙ length-map-range_with_len peer_no 0 (length plan.peers) in
        let one = at_number (GivenLife plan) plan p givens (subst (λ (n : ℕ). p.0 < n) count (slice_get_within givens p.0 f is)) lives in
        let here : list_at lists p.0 ≡ one.0.ends = are p.0 ∙ ap held one.1 in
        subst (AllByRecursion IsClosed) (sym here) (closed_at plan p one.0 range one.2 (ap peers_in (sym here) ∙ ends_partners plan.dials lists p wired))

-- what the settled links say, said of the lives
pub ends_exchanged : (givens : List Given) (lists : List (Vec Pair Global)) (dials : List Dial) → ((n : ℕ) → list_at lists n ≡ ends_at givens n) → AllByRecursion (IsExchanged lists) dials → AllByRecursion (Exchanged givens) dials
ends_exchanged givens lists dials are exchanged = each_weaker (IsExchanged lists) (Exchanged givens) (λ dial h. (reached dial.from dial.to h.0, reached dial.to dial.from h.1)) dials exchanged
  where
    reached : (p q : PeerNo) → HasReached lists p q → Reaches givens p q
    reached p q h = subst₂ (λ (a b : List Pair). accepted_for a q ≡ taken_from b p) (are p.0) (are q.0) h
