-- One dial more is settled.
use Rattle.std.proofs.Common.{◌≡◌, ◌≢◌, ℕ, ◌+◌, ◌*◌, ◌<◌, true, List, [], ◌∷◌, ◌++◌, map, length, refl, sym, ap, ◌∙◌, subst, append_assoc, append-nil, arith, Vec}
use Rattle.std.specs.Prelude.{All}
use Rattle.std.specs.List.{AllByRecursion, IsDistinct}
use Rattle.std.proofs.lemmas.List.{map-append}
use Rattle.std.proofs.lemmas.List.Elements.{recursion_from_All}
use Rattle.std.specs.declared.alloc.Global.{Global}
use Rattle.gs_base.specs.declared.names.PeerNo.{PeerNo}
use Rattle.gs_base.specs.Names.{same_peer}
use Rattle.gs_plan.specs.declared.plan.Dial.{Dial}
use Rattle.gs_link.specs.Runs.{closes}
use Rattle.gs_ends.specs.Ends.{Joint, linked}
use Rattle.gs_ends.specs.Pairs.{Pair, accepted_for, joint_of, joints_of, peers_in, taken_from}
use Rattle.gs_seats.specs.ListsByPeer.{list_at}
use Rattle.gs_net.specs.Dials.{Dialled, gives, assigned, AreWired, AtEach, IsClosed, IsExchanged, JoinsTwoOf}
use Rattle.gs_net.proofs.Giving.{gives_from, gives_to, gives_none, assigned-append, at_each, numbers_apart}
use Rattle.gs_net.proofs.LastOnes.{all_last, last_is_some, last_parts, map_last}
use Rattle.gs_net.proofs.Standing.{StandsIn, each_stands}

-- What holds while some dials are still to be settled: `whole` are the ends at first, `lists` those that are left.
pub record Settling (all : List Dial) (whole : List (Vec Pair Global)) (todo : List Dial) (lists : List (Vec Pair Global)) (settled : ℕ) : Type 0 where
  pub done : List Dial
  pub parts : all ≡ todo ++ done
  pub so_far : AllByRecursion (IsExchanged whole) done
  pub count : settled ≡ 2 * length done
  pub named : AllByRecursion (JoinsTwoOf (length lists)) todo
  pub wired : AreWired todo lists
  pub stand : (p : PeerNo) → AllByRecursion (StandsIn (list_at whole p.0)) (list_at lists p.0)

pub none_settled : (all : List Dial) (whole : List (Vec Pair Global)) → All (JoinsTwoOf (length whole)) all → AreWired all whole → ((p : PeerNo) → IsDistinct same_peer (peers_in (list_at whole p.0))) → AtEach IsClosed whole → Settling all whole all whole 0
none_settled all whole named wired apart closed = record {
  done = [];
  parts = sym (append-nil all);
  so_far = tt;
  count = refl;
  named = recursion_from_All (JoinsTwoOf (length whole)) all named;
  wired = wired;
  stand = λ p. each_stands (list_at whole p.0) (apart p) (closed p);
}

-- a list of ends whose last was taken, and what the last dial gave
module _ (front : List Dialled) (last : Dialled) (p : PeerNo) (pairs : List Pair) (joints : joints_of pairs ≡ assigned (front ++ last ∷ []) p) where
  by_last : (given : List Joint) → gives last p ≡ given → joints_of pairs ≡ assigned front p ++ given
  by_last given is = joints ∙ assigned-append front (last ∷ []) p ∙ ap (λ l. assigned front p ++ l) (append-nil (gives last p) ∙ is)

  last_joint : (left : List Pair) (pair : Pair) (joint : Joint) → gives last p ≡ joint ∷ [] → pairs ≡ left ++ pair ∷ [] → (joints_of left ≡ assigned front p) × (joint_of pair ≡ joint)
  last_joint left pair joint is taken = last_parts (joints_of left) (assigned front p) (joint_of pair) joint (sym (map-append joint_of left (pair ∷ [])) ∙ ap joints_of (sym taken) ∙ by_last (joint ∷ []) is)

  nothing_given : gives last p ≡ [] → joints_of pairs ≡ assigned front p
  nothing_given is = by_last [] is ∙ append-nil (assigned front p)

  something_stands : (joint : Joint) → gives last p ≡ joint ∷ [] → pairs ≢ []
  something_stands joint is none = last_is_some (assigned front p) joint (sym (ap joints_of (sym none) ∙ by_last (joint ∷ []) is))

module _ (all todo rest : List Dial) (dial : Dial) (whole lists : List (Vec Pair Global)) (settled : ℕ) (was : Settling all whole todo lists settled) (pop : todo ≡ rest ++ dial ∷ []) where
  split : (front : List Dialled) × (last : Dialled) × (was.wired.dialled ≡ front ++ last ∷ []) × (map (λ d. d.dial) front ≡ rest) × (last.dial ≡ dial)
  split = map_last (λ d. d.dial) was.wired.dialled rest dial (was.wired.of_dials ∙ pop)

  ranges : AllByRecursion (JoinsTwoOf (length lists)) rest × JoinsTwoOf (length lists) dial
  ranges = all_last (JoinsTwoOf (length lists)) rest dial (subst (AllByRecursion (JoinsTwoOf (length lists))) pop was.named)

  differ : dial.from.0 ≢ dial.to.0
  differ = numbers_apart dial.from dial.to ranges.1.2

  abbrev from_joint : Joint
  from_joint = linked dial.to split.1.there split.1.back

  abbrev to_joint : Joint
  to_joint = linked dial.from split.1.back split.1.there

  from_gives : gives split.1 dial.from ≡ from_joint ∷ []
  from_gives = subst (λ (x : Dial). gives split.1 x.from ≡ linked x.to split.1.there split.1.back ∷ []) split.4 (gives_from split.1)

  to_gives : gives split.1 dial.to ≡ to_joint ∷ []
  to_gives = subst (λ (x : Dial). gives split.1 x.to ≡ linked x.from split.1.back split.1.there ∷ []) split.4 (gives_to split.1 (subst (λ (x : Dial). x.from.0 ≢ x.to.0) (sym split.4) differ))

  none_gives : (r : PeerNo) → r.0 ≢ dial.from.0 → r.0 ≢ dial.to.0 → gives split.1 r ≡ []
  none_gives r a b = gives_none split.1 r (λ e. a (e ∙ ap (λ (x : Dial). x.from.0) split.4)) (λ e. b (e ∙ ap (λ (x : Dial). x.to.0) split.4))

  joints_at : (r : PeerNo) → joints_of (list_at lists r.0) ≡ assigned (split.0 ++ split.1 ∷ []) r
  joints_at r = was.wired.joints r ∙ ap (λ l. assigned l r) split.2

  pub from_within : dial.from.0 < length lists
  from_within = ranges.1.0

  pub to_within : dial.to.0 < length lists
  to_within = ranges.1.1

  pub from_stands : list_at lists dial.from.0 ≢ []
  from_stands = something_stands split.0 split.1 dial.from _ (joints_at dial.from) from_joint from_gives

  -- the ends of the peer that dials were taken
  module _ (mid : List (Vec Pair Global)) (one : Pair) (taken : list_at lists dial.from.0 ≡ list_at mid dial.from.0 ++ one ∷ []) (others : (n : ℕ) → n ≢ dial.from.0 → list_at mid n ≡ list_at lists n) where
    apart : dial.to.0 ≢ dial.from.0
    apart e = differ (sym e)

    pub to_stands : list_at mid dial.to.0 ≢ []
    to_stands e = something_stands split.0 split.1 dial.to _ (joints_at dial.to) to_joint to_gives (sym (others dial.to.0 apart) ∙ e)

    one_joint : (joints_of (list_at mid dial.from.0) ≡ assigned split.0 dial.from) × (joint_of one ≡ from_joint)
    one_joint = last_joint split.0 split.1 dial.from _ (joints_at dial.from) _ one from_joint from_gives taken

    one_stands : AllByRecursion (StandsIn (list_at whole dial.from.0)) (list_at mid dial.from.0) × StandsIn (list_at whole dial.from.0) one
    one_stands = all_last (StandsIn (list_at whole dial.from.0)) _ one (subst (AllByRecursion (StandsIn (list_at whole dial.from.0))) taken (was.stand dial.from))

    -- and then the other's
    module _ (new : List (Vec Pair Global)) (other : Pair) (taken' : list_at mid dial.to.0 ≡ list_at new dial.to.0 ++ other ∷ []) (others' : (n : ℕ) → n ≢ dial.to.0 → list_at new n ≡ list_at mid n) where
      taken_to : list_at lists dial.to.0 ≡ list_at new dial.to.0 ++ other ∷ []
      taken_to = sym (others dial.to.0 apart) ∙ taken'

      other_joint : (joints_of (list_at new dial.to.0) ≡ assigned split.0 dial.to) × (joint_of other ≡ to_joint)
      other_joint = last_joint split.0 split.1 dial.to _ (joints_at dial.to) _ other to_joint to_gives taken_to

      other_stands : AllByRecursion (StandsIn (list_at whole dial.to.0)) (list_at new dial.to.0) × StandsIn (list_at whole dial.to.0) other
      other_stands = all_last (StandsIn (list_at whole dial.to.0)) _ other (subst (AllByRecursion (StandsIn (list_at whole dial.to.0))) taken_to (was.stand dial.to))

      pub one_link : other.2.link ≡ one.1.link
      one_link = ap (λ (j : Joint). j.from) other_joint.1 ∙ sym (ap (λ (j : Joint). j.to) one_joint.1)

      pub other_link : one.2.link ≡ other.1.link
      other_link = ap (λ (j : Joint). j.from) one_joint.1 ∙ sym (ap (λ (j : Joint). j.to) other_joint.1)

      pub one_closed : closes other.2.taken ≡ true
      one_closed = other_stands.1.closed

      pub other_closed : closes one.2.taken ≡ true
      other_closed = one_stands.1.closed

      exchanged : one.1.accepted ≡ other.2.taken → other.1.accepted ≡ one.2.taken → IsExchanged whole dial
      exchanged there back =
          let one_peer : one.0 ≡ dial.to = ap (λ (j : Joint). j.peer) one_joint.1 in
          let other_peer : other.0 ≡ dial.from = ap (λ (j : Joint). j.peer) other_joint.1 in
          let a = one_stands.1 in
          let b = other_stands.1 in (
            ap (accepted_for (list_at whole dial.from.0)) (sym one_peer) ∙ a.accepted ∙ there ∙ sym b.taken ∙ ap (taken_from (list_at whole dial.to.0)) other_peer,
            ap (accepted_for (list_at whole dial.to.0)) (sym other_peer) ∙ b.accepted ∙ back ∙ sym a.taken ∙ ap (taken_from (list_at whole dial.from.0)) one_peer,
          )

      left_at : (P : PeerNo → List Pair → Type 0) → P dial.from (list_at mid dial.from.0) → P dial.to (list_at new dial.to.0) → ((r : PeerNo) → r.0 ≢ dial.from.0 → r.0 ≢ dial.to.0 → P r (list_at lists r.0)) → (r : PeerNo) → P r (list_at new r.0)
      left_at P from to rest = at_each (λ r. P r (list_at new r.0)) dial
          (subst (P dial.from) (sym (others' dial.from.0 differ)) from) to
          (λ r a b. subst (P r) (sym (others' r.0 b ∙ others r.0 a)) (rest r a b))

      pub settled_more : length new ≡ length lists → one.1.accepted ≡ other.2.taken → other.1.accepted ≡ one.2.taken → (n : ℕ) → n ≡ 2 → Settling all whole rest new (settled + n)
      settled_more same there back n two = record {
        done = dial ∷ was.done;
        parts = was.parts ∙ ap (λ l. l ++ was.done) pop ∙ append_assoc rest (dial ∷ []) was.done;
        so_far = (exchanged there back, was.so_far);
        count = let c = was.count in omega (arith, c, two);
        named = subst (λ n. AllByRecursion (JoinsTwoOf n) rest) (sym same) ranges.0;
        wired = record {
          dialled = split.0;
          of_dials = split.3;
          joints = left_at (λ r l. joints_of l ≡ assigned split.0 r) one_joint.0 other_joint.0 (λ r a b. nothing_given split.0 split.1 r _ (joints_at r) (none_gives r a b));
        };
        stand = left_at (λ r l. AllByRecursion (StandsIn (list_at whole r.0)) l) one_stands.0 other_stands.0 (λ r a b. was.stand r);
      }
