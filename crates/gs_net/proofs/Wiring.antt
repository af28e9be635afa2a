-- One dial more is wired.
use Rattle.std.proofs.Common.{◌≡◌, ◌≢◌, ℕ, List, [], ◌∷◌, ◌++◌, refl, sym, ap, ◌∙◌, subst, append-nil, Vec}
use Rattle.std.specs.List.{AllByRecursion}
use Rattle.std.proofs.lemmas.List.{map-append}
use Rattle.std.specs.declared.alloc.Global.{Global}
use Rattle.gs_base.specs.declared.names.PeerNo.{PeerNo}
use Rattle.gs_plan.specs.declared.plan.Dial.{Dial}
use Rattle.gs_ends.specs.Ends.{linked}
use Rattle.gs_ends.specs.Pairs.{Pair, joint_of, joints_of}
use Rattle.gs_seats.specs.ListsByPeer.{list_at}
use Rattle.gs_net.specs.Dials.{Dialled, gives, assigned, AreWired, AtEach, HasCapacity, IsFresh, IsWiredOn}
use Rattle.gs_net.proofs.Giving.{gives_from, gives_to, gives_none, assigned-append, at_each}

pub all_push : {A : Type 0} (P : A → Type 0) (xs : List A) (x : A) → AllByRecursion P xs → P x → AllByRecursion P (xs ++ x ∷ [])
all_push P [] x all p = (p, tt)
all_push P (y ∷ xs) x all p = (all.0, all_push P xs x all.1 p)

-- what a list of ends becomes, if one pair more stands after it
grown : (old new : List Pair) (pair : Pair) → new ≡ old ++ pair ∷ [] → joints_of new ≡ joints_of old ++ joint_of pair ∷ []
grown old new pair is = ap joints_of is ∙ map-append joint_of old (pair ∷ [])

-- a dial, by the ends of the peer that dials
abbrev by : Dial → Pair → Dialled
by dial one = record { dial = dial; there = one.1.link; back = one.2.link }

-- the ends stand in their places: those of the peer that dials, and then the other's
module _ (dial : Dial) (old mid new : List (Vec Pair Global)) (one other : Pair) (apart : dial.from.0 ≢ dial.to.0)
    (put : list_at mid dial.from.0 ≡ list_at old dial.from.0 ++ one ∷ []) (others : (n : ℕ) → n ≢ dial.from.0 → list_at mid n ≡ list_at old n)
    (put' : list_at new dial.to.0 ≡ list_at mid dial.to.0 ++ other ∷ []) (others' : (n : ℕ) → n ≢ dial.to.0 → list_at new n ≡ list_at mid n) where
  at_from : list_at new dial.from.0 ≡ list_at old dial.from.0 ++ one ∷ []
  at_from = others' dial.from.0 apart ∙ put

  at_to : list_at new dial.to.0 ≡ list_at old dial.to.0 ++ other ∷ []
  at_to = put' ∙ ap (λ l. l ++ other ∷ []) (others dial.to.0 (λ e. apart (sym e)))

  at_other : (r : PeerNo) → r.0 ≢ dial.from.0 → r.0 ≢ dial.to.0 → list_at new r.0 ≡ list_at old r.0
  at_other r a b = others' r.0 b ∙ others r.0 a

  holds_on : (P : Pair → Type 0) → P one → P other → AtEach P old → AtEach P new
  holds_on P first second before = at_each (λ r. AllByRecursion P (list_at new r.0)) dial
      (subst (AllByRecursion P) (sym at_from) (all_push P (list_at old dial.from.0) one (before dial.from) first))
      (subst (AllByRecursion P) (sym at_to) (all_push P (list_at old dial.to.0) other (before dial.to) second))
      (λ r a b. subst (AllByRecursion P) (sym (at_other r a b)) (before r))

  pub wired_on : (capacity : ℕ) → one.0 ≡ dial.to → other.0 ≡ dial.from → other.2.link ≡ one.1.link → one.2.link ≡ other.1.link
      → HasCapacity capacity one → HasCapacity capacity other → IsFresh one → IsFresh other → IsWiredOn capacity dial old new
  wired_on capacity one_is other_is there back one_sized other_sized one_fresh other_fresh = record {
    dialled = by dial one;
    of_dial = refl;
    joints = at_each (λ r. joints_of (list_at new r.0) ≡ joints_of (list_at old r.0) ++ gives (by dial one) r) dial
        (grown _ _ one at_from ∙ ap (λ q. joints_of (list_at old dial.from.0) ++ linked q one.1.link one.2.link ∷ []) one_is ∙ ap (λ l. joints_of (list_at old dial.from.0) ++ l) (sym (gives_from (by dial one))))
        (grown _ _ other at_to ∙ (λ i. joints_of (list_at old dial.to.0) ++ linked (other_is i) (sym back i) (there i) ∷ []) ∙ ap (λ l. joints_of (list_at old dial.to.0) ++ l) (sym (gives_to (by dial one) apart)))
        (λ r a b. ap joints_of (at_other r a b) ∙ sym (ap (λ l. joints_of (list_at old r.0) ++ l) (gives_none (by dial one) r a b) ∙ append-nil (joints_of (list_at old r.0))));
    sized = holds_on (HasCapacity capacity) one_sized other_sized;
    fresh = holds_on IsFresh one_fresh other_fresh;
  }

-- one dial more is wired
pub wired_more : (capacity : ℕ) (dials : List Dial) (dial : Dial) (all : List Dial) (old new : List (Vec Pair Global)) → all ≡ dials ++ dial ∷ [] → AreWired dials old → IsWiredOn capacity dial old new → AreWired all new
wired_more capacity dials dial all old new is was one = record {
  dialled = was.dialled ++ one.dialled ∷ [];
  of_dials = map-append (λ (d : Dialled). d.dial) was.dialled (one.dialled ∷ []) ∙ (λ i. was.of_dials i ++ one.of_dial i ∷ []) ∙ sym is;
  joints = λ p. one.joints p ∙ ap (λ l. l ++ gives one.dialled p) (was.joints p) ∙ sym (assigned-append was.dialled (one.dialled ∷ []) p ∙ ap (λ l. assigned was.dialled p ++ l) (append-nil (gives one.dialled p)));
}

-- whatever went over them, the ends are those of the dials as long as they are of the same links
pub still_wired : (dials : List Dial) (old new : List (Vec Pair Global)) → ((p : PeerNo) → joints_of (list_at new p.0) ≡ joints_of (list_at old p.0)) → AreWired dials old → AreWired dials new
still_wired dials old new same was = record {
  dialled = was.dialled;
  of_dials = was.of_dials;
  joints = λ p. same p ∙ was.joints p;
}
