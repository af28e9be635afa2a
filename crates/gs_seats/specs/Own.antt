-- What in a plan concerns one peer.
use Rattle.std.specs.Prelude.{◌≡◌, ◌<◌, Bool, ◌||◌, ℕ, ℤ, pos, List, Vec, filter, find, length, option_map, unwrap_or}
use Rattle.std.specs.List.{list_any}
use Rattle.std.specs.BTreeMap.{get}
use Rattle.std.specs.BTreeSet.{contains}
use Rattle.std.specs.Ordering.{nat_cmp}
use Rattle.std.specs.declared.alloc.Global.{Global}
use Rattle.gs_base.specs.declared.neighbour.Neighbour.{Neighbour}
use Rattle.gs_base.specs.Names.{same_peer}
use Rattle.gs_base.specs.declared.names.PeerNo.{PeerNo}
use Rattle.gs_plan.specs.declared.plan.App.{App}
use Rattle.gs_plan.specs.declared.plan.Dial.{Dial}
use Rattle.gs_plan.specs.declared.plan.Explicit.{Explicit}
use Rattle.gs_plan.specs.declared.plan.Plan.{Plan}
use Rattle.gs_seats.specs.declared.known.Known.{Known}
use Rattle.gs_seats.specs.declared.neighbourhoods.Neighbourhoods.{Neighbourhoods}
use Rattle.gs_seats.specs.ListsByPeer.{list_at}
use Rattle.gs_seats.specs.Rounds.{is_about, is_agreed, is_dial}

-- the peer dials, or is dialled
abbrev pub is_dial_of : PeerNo → Dial → Bool
is_dial_of p dial = same_peer dial.from p || same_peer dial.to p

-- the peer's application gives the score
abbrev pub is_score_of : PeerNo → App → Bool
is_score_of p app = same_peer app.peer p

-- the peer has the agreement
abbrev pub is_agreement_of : PeerNo → Explicit → Bool
is_agreement_of p agreement = same_peer agreement.peer p

-- the score that p's application gives q among these, and 0 where there is none
abbrev pub score_in : List App → PeerNo → PeerNo → ℤ
score_in apps p q = unwrap_or (option_map (λ (app : App). app.value) (find (is_about p q) apps)) (pos 0)

-- q as a neighbour of p, by some of a plan's dials, scores and agreements
abbrev pub neighbour_by : List Dial → List App → List Explicit → (address : List ℕ) → PeerNo → PeerNo → Neighbour
neighbour_by dials apps explicit address p q = record {
  peer = q;
  outbound = list_any (is_dial p q) dials;
  address = address;
  app = score_in apps p q;
  explicit = list_any (is_agreed p q) explicit;
}

-- q as a neighbour, by what is known of it
abbrev pub known_neighbour : Known → (address : List ℕ) → PeerNo → Neighbour
known_neighbour known address q = record {
  peer = q;
  outbound = contains nat_cmp known.dialled q.0;
  address = address;
  app = unwrap_or (get nat_cmp known.scores q.0) (pos 0);
  explicit = contains nat_cmp known.agreed q.0;
}

-- ---- what concerns each peer

-- Each peer below a count has a list of the parts that concern it, in their order.
pub record AreByPeer {A : Type 0} (is_of : PeerNo → A → Bool) (count : ℕ) (parts : List A)
    (lists : List (Vec A Global)) : Type 0 where
  pub many : length lists ≡ count
  pub own : (p : PeerNo) → p.0 < count → list_at lists p.0 ≡ filter (is_of p) parts

-- For each peer of the plan these are its dials, the scores that its application gives, and its agreements.
pub record AreNeighbourhoods (plan : Plan) (all : Neighbourhoods) : Type 0 where
  pub dials : AreByPeer is_dial_of (length plan.peers) plan.dials all.dials.items
  pub apps : AreByPeer is_score_of (length plan.peers) plan.apps all.apps.items
  pub explicit : AreByPeer is_agreement_of (length plan.peers) plan.explicit all.explicit.items
