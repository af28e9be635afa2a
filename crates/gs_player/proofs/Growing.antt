-- Rounds that were played stay played when more is said.
use Rattle.std.proofs.Common.{◌≡◌, ℕ, zero, suc, pred, true, List, [], ◌∷◌, ◌++◌, sym, subst}
use Rattle.std.specs.List.{AllByRecursion, AllZip}
use Rattle.gs_base.specs.declared.names.PeerNo.{PeerNo}
use Rattle.gs_base.specs.Tokens.{Said}
use Rattle.gs_rules.specs.declared.refusal.RefusedLine.{RefusedLine}
use Rattle.gs_rules.specs.Peers.{links_of}
use Rattle.gs_rules.specs.Tables.{Entries}
use Rattle.gs_rules.specs.Hearing.{Inbound}
use Rattle.gs_rules.specs.Rounds.{Seat, Playing, AfterRounds, ComesAt}
use Rattle.gs_rules.proofs.Each.{each_weaker}
use Rattle.gs_player.specs.Ended.{whole}
use Rattle.gs_player.proofs.Words.{comes_stays, whole_before}

-- a neighbour whose first n rounds have ended has said more
abbrev pub GoesOn : ℕ → (PeerNo → Said) → (PeerNo → Said) → PeerNo → Type 0
GoesOn n said said' q = (whole n (said q) ≡ true) × (more : Said) × (said' q ≡ said q ++ more)

whole_pred : (r : ℕ) (w : Said) → whole r w ≡ true → whole (pred r) w ≡ true
whole_pred zero w h = h
whole_pred (suc r) w h = whole_before r w h

goes_on_before : (r : ℕ) (said said' : PeerNo → Said) (qs : List PeerNo) → AllByRecursion (GoesOn r said said') qs → AllByRecursion (GoesOn (pred r) said said') qs
goes_on_before r said said' qs h = each_weaker (GoesOn r said said') (GoesOn (pred r) said said') (λ q (is, more, says). (whole_pred r (said q) is, more, says)) qs h

each_comes : (seat : Seat) (r : ℕ) (said said' : PeerNo → Said) (qs : List PeerNo) (xs : List Inbound)
    → AllByRecursion (GoesOn r said said') qs
    → AllZip (λ q x. ComesAt seat (Playing r) (said q) x) qs xs
    → AllZip (λ q x. ComesAt seat (Playing r) (said' q) x) qs xs
each_comes seat r said said' [] [] on h = h
each_comes seat r said said' [] (x ∷ xs) on h = h
each_comes seat r said said' (q ∷ qs) [] on h = h
each_comes seat r said said' (q ∷ qs) (x ∷ xs) on h = (
  subst (λ (w : Said). ComesAt seat (Playing r) w x) (sym on.0.2) (comes_stays r (said q) on.0.1 x on.0.0 h.0),
  each_comes seat r said said' qs xs on.1 h.1,
)

pub rounds_stay : (seat : Seat) (r : ℕ) (said said' : PeerNo → Said) (L : Entries) (refused : List RefusedLine)
    → AllByRecursion (GoesOn (pred r) said said') (links_of seat.peer)
    → AfterRounds seat said r L refused
    → AfterRounds seat said' r L refused
rounds_stay seat zero said said' L refused on h = h
rounds_stay seat (suc r) said said' L refused on (K, earlier, more, before, plays, is) = (
  K,
  earlier,
  more,
  rounds_stay seat r said said' K earlier (goes_on_before r said said' (links_of seat.peer) on) before,
  record {
    inbound = plays.inbound;
    was_said = each_comes seat r said said' (links_of seat.peer) plays.inbound on plays.was_said;
    does = plays.does;
  },
  is,
)
