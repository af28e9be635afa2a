-- Entries of a legal trace are in order.
use Rattle.std.proofs.Common.{◌≤◌, ◌++◌, List, [], ◌∷◌, map, subst}
use Rattle.std.proofs.lemmas.List.{append-nil}
use Rattle.std.specs.List.{AllByRecursion, AllZip}
use Rattle.gs_base.specs.declared.names.PeerNo.{PeerNo}
use Rattle.gs_report.specs.declared.finished.Finished.{Finished}
use Rattle.gs_rules.specs.Peers.{Peer}
use Rattle.gs_rules.specs.Tables.{Entries, last_moment}
use Rattle.gs_rules.specs.Modes.{Mode}
use Rattle.gs_rules.specs.Legal.{LegalOn}
use Rattle.gs_router.specs.Following.{AreInOrder}

pub legal_in_order : (m : Mode) (p : Peer) (s : m.State) (L : Entries) (t : m.State) → LegalOn m p s [] L t → AreInOrder L
legal_in_order m p s [] t legal = tt
legal_in_order m p s (e ∷ L) t legal =
    (subst (λ (K : Entries). last_moment K ≤ e.at.0) (append-nil L) legal.2.time, legal_in_order m p s L legal.0 legal.1)

-- what holds of each life holds of each with its number
pub each_numbered : (R : PeerNo → Finished → Type 0) (Q : Finished → Type 0) → ((p : PeerNo) (life : Finished) → R p life → Q life)
    → (ps : List PeerNo) (xs : List (PeerNo × Finished)) → AllZip R ps (map (λ (x : PeerNo × Finished). x.1) xs)
    → AllByRecursion (λ (x : PeerNo × Finished). Q x.1) xs
each_numbered R Q leads ps [] all = tt
each_numbered R Q leads [] (x ∷ xs) all = absurd all
each_numbered R Q leads (p ∷ ps) (x ∷ xs) all = (leads p x.1 all.0, each_numbered R Q leads ps xs all.1)
