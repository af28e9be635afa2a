-- What was said fixes what there is to hear, and so what a peer does.
use Rattle.std.proofs.Common.{◌≡◌, ℕ, zero, suc, Bool, List, [], ◌∷◌, ◌++◌, drop, refl, sym, ap, ap₂, subst, subst₂, ◌∙◌}
use Rattle.std.proofs.lemmas.List.{append_cancel_left}
use Rattle.std.specs.List.{AllZip}
use Rattle.gs_base.specs.declared.names.PeerNo.{PeerNo}
use Rattle.gs_base.specs.declared.rpc.Rpc.{Rpc}
use Rattle.gs_base.specs.Tokens.{Said, bytes_of}
use Rattle.gs_wire.specs.declared.frames.End.{End}
use Rattle.gs_wire.specs.Messages.{longest_body}
use Rattle.gs_wire.proofs.FrameLists.{one_stream}
use Rattle.gs_rules.specs.Peers.{links_of}
use Rattle.gs_rules.specs.Hearing.{Inbound, IsBetween, ComesIn, ComesAfter, after, bytes_before, closes, said_in}
use Rattle.gs_rules.specs.Rounds.{Seat, Phase, Playing, Closing, ComesAt, Does, agenda, moment_of}
use Rattle.gs_rules.proofs.Handled.{spelled_once}
use Rattle.gs_laws.specs.Fixed.{APhaseIsFixed, AreHeardAlike, NeighboursAreHeardAlike, first_rounds}
use Rattle.gs_laws.proofs.Doing.{does_alone}
use Rattle.gs_laws.proofs.Lists.{zipped_alone}

-- ---- one neighbour

same_inbound : (x y : Inbound) → x.rpcs ≡ y.rpcs → x.rest ≡ y.rest → x.end ≡ y.end → x.closes ≡ y.closes → x ≡ y
same_inbound x y rpcs rest end closes =
    ap (λ (vs : List Rpc). record x { rpcs = vs }) rpcs
    ∙ ap (λ (bytes : List ℕ). record x { rpcs = y.rpcs; rest = bytes }) rest
    ∙ ap₂ (λ (e : End) (c : Bool). record y { end = e; closes = c }) end closes

between_alone : (before whole : List ℕ) (x y : Inbound) → IsBetween before whole x → IsBetween before whole y → x.closes ≡ y.closes → x ≡ y
between_alone before whole x y h k closes =
    let earlier : h.earlier ≡ k.earlier = spelled_once before h.earlier k.earlier h.spell_before k.spell_before in
    let stream = one_stream longest_body whole (h.earlier ++ x.rpcs) (k.earlier ++ y.rpcs) x.rest y.rest x.end y.end h.stream k.stream in
    let rpcs : x.rpcs ≡ y.rpcs = append_cancel_left k.earlier x.rpcs y.rpcs (ap (λ (vs : List Rpc). vs ++ x.rpcs) (sym earlier) ∙ stream.0) in
    same_inbound x y rpcs stream.1 stream.2 closes

-- the last round, and those before it
abbrev newest_of : List Said → Said
newest_of [] = []
newest_of (w ∷ ws) = w

last_same : (r : ℕ) (v w : Said) → first_rounds (suc r) v ≡ first_rounds (suc r) w → said_in r v ≡ said_in r w
last_same r v w same = ap newest_of same

earlier_same : (r : ℕ) (v w : Said) → first_rounds (suc r) v ≡ first_rounds (suc r) w → first_rounds r v ≡ first_rounds r w
earlier_same r v w same = ap (drop 1) same

bytes_same : (r : ℕ) (v w : Said) → first_rounds r v ≡ first_rounds r w → bytes_before r v ≡ bytes_before r w
bytes_same zero v w same = refl
bytes_same (suc r) v w same =
    ap₂ (λ (bytes : List ℕ) (u : Said). bytes ++ bytes_of u) (bytes_same r v w (earlier_same r v w same)) (last_same r v w same)

round_alone : (r : ℕ) (v w : Said) (x y : Inbound) → first_rounds r v ≡ first_rounds r w → ComesIn r v x → ComesIn r w y → x ≡ y
round_alone zero v w x y same h k = h ∙ sym k
round_alone (suc r) v w x y same h k =
    let there : IsBetween (bytes_before r w) (bytes_before (suc r) w) x =
    subst₂ (λ (before whole : List ℕ). IsBetween before whole x) (bytes_same r v w (earlier_same r v w same)) (bytes_same (suc r) v w same) h.0 in
    between_alone (bytes_before r w) (bytes_before (suc r) w) x y there k.0 (h.1 ∙ ap closes (last_same r v w same) ∙ sym k.1)

rest_alone : (r : ℕ) (v w : Said) (x y : Inbound) → v ≡ w → ComesAfter r v x → ComesAfter r w y → x ≡ y
rest_alone r v w x y same h k =
    between_alone (bytes_before r w) (bytes_of w) x y (subst (λ (u : Said). IsBetween (bytes_before r u) (bytes_of u) x) same h.0) k.0
    (h.1 ∙ ap (λ (u : Said). closes (after r u)) same ∙ sym k.1)

phase_alone : (seat : Seat) (phase : Phase) (v w : Said) (x y : Inbound) → AreHeardAlike phase v w → ComesAt seat phase v x → ComesAt seat phase w y → x ≡ y
phase_alone seat (Playing r) v w x y same h k = round_alone r v w x y same h k
phase_alone seat Closing v w x y same h k = rest_alone seat.rounds v w x y same h k

-- ---- all neighbours

heard_alone : (seat : Seat) (phase : Phase) (said other : PeerNo → Said) (xs ys : List Inbound) → NeighboursAreHeardAlike seat phase said other → AllZip (λ q x. ComesAt seat phase (said q) x) (links_of seat.peer) xs → AllZip (λ q x. ComesAt seat phase (other q) x) (links_of seat.peer) ys → xs ≡ ys
heard_alone seat phase said other xs ys same h k =
    zipped_alone (λ (q : PeerNo). AreHeardAlike phase (said q) (other q)) (λ (q : PeerNo) (x : Inbound). ComesAt seat phase (said q) x) (λ (q : PeerNo) (x : Inbound). ComesAt seat phase (other q) x)
    (λ q x y alike mine theirs. phase_alone seat phase (said q) (other q) x y alike mine theirs) (links_of seat.peer) xs ys same h k

-- ---- a phase

pub phase_fixed : {S : Type 0} (word : S → ℕ) (after : S → S) → APhaseIsFixed word after
phase_fixed word after seat first phase said other K L M refused more legal legal' same h k =
    let inbound : h.inbound ≡ k.inbound = heard_alone seat phase said other h.inbound k.inbound same h.was_said k.was_said in
    does_alone word after seat.peer first (moment_of seat phase) (agenda seat phase k.inbound) K L M refused more legal legal'
    (subst (λ (xs : List Inbound). Does seat.peer (moment_of seat phase) (agenda seat phase xs) K L refused) inbound h.does) k.does
