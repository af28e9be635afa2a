-- What is left of peers that have shut down is a run.
use Rattle.std.proofs.Common.{◌≡◌, ℕ, suc, false, List, [], ◌∷◌, ◌++◌, length, map, take, drop, Some, refl, sym, ap, ap₂, subst, ◌∙◌, arith}
use Rattle.std.specs.Prelude.{slice_get, Vec}
use Rattle.std.specs.List.{AllByRecursion, AllZip}
use Rattle.std.specs.declared.alloc.Global.{Global}
use Rattle.std.proofs.lemmas.List.{take_at}
use Rattle.std.proofs.lemmas.Option.{same_Some, slice_get_within}
use Rattle.gs_base.specs.declared.names.PeerNo.{PeerNo}
use Rattle.gs_plan.specs.declared.plan.Plan.{Plan}
use Rattle.gs_rules.specs.Rounds.{Closing, moment_of}
use Rattle.gs_report.specs.declared.finished.Finished.{Finished}
use Rattle.gs_router.specs.Following.{AreInOrder}
use Rattle.gs_seats.specs.Rounds.{IsRun, numbers, peer_no, seat_in}
use Rattle.gs_seats.proofs.ByNumber.{as_many, at_number, zip_by_number}
use Rattle.gs_direct.specs.declared.letter.Letter.{Letter}
use Rattle.gs_direct.specs.declared.peer.Peer.{Peer}
use Rattle.gs_direct.specs.Peers.{left_of}
use Rattle.gs_direct.specs.Runs.{AreAt, HaveClosed, IsAt, numbered}
use Rattle.gs_direct.proofs.Closing.{ended_in_order, ended_run}

-- ---- a list that was lent

-- What a list is after it was lent as a slice: what the slice is then.
pub lent : {A : Type 0} (count : ℕ) (new old : List A) → length new ≡ count → take count (new ++ drop (length new) old) ≡ new
lent count new old long = take_at new (drop (length new) old) count long

-- ---- each of a list

each_by_place : {A : Type 0} (P : A → Type 0) (xs : List A) → ((k : ℕ) (x : A) → slice_get xs k ≡ Some x → P x) → AllByRecursion P xs
each_by_place P [] so = tt
each_by_place P (x ∷ xs) so = (so 0 x refl, each_by_place P xs (λ k y at. so (suc k) y at))

numbered_all : {T : Type 0} → (ps : List PeerNo) (peers : List (Peer T)) → AllZip (λ p (peer : Peer T). peer.number ≡ p) ps peers → map (λ (peer : Peer T). peer.number) peers ≡ ps
numbered_all [] [] h = refl
numbered_all (p ∷ ps) (peer ∷ peers) h = ap₂ (λ (q : PeerNo) (qs : List PeerNo). q ∷ qs) h.0 (numbered_all ps peers h.1)
numbered_all [] (peer ∷ peers) h = absurd h
numbered_all (p ∷ ps) [] h = absurd h

firsts : {T : Type 0} → (plan : Plan) (peers : List (Peer T)) → map (λ (x : PeerNo × Finished). x.0) (map (numbered plan) peers) ≡ map (λ (peer : Peer T). peer.number) peers
firsts plan [] = refl
firsts plan (peer ∷ peers) = ap (λ (qs : List PeerNo). peer.number ∷ qs) (firsts plan peers)

pub seconds : {T : Type 0} → (plan : Plan) (peers : List (Peer T)) → map (λ (x : PeerNo × Finished). x.1) (map (numbered plan) peers) ≡ map (left_of (moment_of (seat_in plan (peer_no 0)) Closing)) peers
seconds plan [] = refl
seconds plan (peer ∷ peers) = ap (λ (lives : List Finished). left_of (moment_of (seat_in plan (peer_no 0)) Closing) peer ∷ lives) (seconds plan peers)

module _ {T : Type 0} (plan : Plan) (olds news : List (Peer T)) (mail : List (Vec Letter Global))
    (at_end : AreAt plan (suc plan.rounds) olds mail)
    (closed : HaveClosed (moment_of (seat_in plan (peer_no 0)) Closing) olds mail (length plan.peers) news) where
  pub all_closed : length news ≡ length plan.peers
  all_closed = closed.many ∙ as_many (IsAt plan (suc plan.rounds) olds) plan olds at_end.each

  -- their routers may still be asked
  pub still_run : AllByRecursion (λ (peer : Peer T). peer.router.is_stopped ≡ false) news
  still_run = each_by_place (λ (peer : Peer T). peer.router.is_stopped ≡ false) news (λ k peer at.
      let below = slice_get_within news k peer at in
      let one = closed.done k (omega (arith, below, all_closed)) in
      subst (λ (x : Peer T). x.router.is_stopped ≡ false) (same_Some one.new peer (sym one.is ∙ at)) one.closes_so.runs.runs_on.running)

  -- their traces are in order
  pub in_order : AllByRecursion (λ (peer : Peer T). AreInOrder peer.router.trace) news
  in_order = each_by_place (λ (peer : Peer T). AreInOrder peer.router.trace) news (λ k peer at.
      let below = slice_get_within news k peer at in
      let (new, is, order) = ended_in_order plan olds news mail at_end closed (peer_no k) (omega (arith, below, all_closed)) in
      subst (λ (x : Peer T). AreInOrder x.router.trace) (same_Some new peer (sym is ∙ at)) order)

  numbers_stay : AllZip (λ p (peer : Peer T). peer.number ≡ p) (numbers plan) news
  numbers_stay = zip_by_number (λ p (peer : Peer T). peer.number ≡ p) plan news all_closed (λ p peer below at.
      let one = closed.done p.0 below in
      let (old, was, is) = at_number (IsAt plan (suc plan.rounds) olds) plan p olds below at_end.each in
      let new : one.new ≡ peer = same_Some one.new peer (sym one.is ∙ at) in
      let same : one.old ≡ old = same_Some one.old old (sym one.was ∙ was) in
      ap (λ (x : Peer T). x.number) (sym new) ∙ ap (λ (x : Peer T). x.number) one.closes_so.rest ∙ ap (λ (x : Peer T). x.number) same ∙ is.number)

  pub numbers_left : map (λ (x : PeerNo × Finished). x.0) (map (numbered plan) news) ≡ numbers plan
  numbers_left = firsts plan news ∙ numbered_all (numbers plan) news numbers_stay

  pub run_left : IsRun plan (map (λ (x : PeerNo × Finished). x.1) (map (numbered plan) news))
  run_left = subst (IsRun plan) (sym (seconds plan news)) (ended_run plan olds news mail at_end closed)
