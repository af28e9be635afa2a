-- The states of the peers of a run between two rounds, and what is on its way to each.
use Rattle.std.specs.Prelude.{◌≡◌, ◌≤◌, ◌<◌, ◌⊎◌, ◌*◌, ℕ, zero, suc, pred, Bool, true, false, List, [], ◌++◌, length, map, option_map, unwrap_or, slice_get, None, Some, Vec}
use Rattle.std.specs.List.{AllByRecursion, AllZip}
use Rattle.std.specs.declared.alloc.Global.{Global}
use Rattle.gs_base.specs.declared.names.PeerNo.{PeerNo}
use Rattle.gs_base.specs.declared.names.Millis.{Millis}
use Rattle.gs_base.specs.declared.rpc.Rpc.{Rpc}
use Rattle.gs_base.specs.Tokens.{Said, bytes_of}
use Rattle.gs_params.specs.Seeding.{seeded_after, seeded_word}
use Rattle.gs_plan.specs.declared.plan.Dial.{Dial}
use Rattle.gs_plan.specs.declared.plan.Plan.{Plan}
use Rattle.gs_plan.specs.Plans.{are_joined}
use Rattle.gs_wire.specs.Codec.{codec}
use Rattle.gs_wire.specs.Messages.{longest_body}
use Rattle.gs_wire.specs.Stream.{HasRead}
use Rattle.gs_rules.specs.Tables.{Entries, last_moment, up}
use Rattle.gs_rules.specs.Modes.{exact}
use Rattle.gs_rules.specs.Legal.{LegalOn}
use Rattle.gs_rules.specs.Saying.{out}
use Rattle.gs_rules.specs.Hearing.{ComesIn, Inbound}
use Rattle.gs_rules.specs.Rounds.{AfterRounds, Closing, Hear, hears_of, is_broken, moment_of}
use Rattle.gs_seats.specs.ListsByPeer.{list_at}
use Rattle.gs_seats.specs.Rounds.{first_words, lines_in, neighbours, numbers, peer_in, peer_no, seat_in, phase_of}
use Rattle.gs_player.specs.Ended.{whole}
use Rattle.gs_player.specs.Words.{StandsAfter}
use Rattle.gs_direct.specs.declared.letter.Letter.{Letter}
use Rattle.gs_direct.specs.declared.outlet.Outlet.{Outlet}
use Rattle.gs_direct.specs.declared.peer.Peer.{Peer}
use Rattle.gs_direct.specs.Letters.{LettersFit, all_heard}
use Rattle.gs_direct.specs.Outlets.{IsHandedOver, given, reader_of}
use Rattle.gs_report.specs.declared.finished.Finished.{Finished}
use Rattle.gs_direct.specs.Peers.{Closes, PlaysRound, left_of}

-- ---- what was said

-- the trace of a peer so far; it is empty where no peer has the number
abbrev pub trace_at : {T : Type 0} → List (Peer T) → PeerNo → Entries
trace_at {T} peers q = unwrap_or (option_map (λ (peer : Peer T). peer.router.trace) (slice_get peers q.0)) []

-- what q has said to p so far
abbrev pub said_so_far : {T : Type 0} → List (Peer T) → PeerNo → PeerNo → Said
said_so_far peers p q = out codec (trace_at peers q) p

-- what is said ends in a round up to r: in a fault, or by a close
pub record HasEnded (r : ℕ) (w : Said) : Type 0 where
  pub round : ℕ
  pub early : round ≤ r
  pub inbound : Inbound
  pub comes : ComesIn round w inbound
  pub ends : (is_broken inbound ≡ true) ⊎ (inbound.closes ≡ true)

-- ---- what goes to a neighbour

-- Between two rounds, where the peer's trace is this: nothing is gathered and nothing is out, and all that was said is read.
pub record IsReady (r : ℕ) (L : Entries) (o : Outlet) : Type 0 where
  pub is_open : o.is_open ≡ up L o.to
  pub none_gathered : o.gathered ≡ None
  pub none_out : o.rpcs.items ≡ []
  pub stands : StandsAfter r (out codec L o.to) o.is_open
  pub earlier : List Rpc
  pub read : HasRead longest_body (bytes_of (out codec L o.to)) (reader_of o) earlier
  -- its ending is sent only where it has ended
  pub told : o.is_over ≡ true → HasEnded r (out codec L o.to)

-- ---- a peer

-- After r rounds, a peer has kept them on what the others said so far, with its random words.
pub record IsAt {T : Type 0} (plan : Plan) (r : ℕ) (peers : List (Peer T)) (p : PeerNo) (peer : Peer T) : Type 0 where
  pub number : peer.number ≡ p
  pub agenda : peer.agenda ≡ lines_in plan p
  pub phase : peer.phase_ms ≡ phase_of plan p
  pub router : peer.router.peer ≡ peer_in plan p
  pub running : peer.router.is_stopped ≡ false
  pub time : last_moment peer.router.trace ≤ pred r * plan.round_ms
  pub legal : LegalOn (exact seeded_word seeded_after) (peer_in plan p) (first_words plan p) [] peer.router.trace peer.words
  pub played : AfterRounds (seat_in plan p) (said_so_far peers p) r peer.router.trace peer.refused.items
  pub links : map (λ (o : Outlet). o.to) peer.outlets.items ≡ neighbours plan p
  pub ready : AllByRecursion (IsReady r peer.router.trace) peer.outlets.items

-- ---- what is on its way

-- These letters of q have what there is to hear of its round r, where q has said `w`. An ending that was sent before is not
-- sent again.
pub record Delivers (r : ℕ) (w : Said) (q : PeerNo) (letters : List Letter) : Type 0 where
  pub inbound : Inbound
  pub comes : ComesIn (suc r) w inbound
  pub ended : whole (suc r) w ≡ true
  pub heard : (all_heard letters ≡ hears_of q inbound)
      ⊎ ((all_heard letters ≡ map (Hear q) inbound.rpcs) × HasEnded r w)
  pub fit : LettersFit letters

-- a peer that is no neighbour sends no letter
abbrev pub DeliversIf : Bool → ℕ → Said → PeerNo → List Letter → Type 0
DeliversIf true r w q letters = Delivers r w q letters
DeliversIf false r w q letters = letters ≡ []

-- the letters for p from this number of first peers, one peer after the other
abbrev pub ArriveFrom : {T : Type 0} → List Dial → ℕ → List (Peer T) → PeerNo → ℕ → List Letter → Type 0
ArriveFrom dials r peers p zero letters = letters ≡ []
ArriveFrom dials r peers p (suc n) letters =
    (before : List Letter) × (last : List Letter)
    × ArriveFrom dials r peers p n before
    × (letters ≡ before ++ last)
    × DeliversIf (are_joined dials p (peer_no n)) r (said_so_far peers p (peer_no n)) (peer_no n) last

-- the letters that a peer hears in a round; there are none in the first
abbrev pub Arrive : {T : Type 0} → Plan → ℕ → List (Peer T) → PeerNo → List Letter → Type 0
Arrive plan zero peers p letters = letters ≡ []
Arrive plan (suc r) peers p letters = ArriveFrom plan.dials r peers p (length plan.peers) letters

-- nothing is on its way
abbrev pub IsEmpty : List (Vec Letter Global) → Type 0
IsEmpty mail = (n : ℕ) → list_at mail n ≡ []

-- there is an empty list for each peer
abbrev pub IsRoomFor : Plan → List (Vec Letter Global) → Type 0
IsRoomFor plan mail = (length mail ≡ length plan.peers) × IsEmpty mail

-- ---- all peers

-- After r rounds the peers are these, and the letters of the last one are on their way.
pub record AreAt {T : Type 0} (plan : Plan) (r : ℕ) (peers : List (Peer T)) (mail : List (Vec Letter Global)) : Type 0 where
  pub each : AllZip (IsAt plan r peers) (numbers plan) peers
  pub boxes : length mail ≡ length plan.peers
  pub letters : (p : PeerNo) → p.0 < length plan.peers → Arrive plan r peers p (list_at mail p.0)

-- ---- within a round

-- A peer plays a round and hands over what it said: these letters to each peer.
pub record Turns {T : Type 0} (r : ℕ) (now : Millis) (letters : List Letter) (old new : Peer T)
    (gives : PeerNo → List Letter) : Type 0 where
  pub played : Peer T
  pub plays : PlaysRound r now letters old played
  pub rest : new ≡ record played { outlets = new.outlets }
  pub given_is : (p : PeerNo) → gives p ≡ given played.number played.outlets.items p
  pub handed : AllZip IsHandedOver played.outlets.items new.outlets.items

-- the peer of this number has done that
pub record TurnsAt {T : Type 0} (r : ℕ) (now : Millis) (olds news : List (Peer T)) (mail : List (Vec Letter Global))
    (n : ℕ) (gives : PeerNo → List Letter) : Type 0 where
  pub old : Peer T
  pub new : Peer T
  pub was : slice_get olds n ≡ Some old
  pub is : slice_get news n ≡ Some new
  pub turns : Turns r now (list_at mail n) old new gives

-- this number of first peers have done that, and these are the letters that they gave to p
abbrev pub GivenTo : {T : Type 0} → ℕ → Millis → (olds news : List (Peer T)) → List (Vec Letter Global)
    → PeerNo → ℕ → List Letter → Type 0
GivenTo r now olds news mail p zero letters = letters ≡ []
GivenTo r now olds news mail p (suc n) letters =
    (before : List Letter) × (gives : PeerNo → List Letter)
    × GivenTo r now olds news mail p n before
    × TurnsAt r now olds news mail n gives
    × (letters ≡ before ++ gives p)

-- The first n peers have played a round, and the others have not.
pub record HavePlayed {T : Type 0} (r : ℕ) (now : Millis) (olds : List (Peer T)) (mail : List (Vec Letter Global))
    (n : ℕ) (news : List (Peer T)) (mail' next : List (Vec Letter Global)) : Type 0 where
  pub many : length news ≡ length olds
  pub boxes : length mail' ≡ length mail
  pub places : length next ≡ length mail
  pub left : (k : ℕ) → n ≤ k → slice_get news k ≡ slice_get olds k
  pub waits : (k : ℕ) → n ≤ k → list_at mail' k ≡ list_at mail k
  pub taken : (k : ℕ) → k < n → list_at mail' k ≡ []
  pub gives : (p : PeerNo) → GivenTo r now olds news mail p n (list_at next p.0)

-- ---- the end

-- The peer of this number has shut down.
pub record ClosesAt {T : Type 0} (now : Millis) (olds : List (Peer T)) (mail : List (Vec Letter Global))
    (n : ℕ) (news : List (Peer T)) : Type 0 where
  pub old : Peer T
  pub new : Peer T
  pub was : slice_get olds n ≡ Some old
  pub is : slice_get news n ≡ Some new
  pub closes_so : Closes now (list_at mail n) old new

-- The first n peers have shut down, and the others have not.
pub record HaveClosed {T : Type 0} (now : Millis) (olds : List (Peer T)) (mail : List (Vec Letter Global))
    (n : ℕ) (news : List (Peer T)) : Type 0 where
  pub many : length news ≡ length olds
  pub left : (k : ℕ) → n ≤ k → slice_get news k ≡ slice_get olds k
  pub done : (k : ℕ) → k < n → ClosesAt now olds mail k news

-- All peers have played the rounds and shut down.
pub record HaveEnded {T : Type 0} (plan : Plan) (news : List (Peer T)) : Type 0 where
  pub olds : List (Peer T)
  pub mail : List (Vec Letter Global)
  pub at_end : AreAt plan (suc plan.rounds) olds mail
  pub closed : HaveClosed (moment_of (seat_in plan (peer_no 0)) Closing) olds mail (length plan.peers) news

-- what a run leaves of a peer, with its number
abbrev pub numbered : {T : Type 0} → Plan → Peer T → PeerNo × Finished
numbered plan peer = (peer.number, left_of (record { 0 = plan.rounds * plan.round_ms }) peer)
