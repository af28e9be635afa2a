-- What a neighbour gets for a request, so far.
use Rattle.std.specs.Prelude.{◌≡◌, ℕ, ◌-◌, List, map}
use Rattle.gs_base.specs.declared.names.PeerNo.{PeerNo}
use Rattle.gs_base.specs.declared.names.MsgId.{MsgId}
use Rattle.gs_base.specs.declared.rpc.Message.{Message}
use Rattle.gs_base.specs.declared.mark.Mark.TheVariants as marks
use Rattle.gs_base.specs.Rpcs.{passed_on}
use Rattle.gs_rules.specs.Peers.{Peer, windows}
use Rattle.gs_rules.specs.Tables.{Entries}
use Rattle.gs_rules.specs.Rules.{times_in}
use Rattle.gs_router.specs.declared.entries.requests.Reply.{Reply}
use Rattle.gs_router.specs.Tables.{answers_left}
use Rattle.gs_router.specs.Offers.{left_now}

-- these messages are sent to q one by one, and each counts
pub record Gives (q : PeerNo) (given : List (MsgId × Message)) (reply : Reply) : Type 0 where
  pub sends : reply.sends ≡ map (λ (x : MsgId × Message). (q, passed_on x.1)) given
  pub marks : reply.marks ≡ map (λ (x : MsgId × Message). marks.Answered q x.0) given

-- After these identifiers of a request these messages were given, and the reply knows how many answers are left.
pub record Replies (p : Peer) (L : Entries) (q : PeerNo) (ahead : List MsgId) (given : List (MsgId × Message))
    (reply : Reply) : Type 0 where
  pub gives : Gives q given reply
  pub leaves : (id : MsgId) (n : ℕ)
      → n ≡ answers_left p.params.timing.gossip_retransmission (windows p) L q id
      → left_now reply.left.entries id n ≡ n - times_in id ahead
