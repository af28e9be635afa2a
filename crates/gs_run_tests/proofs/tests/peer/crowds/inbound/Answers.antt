use Rattle.std.proofs.Common.{◌≡◌, ◌<◌, ◌+◌, ◌∙◌, ℕ, List, [], ◌∷◌, ◌++◌, length, take, get_or, ap, ap₂, refl, sym}
use Rattle.std.specs.List.{All}
use Rattle.std.proofs.lemmas.List.{map-append, take_more}
use Rattle.std.proofs.lemmas.List.Elements.{All-push}
use Rattle.gs_base.specs.declared.names.PeerNo.{PeerNo}
use Rattle.gs_ends.specs.Lists.{BringsSendable, Source, senders_of}
use Rattle.gs_run_tests.proofs.tests.peer.crowds.inbound.Goals as goal

-- one neighbour more says something
senders_more : (before after : List Source) (s : Source) (xs : List PeerNo) (i : ℕ) (d : PeerNo) → i < length xs → senders_of before ≡ take i xs → after ≡ before ++ s ∷ [] → s.0 ≡ get_or xs i d → senders_of after ≡ take (i + 1) xs
senders_more before after s xs i d low same is who =
    ap senders_of is
    ∙ map-append (λ (source : Source). source.0) before (s ∷ [])
    ∙ ap₂ (λ (ps : List PeerNo) (p : PeerNo). ps ++ p ∷ []) same who
    ∙ sym (take_more xs i d low)

sendable_more : (before after : List Source) (s : Source) → All BringsSendable before → after ≡ before ++ s ∷ [] → BringsSendable s → All BringsSendable after
sendable_more before after s may is this = rw is (All-push BringsSendable before s may this)

pub loop-number-preserved : goal.loop-number-preserved
loop-number-preserved c = record {
  senders = senders_more c.loop-number.inbound.items _ _ c.args.numbers.now c.loop-number.number-index _ c.loop-number-test.true c.loop-number.invariant.senders c.in_ok-push.ensures.items refl;
  size = sendable_more c.loop-number.inbound.items _ _ c.loop-number.invariant.size c.in_ok-push.ensures.items c.in_ok-says.ensures;
}
