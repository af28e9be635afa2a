use Rattle.std.proofs.Common.{◌≡◌, ◌∙◌, ◌++◌, ◌∷◌, [], List, Ok, Result, length, refl, sym, ap, ap₂, arith, rules, append_assoc, append-nil}
use Rattle.std.proofs.lemmas.List.{map-append}
use Rattle.gs_peer.specs.declared.finished_task.PeerFault.{PeerFault}
use Rattle.gs_seats.proofs.PlaceLists.{nil_by_length}
use Rattle.gs_net.specs.Given.{Given}
use Rattle.gs_seats.specs.Rounds.{peer_no}
use Rattle.gs_net.proofs.TakenApart.{counted, one_longer, taken_more}
use Rattle.gs_net.proofs.lives.lives_of.Goals as goal

pub loop-result-preserved : goal.loop-result-preserved
loop-result-preserved g c =
    let (can, finite, front, few, (givens, are, apart)) = c.loop-result.invariant in
    let number : c.len.result ≡ length c.loop-result.peers.items = search rules in (
      tt,
      tt,
      append_assoc c.loop-result.yielded (c.in-Some-result.result ∷ []) c.next.new.self.rest.items ∙ ap (λ (xs : List (Result Given PeerFault)). c.loop-result.yielded ++ xs) (sym c.in-Some-result.ensures.steps.0) ∙ front,
      omega (arith, few, ap length c.in-Some-result.ensures.steps.0, one_longer c.loop-result.peers.items _ _ c.in-Ok-push.ensures.items),
      (
        givens ++ c.in-Ok.life ∷ [],
        map-append Ok givens (c.in-Ok.life ∷ []) ∙ ap₂ (λ (xs : List (Result Given PeerFault)) (x : Result Given PeerFault). xs ++ x ∷ []) are (sym c.in-Ok.is),
        taken_more givens c.in-Ok.life _ _ _ _ c.into_list.result apart (ap peer_no (number ∙ counted givens _ apart)) refl c.into_list.ensures.ends c.in-Ok-push.ensures.items c.in-Ok-push-2.ensures.items,
      ),
    )

pub returns-clause-lives : goal.returns-clause-lives
returns-clause-lives g c =
    let (can, finite, front, few, (givens, are, apart)) = c.loop-result.invariant in
    let none : c.loop-result.result-iterator.rest.items ≡ [] = nil_by_length _ (search rules) in
    (givens, are ∙ sym (append-nil c.loop-result.yielded) ∙ ap (λ (xs : List (Result Given PeerFault)). c.loop-result.yielded ++ xs) (sym none) ∙ front, apart)
