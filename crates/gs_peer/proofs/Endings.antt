-- What there is to hear of a neighbour, by how it ends.
use Rattle.std.proofs.Common.{◌≡◌, Bool, true, false, if◌then◌else◌, [], ◌∷◌, ◌++◌, map, ap, ap₂, ◌∙◌, append-nil}
use Rattle.gs_rules.specs.Rounds.{Hear, HearFault, HearGone}
use Rattle.gs_peer.specs.Inboxes.{InboxView, heard_of, is_broken_off}

by_flags : (x : InboxView) (broken closed : Bool)
    → is_broken_off x ≡ broken
    → x.is_closed ≡ closed
    → heard_of x ≡ map (Hear x.peer) x.stage ++ (if broken then HearFault x.peer ∷ [] else if closed then HearGone x.peer ∷ [] else [])
by_flags x broken closed b c =
    ap₂ (λ (d e : Bool). map (Hear x.peer) x.stage ++ (if d then HearFault x.peer ∷ [] else if e then HearGone x.peer ∷ [] else [])) b c

pub heard_at_fault : (x : InboxView) → is_broken_off x ≡ true → heard_of x ≡ map (Hear x.peer) x.stage ++ HearFault x.peer ∷ []
heard_at_fault x b =
    ap (λ (d : Bool). map (Hear x.peer) x.stage ++ (if d then HearFault x.peer ∷ [] else if x.is_closed then HearGone x.peer ∷ [] else [])) b

pub heard_gone : (x : InboxView) → is_broken_off x ≡ false → x.is_closed ≡ true → heard_of x ≡ map (Hear x.peer) x.stage ++ HearGone x.peer ∷ []
heard_gone x b c = by_flags x false true b c

pub heard_on : (x : InboxView) → is_broken_off x ≡ false → x.is_closed ≡ false → heard_of x ≡ map (Hear x.peer) x.stage
heard_on x b c = by_flags x false false b c ∙ append-nil (map (Hear x.peer) x.stage)
