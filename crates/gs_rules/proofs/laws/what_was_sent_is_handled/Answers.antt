use Rattle.std.proofs.Common.{List, [], ◌∷◌, subst}
use Rattle.std.specs.List.{AllByRecursion}
use Rattle.gs_base.specs.declared.names.PeerNo.{PeerNo}
use Rattle.gs_rules.specs.Peers.{links_of}
use Rattle.gs_rules.specs.Tables.{Entries}
use Rattle.gs_rules.specs.Saying.{Said, bytes_of, handled}
use Rattle.gs_rules.specs.Hearing.{Spell}
use Rattle.gs_rules.specs.Rounds.{HandlesWhatIsSent, Seat}
use Rattle.gs_rules.proofs.Handled.{said_is_handled}
use Rattle.gs_rules.proofs.Spelled.{spelled_joined}
use Rattle.gs_rules.proofs.laws.what_was_sent_is_handled.Goals as goal

one : (seat : Seat) (said : PeerNo → Said) (L : Entries) (q : PeerNo) → Spell (bytes_of (said q)) (handled L q) → HandlesWhatIsSent seat said L q
one seat said L q spelled other K legal alone is =
    spelled_joined other K seat.number (handled L q) legal alone (subst (λ (w : Said). Spell (bytes_of w) (handled L q)) is spelled)

each : (seat : Seat) (said : PeerNo → Said) (L : Entries) (qs : List PeerNo) → AllByRecursion (λ q. Spell (bytes_of (said q)) (handled L q)) qs → AllByRecursion (HandlesWhatIsSent seat said L) qs
each seat said L [] h = tt
each seat said L (q ∷ qs) h = (one seat said L q h.0, each seat said L qs h.1)

pub returns : goal.returns
returns c = λ seat said entries refused ascending legal keeps.
    each seat said entries (links_of seat.peer) (said_is_handled seat said entries refused ascending legal keeps)
