-- Messages whose publisher is one of some peers, and subscribers that are among some peers.
use Rattle.std.specs.Prelude.{Bool, true, false, ◌&&◌, List, filter, map}
use Rattle.std.specs.List.{flat_map, list_any}
use Rattle.gs_base.specs.declared.names.PeerNo.{PeerNo}
use Rattle.gs_base.specs.Names.{same_peer}
use Rattle.gs_base.specs.declared.verdict.Verdict.{Verdict}
use Rattle.gs_base.specs.declared.verdict.Verdict.TheVariants.{Accept, Reject, Ignore}
use Rattle.gs_reach.specs.declared.chosen.Chosen.{Chosen}
use Rattle.gs_reach.specs.declared.chosen.Chosen.TheVariants.{Any, Only}
use Rattle.gs_reach.specs.declared.messages.MessageReach.{MessageReach}
use Rattle.gs_reach.specs.declared.pairs.Pair.{Pair}

abbrev pub is_chosen : Chosen → PeerNo → Bool
is_chosen Any p = true
is_chosen (Only peers) p = list_any (λ q. same_peer q p) peers

-- a message's first publisher is chosen
abbrev pub is_by : Chosen → MessageReach → Bool
is_by by m = is_chosen by m.publication.peer

-- the pairs whose subscriber is chosen
abbrev pub pairs_among : Chosen → List Pair → List Pair
pairs_among among pairs = filter (λ (x : Pair). is_chosen among x.subscriber) pairs

-- a message with those of its pairs
abbrev pub reach_among : Chosen → MessageReach → MessageReach
reach_among among m = record m { pairs = pairs_among among m.pairs }

-- the messages by some peers, each with the pairs of some subscribers only
abbrev pub chosen_messages : Chosen → Chosen → List MessageReach → List MessageReach
chosen_messages by among messages = map (reach_among among) (filter (is_by by) messages)

-- validation accepts it, so each subscriber should be reached
abbrev pub is_accepted : Verdict → Bool
is_accepted Accept = true
is_accepted Reject = false
is_accepted Ignore = false

-- all pairs of accepted messages by some peers, with some subscribers only, message by message
abbrev pub accepted_pairs : Chosen → Chosen → List MessageReach → List Pair
accepted_pairs by among messages =
    flat_map (λ (m : MessageReach). pairs_among among m.pairs) (filter (λ (m : MessageReach). is_accepted m.verdict && is_by by m) messages)
