-- The topics that a peer is subscribed to.
use Rattle.std.specs.Prelude.{not, if◌then◌else◌, List, [], ◌∷◌, ◌++◌, filter}
use Rattle.std.specs.List.{list_any}
use Rattle.gs_base.specs.declared.names.Topic.{Topic}
use Rattle.gs_base.specs.Names.{same_topic}
use Rattle.gs_rules.specs.declared.event.Event.{Event}
use Rattle.gs_rules.specs.declared.event.Event.TheVariants.{Heard, Late, BeatBegin, Decay, RoundEnd, Shut, Part, Step, Own, Lost}
use Rattle.gs_plan.specs.declared.plan.Act.{Act}
use Rattle.gs_plan.specs.declared.plan.Act.TheVariants.{Subscribe, Unsubscribe, Publish, Raw, HangUp}
use Rattle.gs_rules.specs.Tables.{Entries}

-- what an act of the user leaves of the topics that a peer is subscribed to
abbrev pub act_subscribed : Act → List Topic → List Topic
act_subscribed (Subscribe t) before = if list_any (same_topic t) before then before else before ++ t ∷ []
act_subscribed (Unsubscribe t) before = filter (λ u. not (same_topic t u)) before
act_subscribed (Publish t payload) before = before
act_subscribed (Raw q bytes) before = before
act_subscribed (HangUp q) before = before

-- The topics that a peer is subscribed to, in the order in which it subscribed. Each event is named here, so that a new one
-- must be decided on.
abbrev pub subscribed_after : Event → List Topic → List Topic
subscribed_after (Own act) before = act_subscribed act before
subscribed_after (Heard q rpc) before = before
subscribed_after (Late q rpc) before = before
subscribed_after (Part q part) before = before
subscribed_after BeatBegin before = before
subscribed_after (Step step) before = before
subscribed_after (Lost q loss) before = before
subscribed_after Decay before = before
subscribed_after (RoundEnd r) before = before
subscribed_after Shut before = before

abbrev pub subscribed : Entries → List Topic
subscribed [] = []
subscribed (e ∷ L) = subscribed_after e.event (subscribed L)
