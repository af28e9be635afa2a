-- Which kind of event an event is. Each definition names every kind. So a new kind needs a line here, and no definition
-- that uses these misses one.
use Rattle.std.specs.Prelude.{ℕ}
use Rattle.gs_base.specs.declared.names.PeerNo.{PeerNo}
use Rattle.gs_plan.specs.declared.plan.Act.{Act}
use Rattle.gs_rules.specs.declared.event.Event.{Event}
use Rattle.gs_rules.specs.declared.event.Event.TheVariants.{Heard, Late, BeatBegin, Decay, RoundEnd, Shut, Part, Step, Own, Lost}
use Rattle.gs_rules.specs.declared.event.RpcPart.{RpcPart}
use Rattle.gs_rules.specs.declared.event.BeatStep.{BeatStep}

-- what a part of an RPC makes, and else something else
abbrev pub of_part : {A : Type 0} → (PeerNo → RpcPart → A) → A → Event → A
of_part by otherwise (Part q part) = by q part
of_part by otherwise (Heard q rpc) = otherwise
of_part by otherwise (Late q rpc) = otherwise
of_part by otherwise BeatBegin = otherwise
of_part by otherwise (Step step) = otherwise
of_part by otherwise (Own act) = otherwise
of_part by otherwise (Lost q loss) = otherwise
of_part by otherwise Decay = otherwise
of_part by otherwise (RoundEnd r) = otherwise
of_part by otherwise Shut = otherwise

-- what a step of a heartbeat makes, and else something else
abbrev pub of_step : {A : Type 0} → (BeatStep → A) → A → Event → A
of_step by otherwise (Step step) = by step
of_step by otherwise (Heard q rpc) = otherwise
of_step by otherwise (Late q rpc) = otherwise
of_step by otherwise (Part q part) = otherwise
of_step by otherwise BeatBegin = otherwise
of_step by otherwise (Own act) = otherwise
of_step by otherwise (Lost q loss) = otherwise
of_step by otherwise Decay = otherwise
of_step by otherwise (RoundEnd r) = otherwise
of_step by otherwise Shut = otherwise

-- what an act of the peer's own user makes, and else something else
abbrev pub of_act : {A : Type 0} → (Act → A) → A → Event → A
of_act by otherwise (Own act) = by act
of_act by otherwise (Heard q rpc) = otherwise
of_act by otherwise (Late q rpc) = otherwise
of_act by otherwise (Part q part) = otherwise
of_act by otherwise BeatBegin = otherwise
of_act by otherwise (Step step) = otherwise
of_act by otherwise (Lost q loss) = otherwise
of_act by otherwise Decay = otherwise
of_act by otherwise (RoundEnd r) = otherwise
of_act by otherwise Shut = otherwise

-- what the beginning of a heartbeat makes, and else something else
abbrev pub of_beginning : {A : Type 0} → A → A → Event → A
of_beginning begun otherwise BeatBegin = begun
of_beginning begun otherwise (Heard q rpc) = otherwise
of_beginning begun otherwise (Late q rpc) = otherwise
of_beginning begun otherwise (Part q part) = otherwise
of_beginning begun otherwise (Step step) = otherwise
of_beginning begun otherwise (Own act) = otherwise
of_beginning begun otherwise (Lost q loss) = otherwise
of_beginning begun otherwise Decay = otherwise
of_beginning begun otherwise (RoundEnd r) = otherwise
of_beginning begun otherwise Shut = otherwise

-- what the end of a round makes, and else something else
abbrev pub of_round_end : {A : Type 0} → (ℕ → A) → A → Event → A
of_round_end by otherwise (RoundEnd r) = by r
of_round_end by otherwise (Heard q rpc) = otherwise
of_round_end by otherwise (Late q rpc) = otherwise
of_round_end by otherwise (Part q part) = otherwise
of_round_end by otherwise BeatBegin = otherwise
of_round_end by otherwise (Step step) = otherwise
of_round_end by otherwise (Own act) = otherwise
of_round_end by otherwise (Lost q loss) = otherwise
of_round_end by otherwise Decay = otherwise
of_round_end by otherwise Shut = otherwise

-- what a shutdown makes, and else something else
abbrev pub of_shutdown : {A : Type 0} → A → A → Event → A
of_shutdown shut otherwise Shut = shut
of_shutdown shut otherwise (Heard q rpc) = otherwise
of_shutdown shut otherwise (Late q rpc) = otherwise
of_shutdown shut otherwise (Part q part) = otherwise
of_shutdown shut otherwise BeatBegin = otherwise
of_shutdown shut otherwise (Step step) = otherwise
of_shutdown shut otherwise (Own act) = otherwise
of_shutdown shut otherwise (Lost q loss) = otherwise
of_shutdown shut otherwise Decay = otherwise
of_shutdown shut otherwise (RoundEnd r) = otherwise

-- what a decay of counters makes, and else something else
abbrev pub of_decay : {A : Type 0} → A → A → Event → A
of_decay decayed otherwise Decay = decayed
of_decay decayed otherwise (Heard q rpc) = otherwise
of_decay decayed otherwise (Late q rpc) = otherwise
of_decay decayed otherwise (Part q part) = otherwise
of_decay decayed otherwise BeatBegin = otherwise
of_decay decayed otherwise (Step step) = otherwise
of_decay decayed otherwise (Own act) = otherwise
of_decay decayed otherwise (Lost q loss) = otherwise
of_decay decayed otherwise Shut = otherwise
of_decay decayed otherwise (RoundEnd r) = otherwise
