-- What holds for values in memory, although the logic does not know it: a byte is below 256, and a number fits its type.
use Rattle.std.specs.Prelude.{ℕ, ◌<◌, ◌≤◌, ◌^◌, unsigned_abs, List, Option, None, Some}
use Rattle.std.specs.List.{AllByRecursion}
use Rattle.gs_base.specs.declared.control.Control.{Control}
use Rattle.gs_base.specs.declared.control.Graft.{Graft}
use Rattle.gs_base.specs.declared.control.IHave.{IHave}
use Rattle.gs_base.specs.declared.control.IWant.{IWant}
use Rattle.gs_base.specs.declared.control.Prune.{Prune}
use Rattle.gs_base.specs.declared.mark.Mark.{Mark}
use Rattle.gs_base.specs.declared.mark.Mark.TheVariants.{Seen, First, Near, Invalid, Deficit, Misbehaviour, Cached, Answered, Offered, Asked, Grafted, Pruned, Fanned, Unfanned, Backoff, Published}
use Rattle.gs_base.specs.declared.names.Millis.{Millis}
use Rattle.gs_base.specs.declared.names.MsgId.{MsgId}
use Rattle.gs_base.specs.declared.names.PeerNo.{PeerNo}
use Rattle.gs_base.specs.declared.names.Topic.{Topic}
use Rattle.gs_base.specs.declared.rpc.Message.{Message}
use Rattle.gs_base.specs.declared.rpc.Rpc.{Rpc}
use Rattle.gs_base.specs.declared.rpc.SubOpt.{SubOpt}
use Rattle.gs_plan.specs.declared.plan.Act.{Act}
use Rattle.gs_plan.specs.declared.plan.Act.TheVariants.{Subscribe, Unsubscribe, Publish, Raw, HangUp}
use Rattle.gs_plan.specs.declared.plan.Dial.{Dial}
use Rattle.gs_plan.specs.declared.plan.Plan.{Plan}
use Rattle.gs_rules.specs.declared.event.BeatStep.{BeatStep}
use Rattle.gs_rules.specs.declared.event.BeatStep.TheVariants.{MeshBeat, FanBeat, FanEnd, GossipBeat, BeatEnd}
use Rattle.gs_rules.specs.declared.event.Event.{Event}
use Rattle.gs_rules.specs.declared.event.Event.TheVariants.{Heard, Late, BeatBegin, Decay, RoundEnd, Shut, Part, Step, Own, Lost}
use Rattle.gs_rules.specs.declared.event.RpcPart.{RpcPart}
use Rattle.gs_rules.specs.declared.event.RpcPart.TheVariants.{Sub, Msg, Have, Want, GraftIn, PruneIn}
use Rattle.gs_rules.specs.declared.refusal.RefusedLine.{RefusedLine}
use Rattle.gs_rules.specs.declared.trace.Effects.{Effects}
use Rattle.gs_rules.specs.declared.trace.Entry.{Entry}
use Rattle.gs_rules.specs.declared.trace.Promise.{Promise}
use Rattle.gs_report.specs.declared.finished.Finished.{Finished}
use Rattle.gs_report.specs.declared.report.Report.{Report}
use Rattle.gs_trace.specs.Texts.{names_of}

-- ---- plain values

abbrev pub IsStoredByte : ℕ → Type 0
IsStoredByte byte = byte < 256

abbrev pub AreStoredBytes : List ℕ → Type 0
AreStoredBytes bytes = AllByRecursion IsStoredByte bytes

-- what is there satisfies P
abbrev pub IfThere : {A : Type 0} → (A → Type 0) → Option A → Type 0
IfThere P None = Unit {0}
IfThere P (Some x) = P x

abbrev pub IsStoredTopic : Topic → Type 0
IsStoredTopic t = AreStoredBytes t.0

abbrev pub IsStoredId : MsgId → Type 0
IsStoredId id = AreStoredBytes id.0

abbrev pub IsStoredPeer : PeerNo → Type 0
IsStoredPeer q = q.0 < 2 ^ 16

abbrev pub IsStoredNumber : ℕ → Type 0
IsStoredNumber n = n < 2 ^ 64

abbrev pub IsStoredMoment : Millis → Type 0
IsStoredMoment at = IsStoredNumber at.0

-- ---- RPCs

pub record IsStoredSub (s : SubOpt) : Type 0 where
  pub topic : IfThere IsStoredTopic s.topic

pub record IsStoredMessage (m : Message) : Type 0 where
  pub origin : IfThere AreStoredBytes m.origin
  pub payload : IfThere AreStoredBytes m.payload
  pub seqno : IfThere AreStoredBytes m.seqno
  pub topic : IfThere IsStoredTopic m.topic
  pub signature : IfThere AreStoredBytes m.signature
  pub key : IfThere AreStoredBytes m.key

pub record IsStoredIHave (x : IHave) : Type 0 where
  pub topic : IfThere IsStoredTopic x.topic
  pub ids : AllByRecursion AreStoredBytes x.ids

pub record IsStoredIWant (x : IWant) : Type 0 where
  pub ids : AllByRecursion AreStoredBytes x.ids

pub record IsStoredGraft (x : Graft) : Type 0 where
  pub topic : IfThere IsStoredTopic x.topic

pub record IsStoredPrune (x : Prune) : Type 0 where
  pub topic : IfThere IsStoredTopic x.topic
  pub backoff : IfThere IsStoredNumber x.backoff

pub record IsStoredControl (c : Control) : Type 0 where
  pub ihave : AllByRecursion IsStoredIHave c.ihave
  pub iwant : AllByRecursion IsStoredIWant c.iwant
  pub graft : AllByRecursion IsStoredGraft c.graft
  pub prune : AllByRecursion IsStoredPrune c.prune

pub record IsStoredRpc (r : Rpc) : Type 0 where
  pub subs : AllByRecursion IsStoredSub r.subs
  pub publish : AllByRecursion IsStoredMessage r.publish
  pub control : IfThere IsStoredControl r.control

-- ---- entries

abbrev pub IsStoredPart : RpcPart → Type 0
IsStoredPart (Sub part) = IsStoredSub part
IsStoredPart (Msg part) = IsStoredMessage part
IsStoredPart (Have part) = IsStoredIHave part
IsStoredPart (Want part) = IsStoredIWant part
IsStoredPart (GraftIn part) = IsStoredGraft part
IsStoredPart (PruneIn part) = IsStoredPrune part

abbrev pub IsStoredStep : BeatStep → Type 0
IsStoredStep (MeshBeat t) = IsStoredTopic t
IsStoredStep (FanBeat t) = IsStoredTopic t
IsStoredStep (FanEnd t) = IsStoredTopic t
IsStoredStep (GossipBeat t) = IsStoredTopic t
IsStoredStep BeatEnd = Unit {0}

abbrev pub IsStoredAct : Act → Type 0
IsStoredAct (Subscribe t) = IsStoredTopic t
IsStoredAct (Unsubscribe t) = IsStoredTopic t
IsStoredAct (Publish t payload) = IsStoredTopic t × AreStoredBytes payload
IsStoredAct (Raw q bytes) = IsStoredPeer q × AreStoredBytes bytes
IsStoredAct (HangUp q) = IsStoredPeer q

abbrev pub IsStoredEvent : Event → Type 0
IsStoredEvent (Heard q rpc) = IsStoredPeer q × IsStoredRpc rpc
IsStoredEvent (Late q rpc) = IsStoredPeer q × IsStoredRpc rpc
IsStoredEvent (Part q part) = IsStoredPeer q × IsStoredPart part
IsStoredEvent BeatBegin = Unit {0}
IsStoredEvent (Step step) = IsStoredStep step
IsStoredEvent (Own act) = IsStoredAct act
IsStoredEvent (Lost q loss) = IsStoredPeer q
IsStoredEvent Decay = Unit {0}
IsStoredEvent (RoundEnd r) = IsStoredNumber r
IsStoredEvent Shut = Unit {0}

abbrev pub IsStoredMark : Mark → Type 0
IsStoredMark (Seen id verdict) = IsStoredId id
IsStoredMark (First q t id) = IsStoredPeer q × IsStoredTopic t × IsStoredId id
IsStoredMark (Near q t id) = IsStoredPeer q × IsStoredTopic t × IsStoredId id
IsStoredMark (Invalid q t) = IsStoredPeer q × IsStoredTopic t
IsStoredMark (Deficit q t n) = IsStoredPeer q × IsStoredTopic t × (unsigned_abs n ≤ 2 ^ 127)
IsStoredMark (Misbehaviour q) = IsStoredPeer q
IsStoredMark (Cached id t) = IsStoredId id × IsStoredTopic t
IsStoredMark (Answered q id) = IsStoredPeer q × IsStoredId id
IsStoredMark (Offered q) = IsStoredPeer q
IsStoredMark (Asked q n) = IsStoredPeer q × (n < 2 ^ 32)
IsStoredMark (Grafted q t) = IsStoredPeer q × IsStoredTopic t
IsStoredMark (Pruned q t) = IsStoredPeer q × IsStoredTopic t
IsStoredMark (Fanned q t) = IsStoredPeer q × IsStoredTopic t
IsStoredMark (Unfanned q t) = IsStoredPeer q × IsStoredTopic t
IsStoredMark (Backoff q t until) = IsStoredPeer q × IsStoredTopic t × IsStoredMoment until
IsStoredMark (Published t) = IsStoredTopic t

pub record IsStoredPromise (p : Promise) : Type 0 where
  pub peer : IsStoredPeer p.from
  pub id : IsStoredId p.id
  pub until : IsStoredMoment p.until

abbrev pub IsStoredSend : PeerNo × Rpc → Type 0
IsStoredSend x = IsStoredPeer x.0 × IsStoredRpc x.1

abbrev pub IsStoredDelivery : Topic × List ℕ → Type 0
IsStoredDelivery x = IsStoredTopic x.0 × AreStoredBytes x.1

pub record IsStoredEffects (e : Effects) : Type 0 where
  pub sends : AllByRecursion IsStoredSend e.sends
  pub delivered : AllByRecursion IsStoredDelivery e.delivered
  pub promise : IfThere IsStoredPromise e.promise
  pub marks : AllByRecursion IsStoredMark e.marks

pub record IsStoredEntry (e : Entry) : Type 0 where
  pub moment : IsStoredMoment e.at
  pub event : IsStoredEvent e.event
  pub effects : IsStoredEffects e.effects

-- ---- runs

pub record IsStoredRefusal (line : RefusedLine) : Type 0 where
  pub moment : IsStoredMoment line.at
  pub place : IsStoredNumber line.line

pub record IsStoredLife (x : PeerNo × Finished) : Type 0 where
  pub number : IsStoredPeer x.0
  pub trace : AllByRecursion IsStoredEntry x.1.trace
  pub refused : AllByRecursion IsStoredRefusal x.1.refused

abbrev pub IsStoredDial : Dial → Type 0
IsStoredDial d = IsStoredPeer d.from × IsStoredPeer d.to

-- a plan and a report as they are in memory
pub record IsStored (plan : Plan) (report : Report) : Type 0 where
  pub names : AllByRecursion AreStoredBytes (names_of plan)
  pub round_ms : IsStoredNumber plan.round_ms
  pub rounds : IsStoredNumber plan.rounds
  pub dials : AllByRecursion IsStoredDial plan.dials
  pub lives : AllByRecursion IsStoredLife report.peers.items
