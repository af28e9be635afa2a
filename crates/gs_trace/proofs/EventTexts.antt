-- The text of an event tells it.
use Rattle.std.proofs.Common.{◌≡◌, ℕ, Bool, true, false, cond, eqb, List, [], ◌∷◌, ◌++◌, codes, drop, refl, sym, ap, ◌∙◌}
use Rattle.std.specs.List.{AllByRecursion}
use Rattle.std.proofs.lemmas.Bool.{eqb-false}
use Rattle.gs_base.specs.declared.names.PeerNo.{PeerNo}
use Rattle.gs_base.specs.declared.names.Topic.{Topic}
use Rattle.gs_base.specs.declared.control.Graft.{Graft}
use Rattle.gs_base.specs.declared.control.IHave.{IHave}
use Rattle.gs_base.specs.declared.control.IWant.{IWant}
use Rattle.gs_base.specs.declared.control.Prune.{Prune}
use Rattle.gs_base.specs.declared.rpc.Message.{Message}
use Rattle.gs_base.specs.declared.rpc.Rpc.{Rpc}
use Rattle.gs_base.specs.declared.rpc.SubOpt.{SubOpt}
use Rattle.gs_base.specs.Names.{message_id, payload_of}
use Rattle.gs_plan.specs.declared.plan.Act.{Act}
use Rattle.gs_plan.specs.declared.plan.Act.TheVariants.{Subscribe, Unsubscribe, Publish, Raw, HangUp}
use Rattle.gs_rules.specs.declared.event.Event.{Event}
use Rattle.gs_rules.specs.declared.event.Event.TheVariants.{Heard, Late, BeatBegin, Decay, RoundEnd, Shut, Part, Step, Own, Lost}
use Rattle.gs_rules.specs.declared.event.RpcPart.{RpcPart}
use Rattle.gs_rules.specs.declared.event.RpcPart.TheVariants.{Sub, Msg, Have, Want, GraftIn, PruneIn}
use Rattle.gs_rules.specs.declared.event.BeatStep.{BeatStep}
use Rattle.gs_rules.specs.declared.event.BeatStep.TheVariants.{MeshBeat, FanBeat, FanEnd, GossipBeat, BeatEnd}
use Rattle.gs_rules.specs.declared.event.Loss.{Loss}
use Rattle.gs_rules.specs.declared.event.Loss.TheVariants.{Gone, Fault}
use Rattle.gs_trace.specs.Events.{act_members, event_members, event_text, from_text, part_text, payload_members, rpc_member, step_members, topic_member}
use Rattle.gs_trace.specs.Stored.{AreStoredBytes, IsStoredAct, IsStoredEvent, IsStoredMessage, IsStoredPart, IsStoredPeer, IsStoredRpc, IsStoredStep, IsStoredTopic}
use Rattle.gs_trace.specs.Texts.{hex_text, id_text, peer_text}
use Rattle.gs_trace.proofs.Prefixes.{Anything, NoDigit, TellsAll, and_its, and_next, and_then, back, clashes, front, next, of_part}
use Rattle.gs_trace.proofs.Quotes.{tell_hex}
use Rattle.gs_trace.proofs.RpcTexts.{tell_graft, tell_ihave, tell_iwant, tell_message, tell_prune, tell_rpc, tell_sub}
use Rattle.gs_trace.proofs.Values.{Differ, tell_number, tell_peer, tell_topic}

-- ---- members

pub tell_topic_member : TellsAll Anything IsStoredTopic topic_member
tell_topic_member = front (codes ",\"topic\":") tell_topic

pub tell_payload : TellsAll Anything AreStoredBytes payload_members
tell_payload = and_its (back {After = Anything} (front (codes ",\"data\":") tell_hex) (codes ",\"id\":") (λ s. tt)) (λ payload. id_text (message_id payload))

-- a step of a heartbeat that is of a topic, and a topic that an act is of
on_topic : (word : List ℕ) → TellsAll Anything IsStoredTopic (λ t. event_text word ++ topic_member t)
on_topic word = front (event_text word) tell_topic_member

tell_step : TellsAll Anything IsStoredStep step_members
tell_step = record { tell = by }
  where
    by : (x y : BeatStep) (s t : List ℕ) → Anything s → Anything t → IsStoredStep x → IsStoredStep y → step_members x ++ s ≡ step_members y ++ t → (x ≡ y) × (s ≡ t)
    by (MeshBeat a) (MeshBeat b) s t fs ft hx hy e =
        let both = (on_topic (codes "mesh")).tell a b s t fs ft hx hy e in (ap MeshBeat both.0, both.1)
    by (MeshBeat a) y s t fs ft hx hy e = absurd (clashes _ _ refl e)
    by (FanBeat a) (FanBeat b) s t fs ft hx hy e =
        let both = (on_topic (codes "fanout")).tell a b s t fs ft hx hy e in (ap FanBeat both.0, both.1)
    by (FanBeat a) y s t fs ft hx hy e = absurd (clashes _ _ refl e)
    by (FanEnd a) (FanEnd b) s t fs ft hx hy e =
        let both = (on_topic (codes "fanout_end")).tell a b s t fs ft hx hy e in (ap FanEnd both.0, both.1)
    by (FanEnd a) y s t fs ft hx hy e = absurd (clashes _ _ refl e)
    by (GossipBeat a) (GossipBeat b) s t fs ft hx hy e =
        let both = (on_topic (codes "gossip")).tell a b s t fs ft hx hy e in (ap GossipBeat both.0, both.1)
    by (GossipBeat a) y s t fs ft hx hy e = absurd (clashes _ _ refl e)
    by BeatEnd BeatEnd s t fs ft hx hy e = (refl, ap (drop 23) e)
    by BeatEnd y s t fs ft hx hy e = absurd (clashes _ _ refl e)

-- ---- events by their words

-- whether a text begins so
abbrev begins : List ℕ → List ℕ → Bool
begins [] v = true
begins (a ∷ u) [] = false
begins (a ∷ u) (b ∷ v) = cond (eqb a b) (begins u v) false

-- what the first word that a text begins with stands for
abbrev sort_in : List (List ℕ × ℕ) → List ℕ → ℕ
sort_in [] text = 99
sort_in (x ∷ rest) text = cond (begins x.0 text) x.1 (sort_in rest text)

abbrev words : List (List ℕ × ℕ)
words =
    (codes "heard\"", 0) ∷ (codes "late\"", 1) ∷ (codes "subscription\"", 2) ∷ (codes "message\"", 2) ∷ (codes "ihave\"", 2)
    ∷ (codes "iwant\"", 2) ∷ (codes "graft\"", 2) ∷ (codes "prune\"", 2) ∷ (codes "heartbeat\"", 3) ∷ (codes "mesh\"", 4)
    ∷ (codes "fanout\"", 4) ∷ (codes "fanout_end\"", 4) ∷ (codes "gossip\"", 4) ∷ (codes "heartbeat_end\"", 4)
    ∷ (codes "subscribe\"", 5) ∷ (codes "unsubscribe\"", 5) ∷ (codes "publish\"", 5) ∷ (codes "raw\"", 5)
    ∷ (codes "hang_up\"", 5) ∷ (codes "gone\"", 6) ∷ (codes "fault\"", 6) ∷ (codes "decay\"", 7) ∷ (codes "round_end\"", 8)
    ∷ (codes "shut\"", 9) ∷ (codes "refused\"", 10) ∷ []

-- which outer event a text is of, by its word
abbrev pub text_sort : List ℕ → ℕ
text_sort text = sort_in words (drop 9 text)

abbrev pub event_sort : Event → ℕ
event_sort (Heard q rpc) = 0
event_sort (Late q rpc) = 1
event_sort (Part q part) = 2
event_sort BeatBegin = 3
event_sort (Step step) = 4
event_sort (Own act) = 5
event_sort (Lost q loss) = 6
event_sort Decay = 7
event_sort (RoundEnd r) = 8
event_sort Shut = 9

pub sort_told : (names : List (List ℕ)) (x : Event) (s : List ℕ) → text_sort (event_members names x ++ s) ≡ event_sort x
sort_told names (Part q (Sub part)) s = refl
sort_told names (Step BeatEnd) s = refl
sort_told names (Own (HangUp q)) s = refl
sort_told names (Lost q Gone) s = refl
sort_told names x s = refl

-- ---- events

module _ (names : List (List ℕ)) (stored : AllByRecursion AreStoredBytes names) (differ : Differ names) where
  peers : TellsAll NoDigit IsStoredPeer (peer_text names)
  peers = tell_peer names stored differ

  pub from_peer : (word : List ℕ) → TellsAll NoDigit IsStoredPeer (λ q. event_text word ++ from_text names q)
  from_peer word = front (event_text word) (front (codes ",\"from\":") peers)

  -- an RPC of a neighbour
  abbrev IsStoredHearing : PeerNo × Rpc → Type 0
  IsStoredHearing x = IsStoredPeer x.0 × IsStoredRpc x.1

  hearing : (word : List ℕ) → TellsAll Anything IsStoredHearing (λ x. event_text word ++ from_text names x.0 ++ rpc_member x.1)
  hearing word = and_next (of_part {Fits = IsStoredHearing} (from_peer word) (λ (x : PeerNo × Rpc). x.0) (λ x h. h.0))
      (front (codes ",\"rpc\":") (of_part tell_rpc (λ (x : PeerNo × Rpc). x.1) (λ x h. h.1))) (λ x s. refl)

  -- a part of an RPC
  part_of : {P : Type 0} {Fits : P → Type 0} {f : P → List ℕ} (word : List ℕ) → TellsAll Anything Fits f
      → TellsAll Anything (λ (x : PeerNo × P). IsStoredPeer x.0 × Fits x.1) (λ x. event_text word ++ from_text names x.0 ++ codes ",\"part\":" ++ f x.1)
  part_of {P = P} {Fits = Fits} word told =
      next (of_part {Fits = λ (x : PeerNo × P). IsStoredPeer x.0 × Fits x.1} (from_peer word) (λ (x : PeerNo × P). x.0) (λ x h. h.0))
      (codes ",\"part\":") (λ s. refl) (of_part told (λ (x : PeerNo × P). x.1) (λ x h. h.1))

  message_part : TellsAll Anything IsStoredMessage (λ m. part_text (Msg m))
  message_part = and_its (back {After = Anything} tell_message (codes ",\"id\":") (λ s. tt)) (λ m. id_text (message_id (payload_of m)))

  part_by : (q r : PeerNo) (x y : RpcPart) (s t : List ℕ) → IsStoredPeer q × IsStoredPart x → IsStoredPeer r × IsStoredPart y
      → event_members names (Part q x) ++ s ≡ event_members names (Part r y) ++ t → (Part q x ≡ Part r y) × (s ≡ t)
  part_by q r (Sub a) (Sub b) s t hx hy e =
      let both = (part_of (codes "subscription") tell_sub).tell (q, a) (r, b) s t tt tt hx hy e in
      (ap (λ (x : PeerNo × SubOpt). Part x.0 (Sub x.1)) both.0, both.1)
  part_by q r (Sub a) y s t hx hy e = absurd (clashes _ _ refl e)
  part_by q r (Msg a) (Msg b) s t hx hy e =
      let both = (part_of (codes "message") message_part).tell (q, a) (r, b) s t tt tt hx hy e in
      (ap (λ (x : PeerNo × Message). Part x.0 (Msg x.1)) both.0, both.1)
  part_by q r (Msg a) y s t hx hy e = absurd (clashes _ _ refl e)
  part_by q r (Have a) (Have b) s t hx hy e =
      let both = (part_of (codes "ihave") tell_ihave).tell (q, a) (r, b) s t tt tt hx hy e in
      (ap (λ (x : PeerNo × IHave). Part x.0 (Have x.1)) both.0, both.1)
  part_by q r (Have a) y s t hx hy e = absurd (clashes _ _ refl e)
  part_by q r (Want a) (Want b) s t hx hy e =
      let both = (part_of (codes "iwant") tell_iwant).tell (q, a) (r, b) s t tt tt hx hy e in
      (ap (λ (x : PeerNo × IWant). Part x.0 (Want x.1)) both.0, both.1)
  part_by q r (Want a) y s t hx hy e = absurd (clashes _ _ refl e)
  part_by q r (GraftIn a) (GraftIn b) s t hx hy e =
      let both = (part_of (codes "graft") tell_graft).tell (q, a) (r, b) s t tt tt hx hy e in
      (ap (λ (x : PeerNo × Graft). Part x.0 (GraftIn x.1)) both.0, both.1)
  part_by q r (GraftIn a) y s t hx hy e = absurd (clashes _ _ refl e)
  part_by q r (PruneIn a) (PruneIn b) s t hx hy e =
      let both = (part_of (codes "prune") tell_prune).tell (q, a) (r, b) s t tt tt hx hy e in
      (ap (λ (x : PeerNo × Prune). Part x.0 (PruneIn x.1)) both.0, both.1)
  part_by q r (PruneIn a) y s t hx hy e = absurd (clashes _ _ refl e)

  -- what an act publishes, and what it puts on a link
  abbrev IsStoredPublication : Topic × List ℕ → Type 0
  IsStoredPublication x = IsStoredTopic x.0 × AreStoredBytes x.1

  publishing : TellsAll Anything IsStoredPublication (λ x. event_text (codes "publish") ++ topic_member x.0 ++ payload_members x.1)
  publishing = and_then (of_part {Fits = IsStoredPublication} (on_topic (codes "publish")) (λ (x : Topic × List ℕ). x.0) (λ x h. h.0))
      (of_part tell_payload (λ (x : Topic × List ℕ). x.1) (λ x h. h.1))

  abbrev IsStoredRaw : PeerNo × List ℕ → Type 0
  IsStoredRaw x = IsStoredPeer x.0 × AreStoredBytes x.1

  raw : TellsAll Anything IsStoredRaw (λ x. event_text (codes "raw") ++ codes ",\"to\":" ++ peer_text names x.0 ++ codes ",\"bytes\":" ++ hex_text x.1)
  raw = next (front (event_text (codes "raw") ++ codes ",\"to\":") (of_part {Fits = IsStoredRaw} peers (λ (x : PeerNo × List ℕ). x.0) (λ x h. h.0)))
      (codes ",\"bytes\":") (λ s. refl) (of_part tell_hex (λ (x : PeerNo × List ℕ). x.1) (λ x h. h.1))

  tell_act : TellsAll NoDigit IsStoredAct (act_members names)
  tell_act = record { tell = by }
    where
      by : (x y : Act) (s t : List ℕ) → NoDigit s → NoDigit t → IsStoredAct x → IsStoredAct y → act_members names x ++ s ≡ act_members names y ++ t → (x ≡ y) × (s ≡ t)
      by (Subscribe a) (Subscribe b) s t fs ft hx hy e =
          let both = (on_topic (codes "subscribe")).tell a b s t tt tt hx hy e in (ap Subscribe both.0, both.1)
      by (Subscribe a) y s t fs ft hx hy e = absurd (clashes _ _ refl e)
      by (Unsubscribe a) (Unsubscribe b) s t fs ft hx hy e =
          let both = (on_topic (codes "unsubscribe")).tell a b s t tt tt hx hy e in (ap Unsubscribe both.0, both.1)
      by (Unsubscribe a) y s t fs ft hx hy e = absurd (clashes _ _ refl e)
      by (Publish a u) (Publish b v) s t fs ft hx hy e =
          let both = publishing.tell (a, u) (b, v) s t tt tt hx hy e in
          (ap (λ (x : Topic × List ℕ). Publish x.0 x.1) both.0, both.1)
      by (Publish a u) y s t fs ft hx hy e = absurd (clashes _ _ refl e)
      by (Raw q u) (Raw r v) s t fs ft hx hy e =
          let both = raw.tell (q, u) (r, v) s t tt tt hx hy e in
          (ap (λ (x : PeerNo × List ℕ). Raw x.0 x.1) both.0, both.1)
      by (Raw q u) y s t fs ft hx hy e = absurd (clashes _ _ refl e)
      by (HangUp q) (HangUp r) s t fs ft hx hy e =
          let both = (front (event_text (codes "hang_up") ++ codes ",\"to\":") peers).tell q r s t fs ft hx hy e in
          (ap HangUp both.0, both.1)
      by (HangUp q) y s t fs ft hx hy e = absurd (clashes _ _ refl e)

  loss_by : (q r : PeerNo) (x y : Loss) (s t : List ℕ) → NoDigit s → NoDigit t → IsStoredPeer q → IsStoredPeer r
      → event_members names (Lost q x) ++ s ≡ event_members names (Lost r y) ++ t → (Lost q x ≡ Lost r y) × (s ≡ t)
  loss_by q r Gone Gone s t fs ft hx hy e =
      let both = (from_peer (codes "gone")).tell q r s t fs ft hx hy e in
      (ap (λ (p : PeerNo). Lost p Gone) both.0, both.1)
  loss_by q r Gone Fault s t fs ft hx hy e = absurd (clashes _ _ refl e)
  loss_by q r Fault Gone s t fs ft hx hy e = absurd (clashes _ _ refl e)
  loss_by q r Fault Fault s t fs ft hx hy e =
      let both = (from_peer (codes "fault")).tell q r s t fs ft hx hy e in
      (ap (λ (p : PeerNo). Lost p Fault) both.0, both.1)

  event_by : (x y : Event) (s t : List ℕ) → NoDigit s → NoDigit t → IsStoredEvent x → IsStoredEvent y
      → event_sort x ≡ event_sort y → event_members names x ++ s ≡ event_members names y ++ t → (x ≡ y) × (s ≡ t)
  event_by (Heard q a) (Heard r b) s t fs ft hx hy same e =
      let both = (hearing (codes "heard")).tell (q, a) (r, b) s t tt tt hx hy e in
      (ap (λ (x : PeerNo × Rpc). Heard x.0 x.1) both.0, both.1)
  event_by (Heard q a) y s t fs ft hx hy same e = absurd (eqb-false _ _ refl same)
  event_by (Late q a) (Late r b) s t fs ft hx hy same e =
      let both = (hearing (codes "late")).tell (q, a) (r, b) s t tt tt hx hy e in
      (ap (λ (x : PeerNo × Rpc). Late x.0 x.1) both.0, both.1)
  event_by (Late q a) y s t fs ft hx hy same e = absurd (eqb-false _ _ refl same)
  event_by (Part q a) (Part r b) s t fs ft hx hy same e = part_by q r a b s t hx hy e
  event_by (Part q a) y s t fs ft hx hy same e = absurd (eqb-false _ _ refl same)
  event_by BeatBegin BeatBegin s t fs ft hx hy same e = (refl, ap (drop 19) e)
  event_by BeatBegin y s t fs ft hx hy same e = absurd (eqb-false _ _ refl same)
  event_by (Step a) (Step b) s t fs ft hx hy same e =
      let both = tell_step.tell a b s t tt tt hx hy e in (ap Step both.0, both.1)
  event_by (Step a) y s t fs ft hx hy same e = absurd (eqb-false _ _ refl same)
  event_by (Own a) (Own b) s t fs ft hx hy same e =
      let both = tell_act.tell a b s t fs ft hx hy e in (ap Own both.0, both.1)
  event_by (Own a) y s t fs ft hx hy same e = absurd (eqb-false _ _ refl same)
  event_by (Lost q a) (Lost r b) s t fs ft hx hy same e = loss_by q r a b s t fs ft hx hy e
  event_by (Lost q a) y s t fs ft hx hy same e = absurd (eqb-false _ _ refl same)
  event_by Decay Decay s t fs ft hx hy same e = (refl, ap (drop 15) e)
  event_by Decay y s t fs ft hx hy same e = absurd (eqb-false _ _ refl same)
  event_by (RoundEnd a) (RoundEnd b) s t fs ft hx hy same e =
      let both = (front (event_text (codes "round_end") ++ codes ",\"number\":") tell_number).tell a b s t fs ft hx hy e in
      (ap RoundEnd both.0, both.1)
  event_by (RoundEnd a) y s t fs ft hx hy same e = absurd (eqb-false _ _ refl same)
  event_by Shut Shut s t fs ft hx hy same e = (refl, ap (drop 14) e)
  event_by Shut y s t fs ft hx hy same e = absurd (eqb-false _ _ refl same)

  pub tell_event : TellsAll NoDigit IsStoredEvent (event_members names)
  tell_event = record {
    tell = λ x y s t fs ft hx hy e.
        let same : event_sort x ≡ event_sort y = sym (sort_told names x s) ∙ ap text_sort e ∙ sort_told names y t in
        event_by x y s t fs ft hx hy same e;
  }
