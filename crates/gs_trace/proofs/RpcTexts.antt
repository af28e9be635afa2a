-- The text of an RPC, and of each of its parts, tells it.
use Rattle.std.proofs.Common.{◌≡◌, ℕ, List, ◌∷◌, ◌++◌, codes, Option, None, arith, Some, Bool, refl}
use Rattle.std.specs.List.{AllByRecursion}
use Rattle.gs_base.specs.declared.control.Control.{Control}
use Rattle.gs_base.specs.declared.control.Graft.{Graft}
use Rattle.gs_base.specs.declared.control.IHave.{IHave}
use Rattle.gs_base.specs.declared.control.IWant.{IWant}
use Rattle.gs_base.specs.declared.control.Prune.{Prune}
use Rattle.gs_base.specs.declared.rpc.Message.{Message}
use Rattle.gs_base.specs.declared.rpc.Rpc.{Rpc}
use Rattle.gs_base.specs.declared.rpc.SubOpt.{SubOpt}
use Rattle.gs_trace.specs.Rpcs.{control_text, graft_text, ihave_text, iwant_text, message_text, prune_text, rpc_text, sub_text}
use Rattle.gs_trace.specs.Stored.{AreStoredBytes, IfThere, IsStoredControl, IsStoredGraft, IsStoredIHave, IsStoredIWant, IsStoredMessage, IsStoredPrune, IsStoredRpc, IsStoredSub}
use Rattle.gs_trace.specs.Texts.{hex_text, list_text}
use Rattle.gs_trace.proofs.Prefixes.{Anything, NoDigit, TellsAll, anywhere, back, clashes, front, made, next, of_part}
use Rattle.gs_trace.proofs.Numbers.{decimal_avoids}
use Rattle.gs_trace.proofs.Quotes.{tell_hex}
use Rattle.gs_trace.proofs.Values.{AnyTruth, tell_hex_or_null, tell_list, tell_number, tell_optional, tell_topic_or_null, tell_truth, truth_is_not_null}

-- ---- parts

any_truth : (b : Option Bool) → IfThere AnyTruth b
any_truth None = tt
any_truth (Some b) = tt

pub tell_sub : TellsAll Anything IsStoredSub sub_text
tell_sub = made (back {After = Anything} (next
    (front (codes "{\"subscribe\":") (of_part {Fits = IsStoredSub} (tell_optional tell_truth truth_is_not_null) (λ (s : SubOpt). s.subscribe) (λ s h. any_truth s.subscribe)))
    (codes ",\"topicid\":") (λ s. tt) (of_part tell_topic_or_null (λ (s : SubOpt). s.topic) (λ s h. h.topic)))
    (codes "}") (λ s. tt))
    (λ p. record { subscribe = p.0; topic = p.1 })

pub tell_message : TellsAll Anything IsStoredMessage message_text
tell_message = made (back {After = Anything} (next (next (next (next (next
    (front (codes "{\"from\":") (of_part {Fits = IsStoredMessage} tell_hex_or_null (λ (m : Message). m.origin) (λ m h. h.origin)))
    (codes ",\"data\":") (λ s. tt) (of_part tell_hex_or_null (λ (m : Message). m.payload) (λ m h. h.payload)))
    (codes ",\"seqno\":") (λ s. tt) (of_part tell_hex_or_null (λ (m : Message). m.seqno) (λ m h. h.seqno)))
    (codes ",\"topic\":") (λ s. tt) (of_part tell_topic_or_null (λ (m : Message). m.topic) (λ m h. h.topic)))
    (codes ",\"signature\":") (λ s. tt) (of_part tell_hex_or_null (λ (m : Message). m.signature) (λ m h. h.signature)))
    (codes ",\"key\":") (λ s. tt) (of_part tell_hex_or_null (λ (m : Message). m.key) (λ m h. h.key)))
    (codes "}") (λ s. tt))
    (λ p. record { origin = p.0.0.0.0.0; payload = p.0.0.0.0.1; seqno = p.0.0.0.1; topic = p.0.0.1; signature = p.0.1; key = p.1 })

tell_ids : TellsAll Anything (AllByRecursion AreStoredBytes) (list_text hex_text)
tell_ids = tell_list (anywhere tell_hex) (λ bytes s t h e. clashes _ _ refl e)

pub tell_ihave : TellsAll Anything IsStoredIHave ihave_text
tell_ihave = made (back {After = Anything} (next
    (front (codes "{\"topicID\":") (of_part {Fits = IsStoredIHave} tell_topic_or_null (λ (x : IHave). x.topic) (λ x h. h.topic)))
    (codes ",\"messageIDs\":") (λ s. tt) (of_part tell_ids (λ (x : IHave). x.ids) (λ x h. h.ids)))
    (codes "}") (λ s. tt))
    (λ p. record { topic = p.0; ids = p.1 })

pub tell_iwant : TellsAll Anything IsStoredIWant iwant_text
tell_iwant = made (back {After = Anything}
    (front (codes "{\"messageIDs\":") (of_part {Fits = IsStoredIWant} tell_ids (λ (x : IWant). x.ids) (λ x h. h.ids)))
    (codes "}") (λ s. tt))
    (λ ids. record { ids = ids })

pub tell_graft : TellsAll Anything IsStoredGraft graft_text
tell_graft = made (back {After = Anything}
    (front (codes "{\"topicID\":") (of_part {Fits = IsStoredGraft} tell_topic_or_null (λ (x : Graft). x.topic) (λ x h. h.topic)))
    (codes "}") (λ s. tt))
    (λ topic. record { topic = topic })

pub tell_prune : TellsAll Anything IsStoredPrune prune_text
tell_prune = made (back {After = NoDigit} (next
    (front (codes "{\"topicID\":") (of_part {Fits = IsStoredPrune} tell_topic_or_null (λ (x : Prune). x.topic) (λ x h. h.topic)))
    (codes ",\"backoff\":") (λ s. tt)
    (of_part (tell_optional tell_number (λ n s t h e. decimal_avoids 110 refl n s t (omega arith) e)) (λ (x : Prune). x.backoff) (λ x h. h.backoff)))
    (codes "}") (λ s. refl))
    (λ p. record { topic = p.0; backoff = p.1 })

-- ---- whole ones

-- the texts of objects in a list
tell_objects : {A : Type 0} {Fits : A → Type 0} {f : A → List ℕ} → TellsAll Anything Fits f → ((x : A) (s t : List ℕ) → f x ++ s ≡ 93 ∷ t → ⊥) → TellsAll Anything (AllByRecursion Fits) (list_text f)
tell_objects told object = tell_list (anywhere told) (λ x s t h e. object x s t e)

pub tell_control : TellsAll Anything IsStoredControl control_text
tell_control = made (back {After = Anything} (next (next (next
    (front (codes "{\"ihave\":") (of_part {Fits = IsStoredControl} (tell_objects tell_ihave (λ x s t e. clashes _ _ refl e)) (λ (c : Control). c.ihave) (λ c h. h.ihave)))
    (codes ",\"iwant\":") (λ s. tt) (of_part (tell_objects tell_iwant (λ x s t e. clashes _ _ refl e)) (λ (c : Control). c.iwant) (λ c h. h.iwant)))
    (codes ",\"graft\":") (λ s. tt) (of_part (tell_objects tell_graft (λ x s t e. clashes _ _ refl e)) (λ (c : Control). c.graft) (λ c h. h.graft)))
    (codes ",\"prune\":") (λ s. tt) (of_part (tell_objects tell_prune (λ x s t e. clashes _ _ refl e)) (λ (c : Control). c.prune) (λ c h. h.prune)))
    (codes "}") (λ s. tt))
    (λ p. record { ihave = p.0.0.0; iwant = p.0.0.1; graft = p.0.1; prune = p.1 })

pub tell_rpc : TellsAll Anything IsStoredRpc rpc_text
tell_rpc = made (back {After = Anything} (next (next
    (front (codes "{\"subscriptions\":") (of_part {Fits = IsStoredRpc} (tell_objects tell_sub (λ x s t e. clashes _ _ refl e)) (λ (r : Rpc). r.subs) (λ r h. h.subs)))
    (codes ",\"publish\":") (λ s. tt) (of_part (tell_objects tell_message (λ x s t e. clashes _ _ refl e)) (λ (r : Rpc). r.publish) (λ r h. h.publish)))
    (codes ",\"control\":") (λ s. tt) (of_part (tell_optional tell_control (λ x s t h e. clashes _ _ refl e)) (λ (r : Rpc). r.control) (λ r h. h.control)))
    (codes "}") (λ s. tt))
    (λ p. record { subs = p.0.0; publish = p.0.1; control = p.1 })
