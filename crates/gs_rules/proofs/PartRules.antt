-- What an entry of a part of an RPC has, kind by kind: a message that it delivers is fresh, what it sends fits a frame, and
-- its marks are such as it may have. A kind of control message has a line in each.
use Rattle.std.proofs.Common.{◌≡◌, refl, []}
use Rattle.std.specs.List.{AllByRecursion}
use Rattle.gs_base.specs.declared.names.PeerNo.{PeerNo}
use Rattle.gs_base.specs.declared.names.MsgId.{MsgId}
use Rattle.gs_base.specs.Names.{topic_or_empty}
use Rattle.gs_rules.specs.declared.event.Event.TheVariants.{Part}
use Rattle.gs_rules.specs.declared.event.RpcPart.{RpcPart}
use Rattle.gs_rules.specs.declared.event.RpcPart.TheVariants.{Sub, Msg, Have, Want, GraftIn, PruneIn}
use Rattle.gs_rules.specs.declared.trace.Entry.{Entry}
use Rattle.gs_rules.specs.declared.trace.Effects.{Effects}
use Rattle.gs_rules.specs.Peers.{Peer}
use Rattle.gs_rules.specs.Tables.{Entries, message_of_part}
use Rattle.gs_rules.specs.MeshRules.{prune_rule, sub_rule}
use Rattle.gs_rules.specs.Rules.{answers, ids_in, part_rule, want_rule}
use Rattle.gs_rules.specs.Modes.{Follows, free}
use Rattle.gs_rules.specs.Legal.{Delivers, Legal}
use Rattle.gs_rules.proofs.Judged.{of_a_request}
use Rattle.gs_rules.proofs.Ruled.{of_a_graft, of_a_prune, of_a_sub}
use Rattle.gs_rules.proofs.Fresh.{IsFresh, delivers_none, heard, offered, requested}
use Rattle.gs_rules.proofs.Kept.{FitsAlone}
use Rattle.gs_rules.proofs.Written.{SendsWritten, message_fits, offer_fits, refusal_fits, request_fits, same_fits}
use Rattle.gs_rules.proofs.Marks.{MayMark, Marks, answer_marks, graft_marks, message_marks, offer_marks, prune_marks, same_marks, sub_marks}

module _ (p : Peer) (L : Entries) (q : PeerNo) (e : Entry) where
  -- the entry does what the rule of the part says
  abbrev FollowsOf : RpcPart → Type 0
  FollowsOf part = Follows free (part_rule p L e.at q part) tt e.effects tt

  -- only a message delivers
  pub part_is_fresh : (id : MsgId) (part : RpcPart) → FollowsOf part → Delivers e id → IsFresh p L e id
  part_is_fresh id (Sub sub) effects delivers =
      delivers_none p L e (sub_rule p L e.at q sub) id effects.0 (of_a_sub (λ (x : Effects). x.delivered ≡ []) p L e.at q sub refl refl) delivers
  part_is_fresh id (Msg m) effects delivers = heard p L q m e id effects.0 delivers
  part_is_fresh id (Have offer) effects delivers = offered p L q offer e id effects delivers
  part_is_fresh id (Want request) effects delivers = requested p L q request e id effects.0 delivers
  part_is_fresh id (GraftIn graft) effects delivers =
      delivers_none p L e _ id effects.0 (of_a_graft (λ (x : Effects). x.delivered ≡ []) p L e.at q (topic_or_empty graft.topic) refl (λ on. refl) (λ on. refl) (λ on ordinary late. refl)) delivers
  part_is_fresh id (PruneIn prune) effects delivers =
      delivers_none p L e (prune_rule p L e.at q prune) id effects.0 (of_a_prune (λ (x : Effects). x.delivered ≡ []) p L e.at q prune refl refl) delivers

  -- it sends what fits, where the message that it brings fits by itself
  pub part_fits : Legal p L → (part : RpcPart) → FitsAlone (message_of_part part) → FollowsOf part → SendsWritten e.effects.sends
  part_fits legal (Sub sub) alone effects =
      same_fits e (sub_rule p L e.at q sub) effects.0 (of_a_sub (λ (x : Effects). SendsWritten x.sends) p L e.at q sub tt tt)
  part_fits legal (Msg m) alone effects = same_fits e _ effects.0 (message_fits p L e.at q m alone)
  part_fits legal (Have offer) alone effects = offer_fits p L q offer e effects
  part_fits legal (Want request) alone effects = same_fits e (want_rule p L e.at q request) effects.0 (request_fits p L e.at q request legal)
  part_fits legal (GraftIn graft) alone effects = same_fits e _ effects.0 (refusal_fits p L e.at q (topic_or_empty graft.topic) legal)
  part_fits legal (PruneIn prune) alone effects =
      same_fits e (prune_rule p L e.at q prune) effects.0 (of_a_prune (λ (x : Effects). SendsWritten x.sends) p L e.at q prune tt tt)

  -- its marks are such as it may have
  pub part_marks : (part : RpcPart) → FollowsOf part → AllByRecursion (MayMark p L e.at.0 (Part q part)) e.effects.marks
  part_marks (Sub sub) effects = same_marks _ e _ effects.0 (sub_marks p L e.at q sub)
  part_marks (Msg m) effects = same_marks _ e _ effects.0 (message_marks p L e.at q m)
  part_marks (Have offer) effects = offer_marks p L q offer e effects
  part_marks (Want request) effects =
      same_marks _ e (want_rule p L e.at q request) effects.0
      (of_a_request (λ (x : Effects). Marks p L e.at.0 (Part q (Want request)) x.marks) p L e.at q request tt (answer_marks p L e.at.0 (Part q (Want request)) q (answers p L q [] (ids_in request.ids))))
  part_marks (GraftIn graft) effects = same_marks _ e _ effects.0 (graft_marks p L e.at q graft)
  part_marks (PruneIn prune) effects = same_marks _ e _ effects.0 (prune_marks p L e.at q prune)
