-- The texts of RPCs, with the names of `rpc.proto`. Each field is always there, and an absent one is null.
use Rattle.std.specs.Prelude.{ℕ, List, ◌++◌, codes, decimal}
use Rattle.gs_base.specs.declared.control.Control.{Control}
use Rattle.gs_base.specs.declared.control.Graft.{Graft}
use Rattle.gs_base.specs.declared.control.IHave.{IHave}
use Rattle.gs_base.specs.declared.control.IWant.{IWant}
use Rattle.gs_base.specs.declared.control.Prune.{Prune}
use Rattle.gs_base.specs.declared.rpc.Message.{Message}
use Rattle.gs_base.specs.declared.rpc.Rpc.{Rpc}
use Rattle.gs_base.specs.declared.rpc.SubOpt.{SubOpt}
use Rattle.gs_trace.specs.Texts.{hex_text, list_text, optional_text, topic_text, truth_text}

abbrev pub sub_text : SubOpt → List ℕ
sub_text s =
    codes "{\"subscribe\":" ++ optional_text truth_text s.subscribe
    ++ codes ",\"topicid\":" ++ optional_text topic_text s.topic ++ codes "}"

abbrev pub message_text : Message → List ℕ
message_text m =
    codes "{\"from\":" ++ optional_text hex_text m.origin ++ codes ",\"data\":" ++ optional_text hex_text m.payload
    ++ codes ",\"seqno\":" ++ optional_text hex_text m.seqno ++ codes ",\"topic\":" ++ optional_text topic_text m.topic
    ++ codes ",\"signature\":" ++ optional_text hex_text m.signature
    ++ codes ",\"key\":" ++ optional_text hex_text m.key ++ codes "}"

abbrev pub ihave_text : IHave → List ℕ
ihave_text x =
    codes "{\"topicID\":" ++ optional_text topic_text x.topic
    ++ codes ",\"messageIDs\":" ++ list_text hex_text x.ids ++ codes "}"

abbrev pub iwant_text : IWant → List ℕ
iwant_text x = codes "{\"messageIDs\":" ++ list_text hex_text x.ids ++ codes "}"

abbrev pub graft_text : Graft → List ℕ
graft_text x = codes "{\"topicID\":" ++ optional_text topic_text x.topic ++ codes "}"

abbrev pub prune_text : Prune → List ℕ
prune_text x =
    codes "{\"topicID\":" ++ optional_text topic_text x.topic
    ++ codes ",\"backoff\":" ++ optional_text decimal x.backoff ++ codes "}"

abbrev pub control_text : Control → List ℕ
control_text c =
    codes "{\"ihave\":" ++ list_text ihave_text c.ihave ++ codes ",\"iwant\":" ++ list_text iwant_text c.iwant
    ++ codes ",\"graft\":" ++ list_text graft_text c.graft
    ++ codes ",\"prune\":" ++ list_text prune_text c.prune ++ codes "}"

abbrev pub rpc_text : Rpc → List ℕ
rpc_text r =
    codes "{\"subscriptions\":" ++ list_text sub_text r.subs ++ codes ",\"publish\":" ++ list_text message_text r.publish
    ++ codes ",\"control\":" ++ optional_text control_text r.control ++ codes "}"
