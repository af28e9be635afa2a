-- Bytes spell one RPC at most.
use Rattle.std.proofs.Common.{◌≡◌, ℕ, List, [], ◌∷◌, Option, Some, sym, ap, subst, ◌∙◌}
use Rattle.gs_base.specs.declared.control.Control.{Control}
use Rattle.gs_base.specs.declared.rpc.SubOpt.{SubOpt}
use Rattle.gs_base.specs.declared.rpc.Message.{Message}
use Rattle.gs_base.specs.declared.rpc.Rpc.{Rpc}
use Rattle.gs_wire.specs.Records.{Record, SpellRecords, len_values}
use Rattle.gs_wire.specs.Fields.{Spells}
use Rattle.gs_wire.specs.Controls.{SaysControl, SaysMerged, joined}
use Rattle.gs_wire.specs.Messages.{SaysSub, SaysMessage, SaysRpc, SpellsRpc}
use Rattle.gs_wire.proofs.RecordLists.{one_list}
use Rattle.gs_wire.proofs.Zips.{AllZip-same}
use Rattle.gs_wire.proofs.Parts.{sub_of, message_of, one_said}
use Rattle.gs_wire.proofs.ControlKinds.{same_control}

same_merged : (values : List (List ℕ)) (c d : Option Control) → SaysMerged values c → SaysMerged values d → c ≡ d
same_merged [] c d p q = p ∙ sym q
same_merged (value ∷ values) c d p q =
    let lists = AllZip-same SpellRecords (λ (bytes : List ℕ) (rs qs : List Record). one_list rs qs bytes) (value ∷ values) p.1 q.1 p.3 q.3 in
    let same = same_control (joined q.1) p.0 q.0 (subst (λ (ls : List (List Record)). SaysControl (joined ls) p.0) lists p.4) q.4 in
    p.2 ∙ ap (λ (x : Control). Some x) same ∙ sym q.2

same_rpc : (rs : List Record) (v w : Rpc) → SaysRpc rs v → SaysRpc rs w → v ≡ w
same_rpc rs v w p q =
    let subs = AllZip-same (Spells SaysSub) (one_said sub_of) (len_values 1 rs) v.subs w.subs p.subs q.subs in
    let publish = AllZip-same (Spells SaysMessage) (one_said message_of) (len_values 2 rs) v.publish w.publish p.publish q.publish in
    let control = same_merged (len_values 3 rs) v.control w.control p.control q.control in
    ap (λ (s : List SubOpt). record v { subs = s }) subs
    ∙ ap (λ (m : List Message). record w { publish = m; control = v.control }) publish
    ∙ ap (λ (c : Option Control). record w { control = c }) control

pub one_rpc : (bytes : List ℕ) (v w : Rpc) → SpellsRpc bytes v → SpellsRpc bytes w → v ≡ w
one_rpc bytes v w p q = same_rpc q.0 v w (subst (λ (rs : List Record). SaysRpc rs v) (one_list p.0 q.0 bytes p.1 q.1) p.2) q.2
