-- What there is to hear in a round is one.
use Rattle.std.proofs.Common.{◌≡◌, ℕ, zero, suc, Bool, List, ◌++◌, sym, ap, ap₂, ◌∙◌}
use Rattle.std.proofs.lemmas.List.{append_cancel_left}
use Rattle.gs_base.specs.declared.rpc.Rpc.{Rpc}
use Rattle.gs_base.specs.Tokens.{Said}
use Rattle.gs_wire.specs.declared.frames.End.{End}
use Rattle.gs_wire.specs.Messages.{longest_body}
use Rattle.gs_wire.proofs.FrameLists.{one_stream}
use Rattle.gs_rules.specs.Hearing.{ComesIn, Inbound, IsBetween, bytes_before}
use Rattle.gs_rules.proofs.Handled.{spelled_once}

same_inbound : (x y : Inbound) → x.rpcs ≡ y.rpcs → x.rest ≡ y.rest → x.end ≡ y.end → x.closes ≡ y.closes → x ≡ y
same_inbound x y rpcs rest end closes =
    ap (λ (vs : List Rpc). record x { rpcs = vs }) rpcs
    ∙ ap (λ (bytes : List ℕ). record x { rpcs = y.rpcs; rest = bytes }) rest
    ∙ ap₂ (λ (e : End) (c : Bool). record y { end = e; closes = c }) end closes

between_alone : (before whole : List ℕ) (x y : Inbound) → IsBetween before whole x → IsBetween before whole y → x.closes ≡ y.closes → x ≡ y
between_alone before whole x y h k closes =
    let earlier : h.earlier ≡ k.earlier = spelled_once before h.earlier k.earlier h.spell_before k.spell_before in
    let stream = one_stream longest_body whole (h.earlier ++ x.rpcs) (k.earlier ++ y.rpcs) x.rest y.rest x.end y.end h.stream k.stream in
    let rpcs : x.rpcs ≡ y.rpcs = append_cancel_left k.earlier x.rpcs y.rpcs (ap (λ (vs : List Rpc). vs ++ x.rpcs) (sym earlier) ∙ stream.0) in
    same_inbound x y rpcs stream.1 stream.2 closes

pub comes_alone : (r : ℕ) (w : Said) (x y : Inbound) → ComesIn r w x → ComesIn r w y → x ≡ y
comes_alone zero w x y h k = h ∙ sym k
comes_alone (suc r) w x y h k = between_alone (bytes_before r w) (bytes_before (suc r) w) x y h.0 k.0 (h.1 ∙ sym k.1)
