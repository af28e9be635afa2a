-- The lines of a script that a peer follows, one after the other.
use Rattle.std.proofs.Common.{◌≡◌, ◌≢◌, ℕ, ◌+◌, ◌<◌, Bool, true, false, List, [], ◌∷◌, ◌++◌, cond, length, drop, get_or, filter, refl, sym, ap, ◌∙◌, append_assoc, append-nil, true≢false}
use Rattle.std.proofs.lemmas.Bool.Decides.{Decides-eqb}
use Rattle.gs_params.proofs.Picking.{same_peer_decides}
use Rattle.std.specs.List.{enumerate_from}
use Rattle.std.proofs.lemmas.List.{drop_more}
use Rattle.std.proofs.lemmas.List.Elements.{filter-append}
use Rattle.gs_base.specs.declared.names.PeerNo.{PeerNo}
use Rattle.gs_base.specs.Names.{same_peer}
use Rattle.gs_plan.specs.declared.plan.Line.{Line}
use Rattle.gs_seats.specs.Rounds.{is_for}

-- those of a script's lines that a peer follows, where the first stands at this place
abbrev pub own_from : ℕ → PeerNo → List Line → List (ℕ × Line)
own_from place p script = filter (is_for p) (enumerate_from place script)

-- a line was put after those of its peer, and the others stayed
pub put_own : (p : PeerNo) (line : ℕ × Line) (old new : List (ℕ × Line)) → (line.1.peer ≡ p → new ≡ old ++ line ∷ []) → (p.0 ≢ line.1.peer.0 → new ≡ old) → new ≡ old ++ filter (is_for p) (line ∷ [])
put_own p line old new same other = by (same_peer line.1.peer p) refl
  where
    by : (b : Bool) → same_peer line.1.peer p ≡ b → new ≡ old ++ filter (is_for p) (line ∷ [])
    by true is = same ((same_peer_decides line.1.peer p).0 is) ∙ sym (ap (λ (t : Bool). old ++ cond t (line ∷ []) []) is)
    by false is = other (λ e. true≢false (sym ((Decides-eqb line.1.peer.0 p.0).1 (sym e)) ∙ is)) ∙ sym (append-nil old) ∙ sym (ap (λ (t : Bool). old ++ cond t (line ∷ []) []) is)

-- one more line is listed for a peer, and the others are left
pub line_listed : (p : PeerNo) (place : ℕ) (script : List Line) (line : Line) (before longer all : List (ℕ × Line)) → place < length script → line ≡ get_or script place line → longer ≡ before ++ filter (is_for p) ((place, line) ∷ []) → before ++ own_from place p (drop place script) ≡ all
    → longer ++ own_from (place + 1) p (drop (place + 1) script) ≡ all
line_listed p place script line before longer all below there more is =
    let rest : List Line = drop (place + 1) script in
    let here : drop place script ≡ line ∷ rest = drop_more script place line below ∙ ap (λ (x : Line). x ∷ rest) (sym there) in
    ap (λ (xs : List (ℕ × Line)). xs ++ own_from (place + 1) p rest) more
    ∙ append_assoc before (filter (is_for p) ((place, line) ∷ [])) (own_from (place + 1) p rest)
    ∙ ap (λ (xs : List (ℕ × Line)). before ++ xs) (sym (ap (own_from place p) here ∙ filter-append (is_for p) ((place, line) ∷ []) (enumerate_from (place + 1) rest)))
    ∙ is
