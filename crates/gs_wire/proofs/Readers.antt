-- What a reader holds after feeds.
use Rattle.std.proofs.Common.{◌≡◌, ℕ, List, [], ◌∷◌, ◌++◌, Some, None, refl, sym, ap, subst, subst₂, ◌∙◌, append_assoc, append-nil, arith, inl, inr}
use Rattle.std.specs.List.{concat}
use Rattle.std.proofs.lemmas.Option.{none-some, same_Some}
use Rattle.gs_base.specs.declared.rpc.Rpc.{Rpc}
use Rattle.gs_wire.specs.declared.frames.End.{End}
use Rattle.gs_wire.specs.declared.frames.End.TheVariants as ends
use Rattle.gs_wire.specs.Stream.{IsStream, Holding, held_after, FeedsOnce, FeedsAll, HasRead}
use Rattle.gs_wire.proofs.FrameLists.{streams_join, fault_stays, too_long_stays, malformed_stays}

pub read_nothing : (limit : ℕ) → HasRead limit [] (record { limit = limit; held = Some [] }) []
read_nothing limit = record { rest = []; end = ends.Waits; stream = record { front = []; parts = refl; frames = refl; goes_on = inl (omega arith, tt) }; holds = refl }

-- a feed while the stream waits
read_waiting : (limit : ℕ) (bytes piece rest : List ℕ) (old new : Holding) (vs found : List Rpc) → IsStream limit bytes vs rest ends.Waits → old ≡ record { limit = limit; held = Some rest } → FeedsOnce old piece new found → HasRead limit (bytes ++ piece) new (vs ++ found)
read_waiting limit bytes piece rest old new vs found stream holds once = elim once [
  | inl fed ↦
      let f = fed.1 in
      let limits : old.limit ≡ limit = ap (λ (r : Holding). r.limit) holds in
      let same : f.held ≡ rest = same_Some f.held rest (sym f.was_held ∙ ap (λ (r : Holding). r.held) holds) in
      let second : IsStream limit (rest ++ piece) f.found f.rest fed.0 = subst₂ (λ (n : ℕ) (t : List ℕ). IsStream n (t ++ piece) f.found f.rest fed.0) limits same f.stream in
      let added : found ≡ f.found = f.added in
      record {
        rest = f.rest;
        end = fed.0;
        stream = subst (λ (ws : List Rpc). IsStream limit (bytes ++ piece) (vs ++ ws) f.rest fed.0) (sym added) (streams_join limit bytes piece rest f.rest vs f.found fed.0 stream second);
        holds = f.keeps ∙ ap (λ (n : ℕ). record { limit = n; held = held_after fed.0 f.rest }) limits;
      }
  | inr none ↦ absurd (none-some rest (sym none.0 ∙ ap (λ (r : Holding). r.held) holds))
]

-- a feed after a fault
read_failed : (limit : ℕ) (bytes piece rest : List ℕ) (old new : Holding) (vs found : List Rpc) (end : End) → IsStream limit (bytes ++ piece) vs (rest ++ piece) end → held_after end (rest ++ piece) ≡ None → old ≡ record { limit = limit; held = None } → FeedsOnce old piece new found → HasRead limit (bytes ++ piece) new (vs ++ found)
read_failed limit bytes piece rest old new vs found end stream failed holds once = elim once [
  | inl fed ↦ absurd (none-some fed.1.held (sym (ap (λ (r : Holding). r.held) holds) ∙ fed.1.was_held))
  | inr none ↦ record {
    rest = rest ++ piece;
    end = end;
    stream = subst (λ (ws : List Rpc). IsStream limit (bytes ++ piece) ws (rest ++ piece) end) (sym (ap (λ (ws : List Rpc). vs ++ ws) none.2 ∙ append-nil vs)) stream;
    holds = rw failed (none.1 ∙ holds);
  }
]

pub read_once : (limit : ℕ) (bytes piece : List ℕ) (old new : Holding) (vs found : List Rpc) → HasRead limit bytes old vs → FeedsOnce old piece new found → HasRead limit (bytes ++ piece) new (vs ++ found)
read_once limit bytes piece old new vs found h once = by_end h.rest h.end h.stream h.holds
  where
    by_end : (rest : List ℕ) (end : End) → IsStream limit bytes vs rest end → old ≡ record { limit = limit; held = held_after end rest } → HasRead limit (bytes ++ piece) new (vs ++ found)
    by_end rest ends.Waits stream holds = read_waiting limit bytes piece rest old new vs found stream holds once
    by_end rest ends.TooLong stream holds = read_failed limit bytes piece rest old new vs found ends.TooLong (fault_stays limit bytes piece rest vs ends.TooLong (too_long_stays limit rest piece) stream) refl holds once
    by_end rest ends.Malformed stream holds = read_failed limit bytes piece rest old new vs found ends.Malformed (fault_stays limit bytes piece rest vs ends.Malformed (malformed_stays limit rest piece) stream) refl holds once

read_on : (limit : ℕ) (pieces : List (List ℕ)) (bytes : List ℕ) (old new : Holding) (vs more : List Rpc) → HasRead limit bytes old vs → FeedsAll old pieces new more → HasRead limit (bytes ++ concat pieces) new (vs ++ more)
read_on limit [] bytes old new vs more h feeds = rw (feeds.0, feeds.1, append-nil bytes, append-nil vs) h
read_on limit (piece ∷ pieces) bytes old new vs more h feeds =
    let first = read_once limit bytes piece old feeds.0 vs feeds.1 h feeds.3 in
    let all = read_on limit pieces (bytes ++ piece) feeds.0 new (vs ++ feeds.1) feeds.2 first feeds.4 in
    subst₂ (λ (t : List ℕ) (ws : List Rpc). HasRead limit t new ws) (append_assoc bytes piece (concat pieces)) (append_assoc vs feeds.1 feeds.2 ∙ ap (λ (ws : List Rpc). vs ++ ws) (sym feeds.5)) all

pub reader_holds : (limit : ℕ) (pieces : List (List ℕ)) (reader : Holding) (vs : List Rpc) → FeedsAll (record { limit = limit; held = Some [] }) pieces reader vs → HasRead limit (concat pieces) reader vs
reader_holds limit pieces reader vs feeds = read_on limit pieces [] (record { limit = limit; held = Some [] }) reader [] vs (read_nothing limit) feeds
