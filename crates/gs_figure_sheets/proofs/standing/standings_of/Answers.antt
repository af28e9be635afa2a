use Rattle.std.proofs.Common.{◌≡◌, ◌++◌, ◌∷◌, [], ℕ, List, length, map, take, ap, ap₂, sym, subst₂, ◌∙◌}
use Rattle.std.specs.Prelude.{None, Option, slice_get, unwrap_or}
use Rattle.std.proofs.lemmas.List.{length-map}
use Rattle.gs_base.specs.declared.names.PeerNo.{PeerNo}
use Rattle.gs_counts.specs.declared.span.Span.{Span}
use Rattle.gs_report.specs.declared.remains.Remains.{Remains}
use Rattle.gs_figure_sheets.specs.declared.standing.Standing.{Standing}
use Rattle.gs_figure_sheets.specs.Standings.{meshes_if, standing_of}
use Rattle.gs_figure_sheets.proofs.Standings.{Life, as_long, front_and_one, fronts, left, stands}
use Rattle.gs_figure_sheets.proofs.standing.standings_of.Goals as goal

pub loop-peer-preserved : goal.loop-peer-preserved
loop-peer-preserved c = (
  tt,
  tt,
  λ among lives same prefix.
      let ys = c.loop-peer.yielded in
      let old : List Standing = c.loop-peer.standings in
      let one : PeerNo × Remains = (c.in-Some.peer, c.in-Some.one) in
      let (before, x, after, whole, are, is) = fronts ys one lives prefix in
      let all : List Life = before ++ x ∷ after in
      let (next, finite, so) = c.loop-peer.invariant in
      let stood = subst₂ (λ (ls : List Life) (zs : List (PeerNo × Remains)). zs ≡ take (length zs) (map left ls) → old ≡ map (standing_of among) (take (length zs) ls)) whole (sym are) (so among lives same) in
      stands among before after x old c.push.new.self c.meshes_at-meshes.result
      (λ h. stood (sym h ∙ ap (λ (n : ℕ). take n (map left all)) (sym (length-map before left))) ∙ ap (λ (n : ℕ). map (standing_of among) (take n all)) (length-map before left))
      (c.meshes_at-meshes.ensures ∙ ap₂ (λ (ms : List (Option Span)) (n : ℕ). unwrap_or (slice_get ms n) None) (same ∙ ap (map (meshes_if among)) whole) c.len.ensures)
      (c.in_ok-push.ensures.ok ∙ ap (λ (r : PeerNo × Remains). old ++ record { peer = r.0; meshes = c.meshes_at-meshes.result; remains = r.1 } ∷ []) (sym is))
      ∙ ap (map (standing_of among)) (sym (front_and_one before x after) ∙ ap₂ (λ (n : ℕ) (ls : List Life). take n ls) (sym (as_long left before x one) ∙ ap (λ (zs : List (PeerNo × Remains)). length (zs ++ one ∷ [])) are) (sym whole)),
)
