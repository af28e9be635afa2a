use Rattle.std.proofs.Common.{◌≡◌, ◌∙◌, ℕ, ◌+◌, ◌<◌, ℤ, Bool, true, false, cond, List, [], ◌∷◌, Option, None, Some, get_or, length, option_map, pos, take, refl, sym, ap}
use Rattle.std.specs.List.{find}
use Rattle.std.specs.Option.{option_or}
use Rattle.std.proofs.lemmas.List.{take_more}
use Rattle.std.proofs.lemmas.List.Folds.{find-append}
use Rattle.gs_plan.specs.declared.plan.App.{App}
use Rattle.gs_seats.specs.Rounds.{is_about, peer_no}
use Rattle.gs_seats.proofs.known.scores_by.Goals as goal

-- the first score among some and one more
found_more : (f : App → Bool) (apps : List App) (i : ℕ) (d : App) → i < length apps
    → option_or (option_map (λ (app : App). app.value) (find f (take i apps))) (cond (f (get_or apps i d)) (Some (get_or apps i d).value) None) ≡ option_map (λ (app : App). app.value) (find f (take (i + 1) apps))
found_more f apps i d within =
    let x : App = get_or apps i d in
    sym (ap (λ (xs : List App). option_map (λ (app : App). app.value) (find f xs)) (take_more apps i d within)
    ∙ ap (option_map (λ (app : App). app.value)) (find-append f (take i apps) (x ∷ []))
    ∙ each (find f (take i apps)) x (f x))
  where
    each : (o : Option App) (x : App) (b : Bool) → option_map (λ (app : App). app.value) (option_or o (cond b (Some x) None)) ≡ option_or (option_map (λ (app : App). app.value) o) (cond b (Some x.value) None)
    each None x true = refl
    each None x false = refl
    each (Some y) x b = refl

pub loop-app-preserved : goal.loop-app-preserved
loop-app-preserved c = λ q.
    let apps : List App = c.args.apps.now in
    let none : App = record { peer = peer_no 0; about = peer_no 0; value = pos 0 } in
    let app : App = get_or apps c.loop-app.app-index none in
    c.in_ok-put_score.ensures q
    ∙ ap (λ (o : Option ℤ). option_or o (cond (is_about c.args.peer q app) (Some app.value) None)) (c.loop-app.invariant q)
    ∙ found_more (is_about c.args.peer q) apps c.loop-app.app-index none c.loop-app-test.true
