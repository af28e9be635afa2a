-- The lines that are wanted are those of a filter, and where nothing is wished for they are all.
use Rattle.std.proofs.Common.{◌≡◌, ℕ, Bool, true, false, if◌then◌else◌, List, [], ◌∷◌, ◌++◌, filter, flat_map, refl, ap}
use Rattle.gs_plan.specs.declared.plan.Plan.{Plan}
use Rattle.gs_report.specs.declared.report.Report.{Report}
use Rattle.gs_trace.specs.Lines.{Told, Did, Refused, head_text, line_text, told, trace_text}
use Rattle.gs_trace.specs.Wanted.{Wishes, is_wanted, line_if, no_wish, wanted_text}

pub lines_if : (w : Wishes) (plan : Plan) (xs : List Told) → flat_map (line_if w plan) xs ≡ flat_map (line_text plan) (filter (is_wanted w plan) xs)
lines_if w plan [] = refl
lines_if w plan (x ∷ xs) = by (is_wanted w plan x) (lines_if w plan xs)
  where
    by : (b : Bool) → flat_map (line_if w plan) xs ≡ flat_map (line_text plan) (filter (is_wanted w plan) xs)
        → (if b then line_text plan x else []) ++ flat_map (line_if w plan) xs ≡ flat_map (line_text plan) (if b then x ∷ filter (is_wanted w plan) xs else filter (is_wanted w plan) xs)
    by true more = ap (λ (text : List ℕ). line_text plan x ++ text) more
    by false more = more

all_wanted : (plan : Plan) (x : Told) → is_wanted no_wish plan x ≡ true
all_wanted plan (Did r q e fallen) = refl
all_wanted plan (Refused r q line) = refl

all_left : (plan : Plan) (xs : List Told) → filter (is_wanted no_wish plan) xs ≡ xs
all_left plan [] = refl
all_left plan (x ∷ xs) = rw (all_wanted plan x) (ap (λ (l : List Told). x ∷ l) (all_left plan xs))

pub wanting_all : (plan : Plan) (report : Report) → wanted_text no_wish plan report ≡ trace_text plan report
wanting_all plan report = ap (λ (l : List Told). head_text plan ++ flat_map (line_text plan) l) (all_left plan (told plan report))
