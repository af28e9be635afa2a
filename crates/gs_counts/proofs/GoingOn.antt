-- What is counted of a run when one of its peers goes on.
use Rattle.std.proofs.Common.{◌≡◌, nat_eq, nat_lt, Bool, true, false, List, [], ◌∷◌, ◌++◌, length, reverse, set, Option, Some, None, refl, sym, ap, subst, ◌∙◌, append-nil}
use Rattle.std.specs.Prelude.{◌&&◌, if◌then◌else◌, is_some, slice_get, Result, Ok, Err, OnOk}
use Rattle.std.specs.List.{flat_map}
use Rattle.gs_base.specs.declared.names.PeerNo.{PeerNo}
use Rattle.gs_plan.specs.declared.plan.Plan.{Plan}
use Rattle.gs_rules.specs.declared.trace.Entry.{Entry}
use Rattle.gs_rules.specs.Tables.{Entries}
use Rattle.gs_reach.specs.Chosen.{is_chosen}
use Rattle.gs_reach.specs.declared.chosen.Chosen.{Chosen}
use Rattle.gs_report.specs.Seen.{added}
use Rattle.gs_counts.specs.declared.counting.Counting.{Counting}
use Rattle.gs_counts.specs.declared.happening.Happening.{Happening}
use Rattle.gs_counts.specs.declared.tables.Tables.{Tables}
use Rattle.gs_counts.specs.declared.traces.PeerCounter.{PeerCounter}
use Rattle.gs_counts.specs.Counting.{AreCounters, HasCounted, IfCounted, chosen_numbers, if_counted, seen_happenings, seen_sizes}
use Rattle.gs_counts.specs.Reading.{later_happenings, later_sizes}
use Rattle.gs_counts.specs.Runs.{trace_happenings, trace_sizes}
use Rattle.gs_counts.specs.Standing.{MeshSize, Shows}
use Rattle.gs_counts.proofs.Moving.{all_grown}
use Rattle.gs_counts.proofs.Reading.{happenings_later, sizes_later}
use Rattle.gs_counts.proofs.Counters.{counters_more, counters_same, goes_on, is_it, stays_so}
use Rattle.gs_counts.proofs.Shown.{shown_turned, sizes_turned}

module _ (plan : Plan) (of : Chosen) (p : PeerNo) (es : List Entry) (before after : PeerNo → Entries) (is : (q : PeerNo) → after q ≡ added before p es q) where
  abbrev counts_it : Bool
  counts_it = nat_lt p.0 (length plan.peers) && is_chosen of p

  one_on : (q : PeerNo) → nat_eq p.0 q.0 ≡ true → trace_happenings plan q (after q) ≡ trace_happenings plan q (before q) ++ later_happenings plan p (before p) es
  one_on q same =
      ap (trace_happenings plan q) (goes_on p es before after is q same)
      ∙ happenings_later plan q es (before q)
      ∙ ap (λ (r : PeerNo). trace_happenings plan q (before q) ++ later_happenings plan r (before r) es) (sym (is_it p es before after is q same))

  sizes_on : (q : PeerNo) → nat_eq p.0 q.0 ≡ true → trace_sizes (after q) ≡ trace_sizes (before q) ++ later_sizes (before p) es
  sizes_on q same =
      ap trace_sizes (goes_on p es before after is q same)
      ∙ sizes_later es (before q)
      ∙ ap (λ (r : PeerNo). trace_sizes (before q) ++ later_sizes (before r) es) (sym (is_it p es before after is q same))

  shows_on : (tables : Tables) (b : Bool) → b ≡ counts_it → Shows plan tables (seen_happenings plan of before ++ (if b then later_happenings plan p (before p) es else [])) (seen_sizes plan of before ++ (if b then later_sizes (before p) es else []))
      → Shows plan tables (seen_happenings plan of after) (seen_sizes plan of after)
  shows_on tables b same shows =
      let counted = subst (λ (c : Bool). Shows plan tables (seen_happenings plan of before ++ (if c then later_happenings plan p (before p) es else [])) (seen_sizes plan of before ++ (if c then later_sizes (before p) es else []))) same shows in
      let all = all_grown (λ hs. Shows plan tables hs (seen_sizes plan of before ++ (if counts_it then later_sizes (before p) es else []))) (shown_turned plan tables _) (is_chosen of) p (later_happenings plan p (before p) es)
      (λ q. trace_happenings plan q (before q)) (λ q. trace_happenings plan q (after q)) (λ q apart. ap (trace_happenings plan q) (stays_so p es before after is q apart)) one_on (length plan.peers) counted in
      all_grown (λ sizes. Shows plan tables (seen_happenings plan of after) sizes) (sizes_turned plan tables _) (is_chosen of) p (later_sizes (before p) es)
      (λ q. trace_sizes (before q)) (λ q. trace_sizes (after q)) (λ q apart. ap trace_sizes (stays_so p es before after is q apart)) sizes_on (length plan.peers) all

  module _ (counting : Counting) (has : HasCounted plan of counting before) where
    -- no counter is there
    pub counted_same : slice_get counting.counters.items p.0 ≡ None → HasCounted plan of counting after
    counted_same none = record {
      counters = counters_same p es before after is plan of (length plan.peers) counting.counters.items has.counters none;
      shows = shows_on counting.tables false (ap (λ (found : Option (Option PeerCounter)). is_some (elim found [ None ↦ None | Some counter ↦ counter ])) (sym none) ∙ has.counters.chosen p)
          (subst (λ (xs : List Happening). Shows plan counting.tables xs (seen_sizes plan of before ++ [])) (sym (append-nil (seen_happenings plan of before)))
          (subst (λ (xs : List MeshSize). Shows plan counting.tables (seen_happenings plan of before) xs) (sym (append-nil (seen_sizes plan of before))) has.shows));
    }

    -- the counter that is there, if there is one, sees more
    pub counted_more : (next : Counting) (o new : Option PeerCounter)
        → slice_get counting.counters.items p.0 ≡ Some o
        → next.counters.items ≡ set counting.counters.items p.0 new
        → is_some new ≡ is_some o
        → (IfCounted plan p (before p) o → IfCounted plan p (reverse es ++ before p) new)
        → ((hs : List Happening) (sizes : List MeshSize) → IfCounted plan p (before p) o → Shows plan counting.tables hs sizes → Shows plan next.tables (hs ++ if_counted o (later_happenings plan p (before p) es)) (sizes ++ if_counted o (later_sizes (before p) es)))
        → HasCounted plan of next after
    counted_more next o new here put as_before sees shows = record {
      counters = subst (λ (counters : List (Option PeerCounter)). AreCounters (length plan.peers) plan of counters after) (sym put)
          (counters_more p es before after is plan of (length plan.peers) counting.counters.items has.counters o new here as_before sees);
      shows = shows_on next.tables (is_some o) (ap (λ (found : Option (Option PeerCounter)). is_some (elim found [ None ↦ None | Some counter ↦ counter ])) (sym here) ∙ has.counters.chosen p)
          (shows (seen_happenings plan of before) (seen_sizes plan of before) (subst (IfCounted plan p (before p)) (ap (λ (found : Option (Option PeerCounter)). elim found [ None ↦ None | Some counter ↦ counter ]) here) (has.counters.seen p)) has.shows);
    }

-- ---- before anything happens

nothing_each : {A B : Type 0} (xs : List A) → [] ≡ flat_map {A = B} (λ (x : A). []) xs
nothing_each [] = refl
nothing_each (x ∷ xs) = nothing_each xs

-- nothing is seen of any peer
pub nothing_seen : (plan : Plan) (of : Chosen) (tables : Tables) → Shows plan tables [] [] → Shows plan tables (seen_happenings plan of (λ p. [])) (seen_sizes plan of (λ p. []))
nothing_seen plan of tables shows =
    subst (λ (xs : List Happening). Shows plan tables xs (seen_sizes plan of (λ p. []))) (nothing_each (chosen_numbers plan of))
    (subst (λ (xs : List MeshSize). Shows plan tables [] xs) (nothing_each (chosen_numbers plan of)) shows)

-- ---- calls

-- what follows from three clauses of a call
pub on_ok_three : {A E : Type 0} (result : Result A E) {P Q R S : Type 0} → (P → Q → R → S) → OnOk result P → OnOk result Q → OnOk result R → OnOk result S
on_ok_three (Ok x) so p q r = so p q r
on_ok_three (Err e) so p q r = tt
