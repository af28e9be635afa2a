-- Two runs whose traces have one text have the same traces.
use Rattle.std.proofs.Common.{◌≡◌, ℕ, List, length, map, flat_map, sym, ap, ◌∙◌}
use Rattle.std.specs.List.{range_with_len}
use Rattle.std.proofs.lemmas.List.{length-map}
use Rattle.gs_plan.specs.declared.plan.Plan.{Plan}
use Rattle.gs_plan.specs.declared.plan.PlannedPeer.{PlannedPeer}
use Rattle.gs_report.specs.declared.report.Report.{Report}
use Rattle.gs_report.specs.Text.{word_of}
use Rattle.gs_seats.specs.Rounds.{numbers, peer_no}
use Rattle.gs_trace.specs.Lines.{line_text, told, trace_text}
use Rattle.gs_trace.specs.Texts.{names_of}
use Rattle.gs_trace.specs.Traces.{IsReportOf, traces}
use Rattle.gs_trace.proofs.LineTexts.{IsStoredHead, head_of, line_with, lines_of_plan, tell_head, tell_lines, words_of_plan}
use Rattle.gs_trace.proofs.Traces.{told_stored, traces_of, traces_told}
use Rattle.gs_trace.proofs.Values.{names_differ}

module _ (p q : Plan) (r s : Report) (hr : IsReportOf p r) (hs : IsReportOf q s) (e : trace_text p r ≡ trace_text q s) where
  -- the first line, and the lines after it
  parts : (head_of p ≡ head_of q) × (flat_map (line_text p) (told p r) ≡ flat_map (line_text q) (told q s))
  parts =
      let hp : IsStoredHead p = record { names = hr.stored.names; round_ms = hr.stored.round_ms; rounds = hr.stored.rounds; dials = hr.stored.dials } in
      let hq : IsStoredHead q = record { names = hs.stored.names; round_ms = hs.stored.round_ms; rounds = hs.stored.rounds; dials = hs.stored.dials } in
      tell_head p q (flat_map (line_text p) (told p r)) (flat_map (line_text q) (told q s)) hp hq (names_differ p.peers hr.in_range.names_differ) e

  pub one_list_of_names : names_of p ≡ names_of q
  one_list_of_names i = (parts.0 i).0.0.0

  pub one_length_of_rounds : p.round_ms ≡ q.round_ms
  one_length_of_rounds i = (parts.0 i).0.0.1

  pub one_last_round : p.rounds ≡ q.rounds
  one_last_round i = (parts.0 i).0.1

  pub one_list_of_dials : p.dials ≡ q.dials
  one_list_of_dials i = (parts.0 i).1

  pub one_list_told : told p r ≡ told q s
  one_list_told =
      let lines : flat_map (line_with (names_of p) (word_of p)) (told p r) ≡ flat_map (line_with (names_of p) (word_of q)) (told q s) =
      sym (lines_of_plan p (told p r)) ∙ parts.1 ∙ lines_of_plan q (told q s)
      ∙ ap (λ (names : List (List ℕ)). flat_map (line_with names (word_of q)) (told q s)) (sym one_list_of_names) in
      tell_lines (names_of p) hr.stored.names (names_differ p.peers hr.in_range.names_differ) (word_of p) (word_of q) (told p r) (told q s)
      (words_of_plan p) (words_of_plan q) (told_stored p r hr.stored) (told_stored q s hs.stored) lines

  one_list_of_numbers : numbers p ≡ numbers q
  one_list_of_numbers =
      let name = λ (planned : PlannedPeer). planned.name in
      let same : length p.peers ≡ length q.peers = sym (length-map p.peers name) ∙ ap (λ (names : List (List ℕ)). length names) one_list_of_names ∙ length-map q.peers name in
      ap (λ (n : ℕ). map peer_no (range_with_len 0 n)) same

  pub one_list_of_traces : traces r ≡ traces s
  one_list_of_traces =
      traces_told p r hr.run.numbers_are
      ∙ (λ i. traces_of (one_list_of_numbers i) (one_list_told i))
      ∙ sym (traces_told q s hs.run.numbers_are)
