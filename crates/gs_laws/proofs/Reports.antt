-- Reports of alike plans are one.
use Rattle.std.proofs.Common.{◌≡◌, ◌*◌, length, map, refl, sym, ap, ◌∙◌}
use Rattle.gs_plan.specs.declared.plan.Plan.{Plan}
use Rattle.gs_report.specs.Text.{report_text}
use Rattle.gs_seats.specs.Rounds.{numbers}
use Rattle.gs_laws.specs.Runs.{ReportsAreOne}
use Rattle.gs_laws.proofs.Lists.{same_pairs}
use Rattle.gs_laws.proofs.Runs.{runs_one}

pub reports_one : ReportsAreOne
reports_one plan other report another alike is is' =
    let firsts = is.numbers_are ∙ ap numbers alike ∙ sym is'.numbers_are in
    let seconds = runs_one plan other (map (λ x. x.1) report.peers.items) (map (λ x. x.1) another.peers.items) alike is.run is'.run in
    let peers : report.peers.items ≡ another.peers.items = same_pairs report.peers.items another.peers.items firsts seconds in
    let settled : report.settled ≡ another.settled = is.settled ∙ ap (λ (any : Plan). 2 * length any.dials) alike ∙ sym is'.settled in
    record {
      peers = peers;
      settled = settled;
      text = ap (λ (any : Plan). report_text any report) alike ∙ rw (peers, settled) refl;
    }
