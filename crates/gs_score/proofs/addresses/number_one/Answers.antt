use Rattle.std.proofs.Common.{◌≡◌, ◌+◌, drop, ap, ◌∙◌, arith}
use Rattle.std.specs.Map.{values_of}
use Rattle.std.proofs.lemmas.List.Sums.{sum_by-cons}
use Rattle.gs_score.specs.Addresses.{counts_at, number_at, one_if}
use Rattle.gs_score.proofs.Sums.{drop_first}
use Rattle.gs_score.proofs.addresses.number_one.Goals as goal

pub raise-requires : goal.raise-requires
raise-requires c = record { few = λ address. omega (arith, c.requires.few address, c.requires.small) }

pub returns-in_ok-raise-in-Some-clause-counts : goal.returns-in_ok-raise-in-Some-clause-counts
returns-in_ok-raise-in-Some-clause-counts c = λ address.
    let es = c.args.addresses.now.entries in
    let entry = c.in-Some.entry.now in
    let first : number_at (drop c.args.at es) address ≡ one_if (counts_at address entry) + number_at (drop (c.args.at + 1) es) address
    = ap (λ rest. number_at rest address) (drop_first es c.args.at (c.in-Some._peer.now, entry) c.in-Some.ensures.entry)
    ∙ sum_by-cons (λ x. one_if (counts_at address x)) entry (values_of (drop (c.args.at + 1) es)) in
    omega (arith, first, c.in_ok-raise-in-Some.ensures address)
