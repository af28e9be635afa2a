use Rattle.gs_score.proofs.Placing.{sound_first, agrees_first}
use Rattle.gs_score.proofs.scores.Scores.new.Goals as goal

pub invariant_of-result : goal.invariant_of-result
invariant_of-result c =
    rw (c.in_ok-rulebook.ensures, c.in_ok-addresses.ensures)
    (sound_first c.args.params.now c.args.neighbours.now c.in_ok-accounts.accounts.entries
    c.requires.in_range c.requires.ascending c.requires.apps c.prove_numbers_are_few.ensures c.in_ok-accounts.ensures.nothing)

pub returns : goal.returns
returns c =
    rw (c.in_ok-rulebook.ensures, c.in_ok-addresses.ensures)
    (agrees_first c.args.params.now c.args.neighbours.now c.in_ok-accounts.accounts.entries
    c.requires.ascending c.in_ok-accounts.ensures.nothing c.in_ok-accounts.ensures.all)
