use Rattle.std.proofs.Common.{◌≡◌, ◌==◌, true, false, length, rules}
use Rattle.std.specs.Char.{is_ascii_digit}
use Rattle.std.specs.List.{list_all}
use Rattle.gs_edit.proofs.Numbers.{none_at_all, number_of-empty, number_of-large, number_of-other}
use Rattle.gs_edit.proofs.keys.number_of.Goals as goal

pub returns-then-is_empty-clause-none : goal.returns-then-is_empty-clause-none
returns-then-is_empty-clause-none c =
    let empty : (length c.args.part.now == 0) ≡ true = search rules in
    none_at_all c.args.part.now (number_of-empty c.args.part.now empty)

pub returns-then-not-are_digits-clause-none : goal.returns-then-not-are_digits-clause-none
returns-then-not-are_digits-clause-none c =
    let some : (length c.args.part.now == 0) ≡ false = search rules in
    let other : list_all is_ascii_digit c.args.part.now ≡ false = search rules in
    none_at_all c.args.part.now (number_of-other c.args.part.now some other)

pub returns-in-Err-clause-none : goal.returns-in-Err-clause-none
returns-in-Err-clause-none c =
    let some : (length c.args.part.now == 0) ≡ false = search rules in
    let digits : list_all is_ascii_digit c.args.part.now ≡ true = search rules in
    number_of-large c.args.part.now c.parse.result _ c.in-Err.is c.parse.ensures.value.0 some digits
