use Rattle.std.proofs.Common.{◌≡◌, true, false, List, Option, None, Some, drop, map, option_map, string_bytes, sym, ap, ◌∙◌}
use Rattle.std.proofs.lemmas.List.{take_rest}
use Rattle.gs_program.specs.Options.{Given, by_itself, given_from, options_of, rule_of, takes_value, with_given, with_its_value}
use Rattle.gs_program.proofs.Further.{value_more, word_more}
use Rattle.gs_program.proofs.options.+given_from.Goals as goal

pub returns-in-Some : goal.returns-in-Some
returns-in-Some t c =
    let rules = map rule_of c.args.rules.now in
    let w = options_of c.args.options in
    let arguments = c.args.arguments.now in
    let x = c.name-item-2.result in
    let y = c.value-item.result in
    let word : takes_value rules (string_bytes x) ≡ true = ap (takes_value rules) (sym c.deref-in-len2-up.ensures) ∙ sym c.takes_value.ensures ∙ c.if-takes_value.true in
    let next : with_given rules w (with_its_value (string_bytes x) (string_bytes y)) ≡ Some (options_of c.in-Some.next) =
    (λ i. with_given rules w (with_its_value (sym c.deref-then-takes_value.ensures i) (sym c.deref-then-takes_value-2.ensures i)))
    ∙ ap (with_given rules w) (sym c.valued.ensures)
    ∙ sym c.with_given-then-takes_value.ensures ∙ ap (option_map options_of) c.in-Some.is in
    c.given_from.ensures
    ∙ ap (λ rest. given_from rules (Some (options_of c.in-Some.next)) (map string_bytes rest)) (take_rest arguments 2)
    ∙ sym (
    value_more string_bytes rules w arguments x y c.in-len2-up.len_at_least c.name-item-2.is c.value-item.is word
    ∙ ap (λ (given : Option (List Given)). given_from rules given (map string_bytes (drop 2 arguments))) next
    )

pub returns-in-None : goal.returns-in-None
returns-in-None t c =
    let rules = map rule_of c.args.rules.now in
    let w = options_of c.args.options in
    let arguments = c.args.arguments.now in
    let x = c.name-item-2.result in
    let y = c.value-item.result in
    let word : takes_value rules (string_bytes x) ≡ true = ap (takes_value rules) (sym c.deref-in-len2-up.ensures) ∙ sym c.takes_value.ensures ∙ c.if-takes_value.true in
    let next : with_given rules w (with_its_value (string_bytes x) (string_bytes y)) ≡ None =
    (λ i. with_given rules w (with_its_value (sym c.deref-then-takes_value.ensures i) (sym c.deref-then-takes_value-2.ensures i)))
    ∙ ap (with_given rules w) (sym c.valued.ensures)
    ∙ sym c.with_given-then-takes_value.ensures ∙ ap (option_map options_of) c.in-None.is in
    sym (
    value_more string_bytes rules w arguments x y c.in-len2-up.len_at_least c.name-item-2.is c.value-item.is word
    ∙ ap (λ (given : Option (List Given)). given_from rules given (map string_bytes (drop 2 arguments))) next
    )

pub returns-in-Some-with_given : goal.returns-in-Some-with_given
returns-in-Some-with_given t c =
    let rules = map rule_of c.args.rules.now in
    let w = options_of c.args.options in
    let arguments = c.args.arguments.now in
    let x = c.name-item-2.result in
    let word : takes_value rules (string_bytes x) ≡ false = ap (takes_value rules) (sym c.deref-in-len2-up.ensures) ∙ sym c.takes_value.ensures ∙ c.if-takes_value.false in
    let next : with_given rules w (by_itself (string_bytes x)) ≡ Some (options_of c.in-Some-with_given.next) =
    ap (λ name. with_given rules w (by_itself name)) (sym c.deref-in-len2-up-2.ensures)
    ∙ ap (with_given rules w) (sym c.word-in-len2-up.ensures)
    ∙ sym c.with_given-in-len2-up.ensures ∙ ap (option_map options_of) c.in-Some-with_given.is in
    c.given_from-in-Some-with_given.ensures
    ∙ ap (λ rest. given_from rules (Some (options_of c.in-Some-with_given.next)) (map string_bytes rest)) (take_rest arguments 1)
    ∙ sym (
    word_more string_bytes rules w arguments x c.in-len2-up.len_at_least c.name-item-2.is word
    ∙ ap (λ (given : Option (List Given)). given_from rules given (map string_bytes (drop 1 arguments))) next
    )

pub returns-in-None-with_given : goal.returns-in-None-with_given
returns-in-None-with_given t c =
    let rules = map rule_of c.args.rules.now in
    let w = options_of c.args.options in
    let arguments = c.args.arguments.now in
    let x = c.name-item-2.result in
    let word : takes_value rules (string_bytes x) ≡ false = ap (takes_value rules) (sym c.deref-in-len2-up.ensures) ∙ sym c.takes_value.ensures ∙ c.if-takes_value.false in
    let next : with_given rules w (by_itself (string_bytes x)) ≡ None =
    ap (λ name. with_given rules w (by_itself name)) (sym c.deref-in-len2-up-2.ensures)
    ∙ ap (with_given rules w) (sym c.word-in-len2-up.ensures)
    ∙ sym c.with_given-in-len2-up.ensures ∙ ap (option_map options_of) c.in-None-with_given.is in
    sym (
    word_more string_bytes rules w arguments x c.in-len2-up.len_at_least c.name-item-2.is word
    ∙ ap (λ (given : Option (List Given)). given_from rules given (map string_bytes (drop 1 arguments))) next
    )
