use Rattle.std.proofs.Common.{◌≡◌, ℕ, suc, ◌+◌, List, [], ◌∷◌, ◌++◌, length, true, rules, take, sym, ap, ◌∙◌, arith, subst, true≢false}
use Rattle.std.proofs.lemmas.List.Elements.{All-rest}
use Rattle.gs_link.specs.declared.item.Item.{Item}
use Rattle.gs_link.specs.Items.{IsSendable, slot_of}
use Rattle.gs_link.specs.Runs.{closes}
use Rattle.gs_link.specs.Ends.{with_close}
use Rattle.gs_ends.specs.Lists.{as_slots, slots_taken, taken_of}
use Rattle.gs_ends.proofs.SlotLists.{closed_before, closed_now, got, rest_more}
use Rattle.gs_ends.proofs.inbound.Inbound.take.Goals as goal

pub returns-then-self-clause-taken : goal.returns-then-self-clause-taken
returns-then-self-clause-taken c =
    let n : ℕ = c.self.inside.next in
    let all : List Item = c.self.inside.all.value.items in
    let none = ap length (c.self.invariant.last c.if-self.true) in
    let count = c.self.invariant.count in
    let seen : take (suc n) (as_slots all true) ≡ taken_of c.args.self.now = ap (λ closed. take (slots_taken n closed) (as_slots all true)) (sym c.if-self.true) ∙ ap taken_of c.self.view_is in
    subst (λ l. l ≡ with_close l) seen (closed_before n all (omega (arith, none, count)))

pub invariant_of-self : goal.invariant_of-self
invariant_of-self c =
    let was = c.self.invariant in
    let cut : c.self.inside.left.items ≡ c.in-Some.item ∷ c.pop_front.new.self.items = c.in-Some.ensures.items in
    let shorter = ap length cut in
    let count = was.count in record {
      rest = rest_more c.self.inside.next c.self.inside.all.value.items c.in-Some.item c.pop_front.new.self.items (sym cut ∙ was.rest);
      count = omega (arith, shorter, count);
      bounded = was.bounded;
      sized = All-rest IsSendable c.in-Some.item c.pop_front.new.self.items c.self.inside.left.items cut was.sized;
      last = λ closed. absurd (true≢false (sym closed ∙ c.if-self.false));
    }

pub returns-in-Some-clause-taken : goal.returns-in-Some-clause-taken
returns-in-Some-clause-taken c =
    let n : ℕ = c.self.inside.next in
    let all : List Item = c.self.inside.all.value.items in
    let cut : c.self.inside.left.items ≡ c.in-Some.item ∷ c.pop_front.new.self.items = c.in-Some.ensures.items in
    let seen : take n (as_slots all true) ≡ taken_of c.args.self.now = ap (λ closed. take (slots_taken n closed) (as_slots all true)) (sym c.if-self.false) ∙ ap taken_of c.self.view_is in
    let more = got n all c.in-Some.item c.pop_front.new.self.items (sym cut ∙ c.self.invariant.rest) (ap (λ l. n + length l) (sym cut) ∙ c.self.invariant.count) in (
      ap closes (sym seen) ∙ more.0,
      ap (λ closed. take (slots_taken (n + 1) closed) (as_slots all true)) c.if-self.false ∙ more.1 ∙ ap (λ l. l ++ slot_of c.in-Some.item ∷ []) seen,
    )

pub returns-in-None-clause-taken : goal.returns-in-None-clause-taken
returns-in-None-clause-taken c =
    let n : ℕ = c.self.inside.next in
    let all : List Item = c.self.inside.all.value.items in
    let nothing : c.self.inside.left.items ≡ [] = search rules in
    let none = ap length nothing in
    let count = c.self.invariant.count in
    let seen : take n (as_slots all true) ≡ taken_of c.args.self.now = ap (λ closed. take (slots_taken n closed) (as_slots all true)) (sym c.if-self.false) ∙ ap taken_of c.self.view_is in
    closed_now n all (omega (arith, none, count)) ∙ ap with_close seen
