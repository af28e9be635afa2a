use Rattle.std.proofs.Common.{◌≡◌, Some, true, false, Option, ap, sym, ◌∙◌}
use Rattle.std.specs.Option.{option_map_or}
use Rattle.gs_score.specs.declared.addresses.AddressEntry.{AddressEntry}
use Rattle.gs_score.specs.Addresses.{address_entry_at, shut}
use Rattle.gs_score.proofs.Numbering.{shut_number, uncounted_stays}
use Rattle.gs_score.proofs.addresses.Addresses.shut_out.Goals as goal

pub returns-then-not-is_counted : goal.returns-then-not-is_counted
returns-then-not-is_counted c = rw (← c.self.view_is)
    (uncounted_stays c.self.inside.addresses.entries c.args.peer (sym c.is_counted.ensures ∙ c.if-not-is_counted.true))

pub invariant_of-self : goal.invariant_of-self
invariant_of-self c = λ address.
    let es = c.self.inside.addresses.entries in
    let x = c.in-Some.entry.now in
    let found : address_entry_at es c.args.peer ≡ Some x = sym c.in-Some.ensures.value in
    let counted : x.counted ≡ true
    = sym (ap (λ (o : Option AddressEntry). option_map_or (λ (y : AddressEntry). y.counted) o false) found) ∙ sym c.is_counted.ensures ∙ c.if-not-is_counted.false in
    let set = (c.get_mut.follows.holds (shut x)).0 in
    rw (set, shut_number es c.args.peer x found counted address, ← c.self.invariant address) (c.count_one_fewer.ensures address)
