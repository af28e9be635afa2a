use Rattle.std.proofs.Common.{◌<◌, false, nat_eq, length, rules, sym, ◌∙◌, [], ◌∷◌}
use Rattle.gs_peer.specs.declared.outbox.Outbox.{Outbox}
use Rattle.gs_base.specs.Tokens.{EndOf}
use Rattle.gs_wire.specs.Codec.{codec}
use Rattle.gs_rules.specs.Saying.{Outgoing, cut_out, saying}
use Rattle.gs_peer.specs.Outboxes.{place_of}
use Rattle.gs_peer.proofs.BoxPlaces.{found_at, found_set, place_set, same_by, told_by, told_none}
use Rattle.gs_peer.proofs.outboxes.Outboxes.mark_at.Goals as goal

pub returns-in_ok-mark-in-Some-clause-told : goal.returns-in_ok-mark-in-Some-clause-told
returns-in_ok-mark-in-Some-clause-told c =
    let xs = c.args.self.now.boxes.entries in
    let low : c.args.place < length xs = search rules in
    λ q. told_by (λ (o : Outgoing). saying (cut_out codec o) (EndOf c.args.round ∷ [])) (nat_eq c.args.place (place_of c.args.self.now q)) c.in-Some.outbox.now c.mark.new.self _ _
    (found_set q xs c.args.place c.mark.new.self low) (λ here. found_at q xs c.args.place here ∙ sym c.in-Some.ensures.value) c.in_ok-mark-in-Some.ensures.told

pub returns-in-None-clause-told : goal.returns-in-None-clause-told
returns-in-None-clause-told c = λ q. told_none (λ (o : Outgoing). saying (cut_out codec o) (EndOf c.args.round ∷ [])) (nat_eq c.args.place (place_of c.args.self.now q)) _ (λ here. found_at q c.args.self.now.boxes.entries c.args.place here ∙ sym c.in-None.ensures.value)

pub returns-in_ok-mark-in-Some-clause-places : goal.returns-in_ok-mark-in-Some-clause-places
returns-in_ok-mark-in-Some-clause-places c = λ q. place_set q c.args.self.now.boxes.entries c.args.place c.mark.new.self

pub returns-in_ok-mark-in-Some-clause-open : goal.returns-in_ok-mark-in-Some-clause-open
returns-in_ok-mark-in-Some-clause-open c =
    let xs = c.args.self.now.boxes.entries in
    let low : c.args.place < length xs = search rules in
    λ q. same_by (λ (box : Outbox). box.is_open) false (nat_eq c.args.place (place_of c.args.self.now q)) c.in-Some.outbox.now c.mark.new.self _ _
    (found_set q xs c.args.place c.mark.new.self low) (λ here. found_at q xs c.args.place here ∙ sym c.in-Some.ensures.value) c.in_ok-mark-in-Some.ensures.«open»
