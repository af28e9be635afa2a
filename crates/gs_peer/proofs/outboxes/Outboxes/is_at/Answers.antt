use Rattle.std.proofs.Common.{◌≡◌, rules, sym, subst}
use Rattle.std.specs.Prelude.{Some, slice_get}
use Rattle.std.specs.Map.{lookup}
use Rattle.gs_base.specs.declared.names.PeerNo.{PeerNo}
use Rattle.gs_base.specs.Names.{same_peer}
use Rattle.gs_peer.proofs.outboxes.Outboxes.is_at.Goals as goal

pub returns-in-Some-clause-there : goal.returns-in-Some-clause-there
returns-in-Some-clause-there c = λ same.
    let xs = c.args.self.now.boxes.entries in
    let box = c.in-Some.field-0-1.now in
    let one : c.in-Some.peer.now ≡ c.args.to = search (rules, same) in (
      box,
      subst (λ (p : PeerNo). slice_get xs c.args.place ≡ Some (p, box)) one (sym c.in-Some.ensures.entry),
      subst (λ (p : PeerNo). lookup (same_peer p) xs ≡ Some box) one c.in-Some.ensures.value,
    )
