use Rattle.std.proofs.Common.{◌≡◌, ◌+◌, ◌++◌, List, ℕ, length, take, ap, ◌∙◌, length-append, arith}
use Rattle.std.specs.List.{flat_map}
use Rattle.std.proofs.lemmas.List.Folds.{length-flat_map-take}
use Rattle.gs_wire.specs.declared.sections.Section.{Section}
use Rattle.gs_wire.specs.declared.sections.Section.TheVariants.{Subscriptions}
use Rattle.gs_wire.specs.Joining.{joined_rpcs}
use Rattle.gs_wire.specs.Gathering.{as_one}
use Rattle.gs_wire.specs.Sections.{section}
use Rattle.gs_wire.proofs.gathered.copy_sections.Goals as goal

pub copy_section-requires : goal.copy_section-requires
copy_section-requires c =
    let i = c.loop-one.one-index in
    let wanted = c.args.wanted.now in
    let f : Section → List ℕ = λ s. section s (as_one (joined_rpcs c.args.parts.now)) in
    let before = flat_map f (take i wanted) in
    let so_far : length c.loop-one.buffer.items ≡ length c.args.buffer.now.items + length before = ap length c.loop-one.invariant.written ∙ length-append c.args.buffer.now.items before in
    record { room = omega (arith, c.requires.room, so_far, length-flat_map-take f wanted i Subscriptions c.loop-one-test.true, c.loop-one.invariant.capacity, c.args.buffer.now.ok, c.loop-one.buffer.ok) }
