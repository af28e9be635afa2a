use Rattle.std.proofs.Common.{List, Bool, ap, ◌∙◌}
use Rattle.std.specs.Prelude.{None, Some, slice_get}
use Rattle.gs_reach.specs.Chosen.{is_chosen}
use Rattle.gs_seats.specs.Rounds.{peer_no}
use Rattle.gs_opinions.proofs.Numbered.{or_got}
use Rattle.gs_opinions.proofs.members.Members.new.Goals as goal

pub returns : goal.returns
returns c = λ q.
    ap (λ (flags : List Bool). elim (slice_get flags q.0) [ None ↦ is_chosen c.args.group.now q | Some flag ↦ flag ]) c.in_ok-flags.ensures
    ∙ or_got (λ n. is_chosen c.args.group.now (peer_no n)) _ q.0
