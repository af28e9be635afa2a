use Rattle.std.proofs.Common.{ap, refl, ◌∙◌}
use Rattle.std.specs.Prelude.{◌&&◌, unwrap_or}
use Rattle.std.specs.Map.{lookup}
use Rattle.std.specs.Ordering.{is_eq}
use Rattle.gs_base.specs.Names.{same_peer}
use Rattle.gs_base.specs.declared.names.PeerNo.{PeerNo}
use Rattle.gs_rules.specs.Tables.{topic_order}
use Rattle.gs_counts.specs.Rows.{no_counts}
use Rattle.gs_counts.specs.Standing.{empty_rows}
use Rattle.gs_counts.proofs.Noted.{nothing_shown}
use Rattle.gs_counts.proofs.tables.Tables.new.Goals as goal

pub returns : goal.returns
returns c =
    nothing_shown c.args.plan.now _ refl
    (c.in_ok-rows.ensures ∙ ap empty_rows c.len-peers.ensures)
    c.in_ok-rows-2.ensures
    c.in_ok-no_spans.ensures
    (λ p q. ap (λ es. unwrap_or (lookup (λ (link : PeerNo × PeerNo). same_peer p link.0 && same_peer q link.1) es) no_counts) c.new.ensures.empty)
    (λ t. ap (λ es. lookup (λ u. is_eq (topic_order t u)) es) c.new-2.ensures.empty)
    c.no_counts.ensures
