use Rattle.std.proofs.Common.{◌≡◌, ◌∙◌, Bool, true, if◌then◌else◌, List, None, map, pos, sym, ap, ap₂}
use Rattle.gs_base.specs.declared.names.PeerNo.{PeerNo}
use Rattle.gs_base.specs.declared.names.Topic.{Topic}
use Rattle.gs_counts.specs.Meshes.{members_in, span_of}
use Rattle.gs_counts.specs.Topics.{subscribed}
use Rattle.gs_reach.specs.Chosen.{is_chosen}
use Rattle.gs_report.specs.declared.remains.Remains.{Remains}
use Rattle.gs_rules.specs.Tables.{Entries}
use Rattle.gs_figure_sheets.specs.Standings.{end_meshes}
use Rattle.gs_figure_sheets.proofs.standing.end_meshes.Goals as goal

pub returns : goal.returns
returns c = λ plan traces life counted below same leaves.
    let among = c.args.among.now in
    let chosen : is_chosen among c.args.one.now.0 ≡ true = sym c.contains.ensures ∙ c.if-not-contains.false in
    let members : c.as_slice.result.now ≡ life.meshes = c.as_slice.ensures ∙ sym (ap (λ (r : Remains). r.meshes) leaves) in
    let topics : c.topics.result.now ≡ subscribed life.trace = c.topics.ensures plan among traces counted below chosen ∙ ap (λ (L : Entries). subscribed L) (sym same) in
    c.span_of_meshes.ensures
    ∙ ap₂ (λ (ms : List (Topic × PeerNo)) (ts : List Topic). span_of (map pos (map (members_in ms) ts))) members topics
    ∙ sym (ap (λ (b : Bool). if b then end_meshes life else None) chosen)
