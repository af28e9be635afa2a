use Rattle.std.proofs.Common.{◌≤◌, ◌++◌, List, [], ap, append-nil, arith, length, sym, ◌∙◌}
use Rattle.std.specs.Prelude.{Option, None, Some}
use Rattle.std.specs.BTreeMap.{BTreeMap}
use Rattle.std.proofs.lemmas.Option.{slice_get_past}
use Rattle.gs_base.specs.declared.names.PeerNo.{PeerNo}
use Rattle.gs_seats.specs.Rounds.{peer_no}
use Rattle.gs_opinions.specs.declared.opinion.Lowest.{Lowest}
use Rattle.gs_opinions.specs.declared.run.PairOpinion.{PairOpinion}
use Rattle.gs_opinions.specs.Listing.{rows_by}
use Rattle.gs_opinions.proofs.run.list_row.Goals as goal

pub returns-in-None : goal.returns-in-None
returns-in-None c =
    let beyond = c.in-None.ensures.lookup.3 in
    let at = c.from.ensures in
    let past : length c.args.rows.now ≤ c.args.by.0 = omega (arith, beyond, at) in
    sym (append-nil c.args.pairs.now)
    ∙ ap (λ (rows : List PairOpinion). c.args.pairs.now ++ rows)
    (ap (λ (o : Option (BTreeMap PeerNo Lowest)). elim o [ None ↦ [] | Some row ↦ rows_by (peer_no c.args.by.0) row c.args.count ])
    (sym (slice_get_past c.args.rows.now c.args.by.0 past)))
