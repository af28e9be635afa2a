use Rattle.std.proofs.Common.{◌≡◌, List, ℕ, arith, ap, length, map, refl, ◌∙◌}
use Rattle.std.proofs.lemmas.List.{length-map}
use Rattle.std.proofs.lemmas.Result.{on_ok_weaker}
use Rattle.gs_opinions.specs.declared.tables.GroupRounds.{GroupRounds}
use Rattle.gs_opinions.specs.Noting.{lowered_group, lowered_in_round}
use Rattle.gs_opinions.proofs.Mapped.{lent}
use Rattle.gs_opinions.proofs.Noted.{noted}
use Rattle.gs_opinions.proofs.tables.Tables.note.Goals as goal

pub returns : goal.returns
returns c =
    let old = c.args.self.now in
    let o = c.args.opinion in
    let lowered = c.lower_groups.ensures in
    let before = c.deref_mut.ensures.value in
    let as_many : length c.lower_groups.new.groups ≡ old.groups.len =
    ap (λ (xs : List GroupRounds). length xs) lowered ∙ length-map c.deref_mut.result.now (lowered_group c.round_of-round.result o) ∙ ap (λ (xs : List GroupRounds). length xs) before ∙ omega (arith, old.groups.ok) in
    on_ok_weaker
    c.lower_between.result
    (λ told plan groups os was.
    let round = c.round_of-round.ensures plan was.lasts was.round_ms in
    noted plan os o groups old _ was
    refl
    (told plan os was.pairs)
    (c.lower_in_round.ensures ∙ ap (λ (n : ℕ). lowered_in_round n o.score old.rounds) round)
    (lent old.groups.len c.lower_groups.new.groups _ as_many ∙ lowered ∙ ap (λ (xs : List GroupRounds). map (lowered_group c.round_of-round.result o) xs) before ∙ ap (λ (n : ℕ). map (lowered_group n o) old.groups.items) round))
    c.lower_between.ensures
