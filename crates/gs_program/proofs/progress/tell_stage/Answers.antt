use Rattle.std.proofs.Common.{◌∷◌, ◌∙◌, [], List, ℕ, Bool, sym, subst}
use Rattle.gs_program.specs.Progress.{TellsAll, if_wanted}
use Rattle.gs_program.proofs.Noted.{none_told, one_told}
use Rattle.gs_streams.specs.Streams.{AppendsFront}
use Rattle.gs_program.proofs.progress.tell_stage.Goals as goal

pub returns-in-Ok : goal.returns-in-Ok
returns-in-Ok g c =
    let before = g.E.Write.contents c.args.errors.now in
    let after = g.E.Write.contents c.try_to_write.new.output in
    subst (λ (w : Bool). TellsAll c.args.rounds (if_wanted w (c.args.stage ∷ [])) before after) (sym c.if-not-wanted.false)
    (one_told c.args.rounds c.args.stage before after (subst (λ (text : List ℕ). AppendsFront before after text) (c.as_str.ensures.value ∙ c.in-Ok.ensures) c.try_to_write.ensures))

pub returns-in-Err : goal.returns-in-Err
returns-in-Err g c =
    let same = g.E.Write.contents c.args.errors.now in
    subst (λ (w : Bool). TellsAll c.args.rounds (if_wanted w (c.args.stage ∷ [])) same same) (sym c.if-not-wanted.false)
    (none_told c.args.rounds c.args.stage same)
