use Rattle.std.proofs.Common.{◌≡◌, ℕ, ℤ, Option, Some, sym, ap, subst, ◌∙◌}
use Rattle.gs_base.specs.declared.names.PeerNo.{PeerNo}
use Rattle.gs_base.specs.declared.names.Topic.{Topic}
use Rattle.gs_base.specs.declared.mark.Mark.TheVariants as marks
use Rattle.gs_score.specs.declared.standing.Kind.TheVariants.{First, Near, Deficit, Invalid}
use Rattle.gs_score.specs.Histories.{Applies, Raise, RaisesIn, blamed, capped_deficit, one, raise_of}
use Rattle.gs_score.proofs.Keeping.{agrees_raise}
use Rattle.gs_score.proofs.scores.Scores.apply.Goals as goal

abbrev raised_by : Raise → Option Raise
raised_by x = Some x

charged : (p : PeerNo) (t : Topic) (z : ℤ) (n : ℕ) → n ≡ capped_deficit z → raise_of (marks.Deficit p t z) ≡ Some (record { peer = p; topic = t; kind = Deficit; by = n })
charged p t z n is = ap (λ (by : ℕ). raised_by (record { peer = p; topic = t; kind = Deficit; by = by })) (sym is)

pub returns-in_ok-raise-in-First-clause-agrees : goal.returns-in_ok-raise-in-First-clause-agrees
returns-in_ok-raise-in-First-clause-agrees c = λ s H a.
    agrees_raise s c.args.self.now c.raise.new.self H c.args.mark.now c.in-First.peer c.in-First.topic First one
    c.in_ok-raise-in-First.ensures.puts (ap raise_of c.in-First.is) (ap blamed c.in-First.is) a

pub returns-in_ok-raise-in-Near-clause-agrees : goal.returns-in_ok-raise-in-Near-clause-agrees
returns-in_ok-raise-in-Near-clause-agrees c = λ s H a.
    agrees_raise s c.args.self.now c.raise-in-Near.new.self H c.args.mark.now c.in-Near.peer c.in-Near.topic Near one
    c.in_ok-raise-in-Near.ensures.puts (ap raise_of c.in-Near.is) (ap blamed c.in-Near.is) a

pub returns-in_ok-raise-in-Deficit-clause-agrees : goal.returns-in_ok-raise-in-Deficit-clause-agrees
returns-in_ok-raise-in-Deficit-clause-agrees c = λ s H a.
    agrees_raise s c.args.self.now c.raise-in-Deficit.new.self H c.args.mark.now c.in-Deficit.peer c.in-Deficit.topic Deficit c.capped_deficit.result
    c.in_ok-raise-in-Deficit.ensures.puts (ap raise_of c.in-Deficit.is ∙ charged c.in-Deficit.peer c.in-Deficit.topic c.in-Deficit.amount c.capped_deficit.result c.capped_deficit.ensures) (ap blamed c.in-Deficit.is) a

pub returns-in_ok-raise-in-Invalid-clause-agrees : goal.returns-in_ok-raise-in-Invalid-clause-agrees
returns-in_ok-raise-in-Invalid-clause-agrees c = λ s H a.
    agrees_raise s c.args.self.now c.raise-in-Invalid.new.self H c.args.mark.now c.in-Invalid.peer c.in-Invalid.topic Invalid one
    c.in_ok-raise-in-Invalid.ensures.puts (ap raise_of c.in-Invalid.is) (ap blamed c.in-Invalid.is) a

pub returns-in_ok-raise-in-First-clause-keeps : goal.returns-in_ok-raise-in-First-clause-keeps
returns-in_ok-raise-in-First-clause-keeps c =
    subst (Applies c.args.self.now c.raise.new.self) (sym c.in-First.is) c.in_ok-raise-in-First.ensures.puts

pub returns-in_ok-raise-in-Near-clause-keeps : goal.returns-in_ok-raise-in-Near-clause-keeps
returns-in_ok-raise-in-Near-clause-keeps c =
    subst (Applies c.args.self.now c.raise-in-Near.new.self) (sym c.in-Near.is) c.in_ok-raise-in-Near.ensures.puts

pub returns-in_ok-raise-in-Invalid-clause-keeps : goal.returns-in_ok-raise-in-Invalid-clause-keeps
returns-in_ok-raise-in-Invalid-clause-keeps c =
    subst (Applies c.args.self.now c.raise-in-Invalid.new.self) (sym c.in-Invalid.is) c.in_ok-raise-in-Invalid.ensures.puts

pub returns-in_ok-raise-in-Deficit-clause-keeps : goal.returns-in_ok-raise-in-Deficit-clause-keeps
returns-in_ok-raise-in-Deficit-clause-keeps c =
    let k = c.args.self.now in
    let new = c.raise-in-Deficit.new.self in
    subst (Applies k new) (sym c.in-Deficit.is)
    (subst (RaisesIn k new c.in-Deficit.peer c.in-Deficit.topic Deficit) c.capped_deficit.ensures c.in_ok-raise-in-Deficit.ensures.puts)
