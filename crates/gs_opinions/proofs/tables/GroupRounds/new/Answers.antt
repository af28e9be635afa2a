use Rattle.gs_opinions.proofs.tables.GroupRounds.new.Goals as goal

pub returns : goal.returns
returns c = record { members = c.in_ok-members.ensures; rounds = c.in_ok-rounds.ensures }
