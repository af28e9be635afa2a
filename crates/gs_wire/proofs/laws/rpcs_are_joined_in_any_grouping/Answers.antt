use Rattle.std.proofs.Common.{refl}
use Rattle.gs_wire.proofs.JoinedRpcs.{rpc_grouping, rpcs_append, controls_absent, rpcs_absent}
use Rattle.gs_wire.proofs.laws.rpcs_are_joined_in_any_grouping.Goals as goal

pub returns-clause-grouping : goal.returns-clause-grouping
returns-clause-grouping c = rpc_grouping

pub returns-clause-lists : goal.returns-clause-lists
returns-clause-lists c = rpcs_append

pub returns-clause-alone : goal.returns-clause-alone
returns-clause-alone c = λ v. refl

pub returns-clause-pairs : goal.returns-clause-pairs
returns-clause-pairs c = λ v w. refl

pub returns-clause-control : goal.returns-clause-control
returns-clause-control c = λ v w. controls_absent v.control w.control

pub returns-clause-absent : goal.returns-clause-absent
returns-clause-absent c = rpcs_absent
