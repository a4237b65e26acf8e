use Rattle.std.proofs.Common.{Some, ap, sym}
use Rattle.history_frame.specs.declared.inputs.Mark.{Mark}
use Rattle.core_step.proofs.Replicas.{replica_told}
use Rattle.core_step.proofs.Roles.{role_same, storage_turns}
use Rattle.core_step.proofs.part.replica.act_replica.Goals as goal

pub returns-clause-role : goal.returns-clause-role
returns-clause-role g c = role_same c.args.node.now c.act.new.self c.act.ensures.row.member

pub returns-clause-row : goal.returns-clause-row
returns-clause-row g c = storage_turns c.args.node.now c.act.new.self c.args.input.now c.act.result c.act.ensures.row

pub returns-clause-told : goal.returns-clause-told
returns-clause-told g c = λ other mark tells.
    replica_told c.args.node.now c.args.input.now c.act.result.mark mark c.act.ensures.row.made c.act.ensures.row.rule c.act.ensures.told other tells

pub returns-clause-opened : goal.returns-clause-opened
returns-clause-opened g c = λ start. ap (λ (m : Mark). Some m) (sym (c.act.ensures.opened start))
