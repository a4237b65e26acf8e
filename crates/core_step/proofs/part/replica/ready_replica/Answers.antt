use Rattle.storage_node.proofs.Elements.{on-ok}
use Rattle.core_step.proofs.Replicas.{replica_starts, turns_stay}
use Rattle.core_step.proofs.Roles.{storage_same}
use Rattle.core_step.proofs.part.replica.ready_replica.Goals as goal

pub returns-clause-same : goal.returns-clause-same
returns-clause-same g c = storage_same c.args.node.now c.ready.new.self c.ready.ensures.same c.ready.ensures.mode

pub returns-clause-turns : goal.returns-clause-turns
returns-clause-turns g c = λ other. turns_stay c.args.node.now.replica.media c.ready.new.self.replica.media (c.ready.ensures.media other)

pub returns-clause-opening : goal.returns-clause-opening
returns-clause-opening g c = λ start.
    on-ok c.ready.result _ _
    (replica_starts c.ready.new.self.replica.last_reload c.args.node.now.replica.media c.ready.new.self.replica.media) (c.ready.ensures.opening start)
