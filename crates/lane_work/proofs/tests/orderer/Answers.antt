use Rattle.core_step.specs.Standing.{cluster_node}
use Rattle.log_base.specs.Shape.{shape}
use Rattle.cluster.proofs.Empty.{nothing_flies, orderer_first}
use Rattle.lane_work.proofs.tests.orderer.Goals as goal

pub orderer-requires-clause-flight : goal.orderer-requires-clause-flight
orderer-requires-clause-flight c = nothing_flies c.in_ok-journal.journal.journal c.in_ok-journal.ensures

pub returns-in-Ok : goal.returns-in-Ok
returns-in-Ok c =
    orderer_first (shape c.args.config) c.args.node.0 c.in_ok-journal.journal.journal c.in_ok-journal.ensures c.requires.role
    (cluster_node (λ j. j.journal) c.in-Ok.node) c.in-Ok.ensures.config c.in-Ok.ensures.number c.in-Ok.ensures.state
