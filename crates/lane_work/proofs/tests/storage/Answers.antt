use Rattle.std.proofs.Common.{◌∙◌}
use Rattle.core_step.specs.Standing.{cluster_node}
use Rattle.log_base.specs.Shape.{shape}
use Rattle.cluster.proofs.Empty.{empty_hold, empty_rest, storage_first}
use Rattle.lane_work.proofs.tests.storage.Goals as goal

pub storage-requires-clause-records : goal.storage-requires-clause-records
storage-requires-clause-records c = empty_hold (λ j. j.journal) c.in_ok-journals.journals.items c.in_ok-journals.ensures.empty

pub storage-requires-clause-flights : goal.storage-requires-clause-flights
storage-requires-clause-flights c = empty_rest (λ j. j.journal) c.in_ok-journals.journals.items c.in_ok-journals.ensures.empty

pub returns-in-Ok : goal.returns-in-Ok
returns-in-Ok c =
    storage_first (λ j. j.journal) (shape c.args.config) c.args.node.0 c.in_ok-journals.journals.items c.in_ok-journals.ensures.empty (c.in_ok-journals.ensures.count ∙ c.replicas.ensures)
    (cluster_node (λ j. j.journal) c.in-Ok.node) c.in-Ok.ensures.config c.in-Ok.ensures.number c.in-Ok.ensures.state
