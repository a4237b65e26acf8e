use Rattle.node_model.specs.GathererRow.{gatherer_role, outcome as gatherer_outcome}
use Rattle.node_model.specs.OrdererRow.{orderer_role, outcome as orderer_outcome}
use Rattle.node_model.specs.StorageRow.{outcome as storage_outcome, storage_role}
use Rattle.node_model.proofs.Turning.{turned}
use Rattle.node_model.proofs.rows.events_turn_out.Goals as goal

pub returns : goal.returns
unfolding storage_outcome gatherer_outcome orderer_outcome
returns c = record {
  storage = λ config member node input mark made e. turned (storage_role config member) node input mark made e;
  gatherer = λ config index node input mark made e. turned (gatherer_role config index) node input mark made e;
  orderer = λ config i node input mark made e. turned (orderer_role config i) node input mark made e;
}
