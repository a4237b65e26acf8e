use Rattle.node_model.proofs.Naming.{gatherer_rows, orderer_rows, storage_rows}
use Rattle.node_model.proofs.rows.rows_are_named.Goals as goal

pub returns : goal.returns
returns c = record { storage = storage_rows; gatherer = gatherer_rows; orderer = orderer_rows }
