use Rattle.log_model.proofs.Spelled.{segment_in_order}
use Rattle.log_model.proofs.laws.segment_in_order.Goals as goal

pub returns : goal.returns
returns c = segment_in_order
