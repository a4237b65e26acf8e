use Rattle.log_model.proofs.Spelled.{position_is_index, no_position}
use Rattle.log_model.proofs.laws.position_is_index.Goals as goal

pub returns-clause-spelled : goal.returns-clause-spelled
returns-clause-spelled c = position_is_index

pub returns-clause-not_spelled : goal.returns-clause-not_spelled
returns-clause-not_spelled c = no_position
