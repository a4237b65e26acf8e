use Rattle.log_model.proofs.Spelled.{one_position}
use Rattle.log_model.proofs.laws.no_place_twice.Goals as goal

pub returns : goal.returns
returns c = one_position
